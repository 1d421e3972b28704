use Rattle.std.proofs.Common.{◌+◌, ◌<◌, ℕ}
use Rattle.gem_ids.specs.Texts.{IsText}
use Rattle.gem_ids.specs.declared.numbers.LocId.TheVariants.{Chamber}
use Rattle.gem_model.specs.Values.{substrate_text}
use Rattle.plant_values.proofs.seen.Seen.named_chambers.Given as goal

-- the chambers before this place are named by texts
abbrev pub invariant-loop-place : goal.invariant-loop-place
invariant-loop-place l = (i : ℕ) → i < l.place → IsText (substrate_text l.initial.self (Chamber (i + 1)))
