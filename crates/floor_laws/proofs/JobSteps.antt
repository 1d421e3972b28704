-- A substrate that is in no process job has no step done, where it is unfinished.
use Rattle.std.proofs.Common.{◌≡◌, ℕ, true, false, Option, Some, None, refl, sym, ◌∙◌, ap}
use Rattle.std.proofs.lemmas.Bool.{true≢false}
use Rattle.gem_tables.specs.Table.{is_one_of}
use Rattle.floor_moves.specs.Floor.{Loc, slot, aligner, arm, chamber, Floor, is_outside, is_finished}
use Rattle.floor_moves.specs.Valid.{Valid}

module _ (g : Floor) (v : Valid g) (n : ℕ) (kept : is_one_of g.substrates n ≡ true) (unfinished : is_finished (g.processing n) ≡ false) where
  pub none_done : g.jobs.is_member n ≡ false → g.steps_of n ≡ 0
  none_done out = of (g.place_of n) refl where
    -- one that is outside is in a job
    away : (o : Option Loc) → g.place_of n ≡ o → is_outside o ≡ true → g.steps_of n ≡ 0
    away o at outside = absurd (true≢false (sym (v.members.outside n (ap is_outside at ∙ outside)) ∙ out))

    of : (o : Option Loc) → g.place_of n ≡ o → g.steps_of n ≡ 0
    of None at = absurd (true≢false (sym (v.removed n kept at) ∙ unfinished))
    of (Some (slot p k)) at = v.steps.fresh n kept (v.steps.in_slot n p k at unfinished)
    of (Some aligner) at = away (Some aligner) at refl
    of (Some arm) at = away (Some arm) at refl
    of (Some (chamber c)) at = away (Some (chamber c)) at refl
