use Rattle.std.proofs.Common.{◌≡◌, ◌<◌, ℕ, [], Some, slice_get}
use Rattle.std.specs.Prelude.{unwrap_or}
use Rattle.gem_ids.specs.Texts.{IsText}
use Rattle.load_port.specs.declared.port.Port.{Port}
use Rattle.plant_values.proofs.seen.Seen.named_ports.Given as goal

-- the ports before this place are named by texts
abbrev pub invariant-loop-place : goal.invariant-loop-place
invariant-loop-place l = (i : ℕ) (p : Port) → i < l.place → slice_get l.self.floor.shop.ports i ≡ Some p → IsText (unwrap_or p.carrier [])
