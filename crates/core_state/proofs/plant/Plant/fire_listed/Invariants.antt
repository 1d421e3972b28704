use Rattle.std.proofs.Common.{◌≡◌, drop}
use Rattle.gem_model.specs.Fire.{fire_listed}
use Rattle.core_state.proofs.plant.Plant.fire_listed.Given as goal

-- the rows that are left lead to the same state as all at first
abbrev pub invariant-loop-f : goal.invariant-loop-f
invariant-loop-f l = fire_listed (drop l.f-index l.firings) l.self ≡ fire_listed l.initial.firings l.initial.self
