use Rattle.std.proofs.Common.{◌≡◌, drop}
use Rattle.gem_model.specs.Fire.{fire_all}
use Rattle.core_state.specs.Firing.{AreCreated}
use Rattle.core_state.proofs.plant.Plant.fire_created.Given as goal

-- the rows that are left lead to the same state as all at first, and each of them starts
abbrev pub invariant-loop-f : goal.invariant-loop-f
invariant-loop-f l = record {
  leads : fire_all (drop l.f-index l.created) l.self ≡ fire_all l.initial.created l.initial.self;
  created : AreCreated l.self.floor (drop l.f-index l.created);
}
