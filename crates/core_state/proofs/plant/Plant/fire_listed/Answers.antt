use Rattle.std.proofs.Common.{◌≡◌, ◌+◌, ◌∙◌, List, drop, refl, sym, ap}
use Rattle.gem_tables.specs.declared.firing.Firing.{Firing}
use Rattle.gem_model.specs.Fire.{fire_listed}
use Rattle.core_state.proofs.Floors.{listed_at, listed_more, drop_end}
use Rattle.core_state.proofs.plant.Plant.fire_listed.Goals as goal

pub loop-f-init : goal.loop-f-init
loop-f-init c = refl

pub listed_row-requires : goal.listed_row-requires
listed_row-requires c = listed_at c.args.firings.now c.loop-f.f-index (record { row = record { table = 0; row = 0 }; object = 0 }) c.requires c.loop-f-test.true

pub loop-f-preserved : goal.loop-f-preserved
loop-f-preserved c =
    ap (fire_listed (drop (c.loop-f.f-index + 1) c.args.firings.now)) c.in_ok-listed_row.ensures
    ∙ sym (listed_more c.args.firings.now c.loop-f.f-index (record { row = record { table = 0; row = 0 }; object = 0 }) c.loop-f.self c.loop-f-test.true)
    ∙ c.loop-f.invariant

pub returns : goal.returns
returns c = sym (ap (λ (fs : List Firing). fire_listed fs c.loop-f.self) (drop_end c.args.firings.now c.loop-f.f-index c.loop-f-test.false)) ∙ c.loop-f.invariant
