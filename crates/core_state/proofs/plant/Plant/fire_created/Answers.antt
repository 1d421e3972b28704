use Rattle.std.proofs.Common.{◌≡◌, ◌∷◌, ◌+◌, ◌∙◌, List, drop, get_or, refl, sym, ap, subst}
use Rattle.gem_tables.specs.declared.firing.Firing.{Firing}
use Rattle.floor_model.specs.Floor.{ToolFloor}
use Rattle.gem_model.specs.State.{State}
use Rattle.gem_model.specs.Fire.{fire_all}
use Rattle.core_state.specs.Firing.{AreCreated}
use Rattle.core_state.proofs.Floors.{row_floor, next_of, drop_end}
use Rattle.core_state.proofs.plant.Plant.fire_created.Goals as goal

pub loop-f-init : goal.loop-f-init
loop-f-init c = record { leads = refl; created = c.requires }

pub floor_row-requires : goal.floor_row-requires
floor_row-requires c =
    let none : Firing = record { row = record { table = 0; row = 0 }; object = 0 } in
    let here = subst (AreCreated c.loop-f.self.floor) (next_of c.args.created.now c.loop-f.f-index none c.loop-f-test.true) c.loop-f.invariant.created in
    here.0.0

pub loop-f-preserved : goal.loop-f-preserved
loop-f-preserved c =
    let none : Firing = record { row = record { table = 0; row = 0 }; object = 0 } in
    let more = next_of c.args.created.now c.loop-f.f-index none c.loop-f-test.true in
    let here = subst (AreCreated c.loop-f.self.floor) more c.loop-f.invariant.created in
    let d = get_or c.args.created.now c.loop-f.f-index none in
    let floor = ap (λ (g : State). g.floor) c.in_ok-floor_row.ensures.fired ∙ row_floor c.loop-f.self d here.0.0 ∙ here.0.1 in
    record {
      leads = ap (fire_all (drop (c.loop-f.f-index + 1) c.args.created.now)) c.in_ok-floor_row.ensures.fired
          ∙ sym (ap (λ (ds : List Firing). fire_all ds c.loop-f.self) more) ∙ c.loop-f.invariant.leads;
      created = subst (λ (f : ToolFloor). AreCreated f (drop (c.loop-f.f-index + 1) c.args.created.now)) (sym floor) here.1;
    }

pub returns : goal.returns
returns c = sym (ap (λ (ds : List Firing). fire_all ds c.loop-f.self) (drop_end c.args.created.now c.loop-f.f-index c.loop-f-test.false)) ∙ c.loop-f.invariant.leads
