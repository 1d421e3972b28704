use Rattle.std.proofs.Common.{◌≡◌, ℕ, ◌∙◌, List, OnOk, ap, subst}
use Rattle.gem_tables.specs.declared.firing.Firing.{Firing}
use Rattle.floor_model.specs.Signals.{closing_rows}
use Rattle.gem_model.specs.State.{State}
use Rattle.gem_model.specs.Fire.{fire_listed}
use Rattle.gem_model.specs.Noting.{sets_alarm}
use Rattle.core_shop.proofs.signals.take_down.Goals as goal

pub returns : goal.returns
returns c =
    let rows = c.as_slice.ensures.value ∙ c.closing_rows-rows.ensures.rows in
    let set = c.in_ok-set_alarm.ensures ∙ ap (λ (n : ℕ). sets_alarm n c.args.plant.now) c.module_alarm.ensures in
    let same = ap (λ (fs : List Firing). fire_listed fs c.set_alarm.new.self) rows ∙ ap (λ (g : State). fire_listed (closing_rows c.args.row c.args.m.0 c.args.plant.now.floor) g) set in
    subst (λ (g : State). OnOk c.fire_listed.result (c.fire_listed.new.self ≡ g)) same c.fire_listed.ensures
