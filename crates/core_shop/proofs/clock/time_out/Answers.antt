use Rattle.std.proofs.Common.{◌≡◌, ◌∙◌, List, OnOk, ap, subst, sym}
use Rattle.gem_tables.specs.declared.firing.Firing.{Firing}
use Rattle.gem_model.specs.State.{State}
use Rattle.gem_model.specs.Fire.{fire_listed, fires}
use Rattle.gem_model.specs.Direct.{timeout_rows}
use Rattle.core_shop.proofs.clock.time_out.Goals as goal

pub returns : goal.returns
returns c =
    let same = ap (λ (rows : List Firing). fire_listed rows c.tell_timeout.new.plant) (sym c.timeout_row-row.ensures.row) ∙ ap (λ (g : State). fires (timeout_rows c.args.one.what) g) c.in_ok-tell_timeout.ensures in
    subst (λ (g : State). OnOk c.fire_listed.result (c.fire_listed.new.self ≡ g)) same c.fire_listed.ensures
