use Rattle.std.proofs.Common.{◌≡◌, false, IfOk, OnOk, option_map, Option, Bool, sym, ◌∙◌, subst}
use Rattle.gem_tables.specs.declared.firing.Firing.{Firing}
use Rattle.history_parts.specs.Additions.{completes}
use Rattle.core_state.specs.Firing.{fire_first}
use Rattle.core_settling.proofs.LeastRows.{least_rest}
use Rattle.core_settling.proofs.least.fire_least.Goals as goal

pub returns-clause-fired : goal.returns-clause-fired
returns-clause-fired c =
    subst (λ (f : Option Firing). IfOk c.fire_line_or_floor.result (λ (fired : Option Bool). fired ≡ option_map completes f))
    (sym (least_rest c.args.plant.now (sym c.asks_host.ensures ∙ c.if-asks_host.false) (sym c.gives_up.ensures ∙ c.if-gives_up.false))) c.fire_line_or_floor.ensures.fired

pub returns-clause-after : goal.returns-clause-after
returns-clause-after c =
    subst (λ (f : Option Firing). OnOk c.fire_line_or_floor.result (c.fire_line_or_floor.new.plant ≡ fire_first f c.args.plant.now))
    (sym (least_rest c.args.plant.now (sym c.asks_host.ensures ∙ c.if-asks_host.false) (sym c.gives_up.ensures ∙ c.if-gives_up.false))) c.fire_line_or_floor.ensures.after
