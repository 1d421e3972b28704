use Rattle.std.proofs.Common.{◌≡◌, false, sym, ap, ◌∙◌, is_some, option_map}
use Rattle.gem_model.specs.State.{State}
use Rattle.gem_model.specs.Ready.{ready_line, ready_floor}
use Rattle.history_parts.specs.Additions.{completes}
use Rattle.core_state.specs.Firing.{fire_first}
use Rattle.core_settling.proofs.LeastRows.{line_none, or_first, or_behind, or_stays}
use Rattle.core_settling.proofs.least.fire_line_or_floor.Goals as goal

pub returns-then-branch-clause-fired : goal.returns-then-branch-clause-fired
returns-then-branch-clause-fired c = line_none c.args.plant.now (ready_floor c.args.plant.now) (sym c.in_ok-line_row.ensures.fired ∙ c.if-branch.true)

pub returns-then-branch-clause-after : goal.returns-then-branch-clause-after
returns-then-branch-clause-after c =
    c.in_ok-line_row.ensures.after ∙ or_first (ready_line c.args.plant.now) (ready_floor c.args.plant.now) c.args.plant.now (sym c.in_ok-line_row.ensures.fired ∙ c.if-branch.true)

pub returns-clause-fired : goal.returns-clause-fired
returns-clause-fired c =
    let g = c.args.plant.now in
    let none : is_some (ready_line g) ≡ false = sym c.in_ok-line_row.ensures.fired ∙ c.if-branch.false in
    let same : c.line_row.new.plant ≡ g = c.in_ok-line_row.ensures.after ∙ or_stays (ready_line g) g none in
    c.in_ok-fired.ensures.fired ∙ ap (λ (h : State). option_map completes (ready_floor h)) same ∙ ap (option_map completes) (or_behind (ready_line g) (ready_floor g) none)

pub returns-clause-after : goal.returns-clause-after
returns-clause-after c =
    let g = c.args.plant.now in
    let none : is_some (ready_line g) ≡ false = sym c.in_ok-line_row.ensures.fired ∙ c.if-branch.false in
    let same : c.line_row.new.plant ≡ g = c.in_ok-line_row.ensures.after ∙ or_stays (ready_line g) g none in
    c.in_ok-fired.ensures.after
    ∙ ap (λ (h : State). fire_first (ready_floor h) h) same
    ∙ ap (λ f. fire_first f g) (or_behind (ready_line g) (ready_floor g) none)
