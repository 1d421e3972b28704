use Rattle.std.proofs.Common.{◌≡◌, ◌+◌, Some, None, option_map, refl, ap, sym, ◌∙◌, arith}
use Rattle.gem_model.specs.State.{State}
use Rattle.gem_model.specs.Machines.{least}
use Rattle.gem_model.specs.Settle.{settled, settling}
use Rattle.gem_model.specs.Sizes.{counted}
use Rattle.history_parts.specs.Additions.{completes, completions}
use Rattle.core_settling.proofs.Firings.{fired_settles, fired_falls, none_settled, fired_counts, none_counts}
use Rattle.core_settling.proofs.settling.follow.Goals as goal

pub loop-completes-preserved : goal.loop-completes-preserved
loop-completes-preserved c =
    let g : State = c.loop-completes.plant in
    let fired : Some c.in-Some.completes ≡ option_map completes (least g) = sym c.in-Some.is ∙ c.in_ok-completes.ensures.fired in
    let after = c.in_ok-completes.ensures.after in
    let more = c.one_more-completed.ensures in
    record {
      state = ap settled after ∙ fired_settles g (least g) refl ∙ c.loop-completes.invariant.state;
      count = ap (λ (h : State). counted (c.one_more-completed.result + completions (settling h))) after
          ∙ fired_counts g (least g) c.in-Some.completes c.loop-completes.completed c.one_more-completed.result refl fired more
          ∙ c.loop-completes.invariant.count;
      small = omega (arith, more);
    }

pub loop-completes-smaller : goal.loop-completes-smaller
loop-completes-smaller c =
    let g : State = c.loop-completes.plant in
    let fired : Some c.in-Some.completes ≡ option_map completes (least g) = sym c.in-Some.is ∙ c.in_ok-completes.ensures.fired in
    rw c.in_ok-completes.ensures.after (fired_falls g (least g) c.in-Some.completes refl fired)

pub returns-clause-settled : goal.returns-clause-settled
returns-clause-settled c =
    let g : State = c.loop-completes.plant in
    let none : None ≡ option_map completes (least g) = sym c.in_default.is ∙ c.in_ok-completes.ensures.fired in
    c.in_ok-completes.ensures.after ∙ sym (none_settled g (least g) refl none) ∙ c.loop-completes.invariant.state

pub returns-clause-completed : goal.returns-clause-completed
returns-clause-completed c =
    let g : State = c.loop-completes.plant in
    let none : None ≡ option_map completes (least g) = sym c.in_default.is ∙ c.in_ok-completes.ensures.fired in
    none_counts g (least g) c.loop-completes.completed _ refl none c.loop-completes.invariant.small c.loop-completes.invariant.count
