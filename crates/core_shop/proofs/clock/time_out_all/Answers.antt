use Rattle.std.proofs.Common.{◌≡◌, true, sym, ap, ◌∙◌}
use Rattle.gem_model.specs.State.{State}
use Rattle.gem_model.specs.Fire.{fires}
use Rattle.gem_model.specs.Direct.{timeout_rows}
use Rattle.gem_model.specs.Sending.{data_header, sends_stream9}
use Rattle.gem_model.specs.Due.{timeouts, timed_out, all_done}
use Rattle.core_shop.proofs.Timeouts.{timeouts_next, timeouts_fewer}
use Rattle.core_shop.proofs.clock.time_out_all.Goals as goal

pub loop-one-smaller : goal.loop-one-smaller
loop-one-smaller c =
    let one = c.in-Some.one in
    let timed : c.time_out.new.plant ≡ timed_out one c.loop-one.plant =
    c.in_ok-time_out.ensures ∙ ap (λ (h : State). fires (timeout_rows one.what) (sends_stream9 9 (data_header h.config.device true one.stream one.function one.system) h)) c.in-Some.ensures.after in
    rw timed (timeouts_fewer c.loop-one.plant one (sym c.in-Some.ensures.first))

pub loop-one-preserved : goal.loop-one-preserved
loop-one-preserved c =
    let one = c.in-Some.one in
    let timed : c.time_out.new.plant ≡ timed_out one c.loop-one.plant =
    c.in_ok-time_out.ensures ∙ ap (λ (h : State). fires (timeout_rows one.what) (sends_stream9 9 (data_header h.config.device true one.stream one.function one.system) h)) c.in-Some.ensures.after in
    ap (λ (g : State). all_done (timeouts g) g) timed ∙ sym (timeouts_next c.loop-one.plant one (sym c.in-Some.ensures.first)) ∙ c.loop-one.invariant
