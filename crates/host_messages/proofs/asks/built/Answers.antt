use Rattle.std.proofs.Common.{ℕ, is_some, sym, ◌∙◌}
use Rattle.gem_model.specs.Values.{status_value}
use Rattle.host_messages.proofs.Picking.{picked, passed}
use Rattle.host_messages.proofs.asks.built.Goals.{then-is_status+in_ok-push, else-is_status}
use Rattle.host_messages.proofs.asks.built.Goals as goal

pub loop-vid-preserved : goal.loop-vid-preserved
loop-vid-preserved c = elim c.if-is_status.branch [
  | then-is_status+in_ok-push w ↦
      rw (w.vids-is, w.in_ok-push.ensures.items)
      (picked (λ (n : ℕ). is_some (status_value c.args.seen.now n)) c.args.all.now c.loop-vid.vids.items c.loop-vid.vid-index 0 c.loop-vid-test.true (sym c.is_status.ensures ∙ w.if-is_status.true) c.loop-vid.invariant)
  | else-is_status w ↦
      rw w.vids-is
      (passed (λ (n : ℕ). is_some (status_value c.args.seen.now n)) c.args.all.now c.loop-vid.vids.items c.loop-vid.vid-index 0 c.loop-vid-test.true (sym c.is_status.ensures ∙ w.if-is_status.false) c.loop-vid.invariant)
]
