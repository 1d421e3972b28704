use Rattle.std.proofs.Common.{sym, ◌∙◌}
use Rattle.control_job.proofs.Holding.{waiting_in, kept_first}
use Rattle.control_job.proofs.jobs.ControlJobs.head_of_queue.Goals as goal

pub put_first-requires : goal.put_first-requires
put_first-requires c =
    let was = c.self.inside in
    waiting_in was.jobs c.as_slice.result.now was.order.items was.given was.order.cap c.in-Some.number c.args.id c.self.invariant c.as_slice.ensures (sym c.waiting_named.ensures ∙ c.in-Some.is)

pub invariant_of-self : goal.invariant_of-self
invariant_of-self c =
    let was = c.self.inside in
    kept_first was.jobs was.order.items _ was.given was.order.cap _ c.in-Some.number c.self.invariant
    (waiting_in was.jobs c.as_slice.result.now was.order.items was.given was.order.cap c.in-Some.number c.args.id c.self.invariant c.as_slice.ensures (sym c.waiting_named.ensures ∙ c.in-Some.is))
    c.put_first.ensures.order c.put_first.ensures.room
