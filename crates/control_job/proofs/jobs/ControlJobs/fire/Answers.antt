use Rattle.std.proofs.Common.{sym, ◌∙◌}
use Rattle.control_job.proofs.Holding.{starting_in, kept_fired, kept_last}
use Rattle.control_job.proofs.jobs.ControlJobs.fire.Goals as goal

pub put_last-requires : goal.put_last-requires
put_last-requires c =
    let was = c.self.inside in
    starting_in was.jobs was.order.items was.given was.order.cap c.args.number c.args.row c.args.self.now c.self.view_is c.self.invariant (sym c.starts_row-starts.ensures ∙ c.if-starts.true)

pub invariant_of-self : goal.invariant_of-self
invariant_of-self c =
    let was = c.self.inside in
    kept_last c.change_each.new.self was.order.items _ was.given was.order.cap _ c.args.number
    (kept_fired was.jobs c.change_each.new.self was.order.items was.given was.order.cap c.args.number c.args.row c.self.invariant c.change_each.ensures)
    (starting_in was.jobs was.order.items was.given was.order.cap c.args.number c.args.row c.args.self.now c.self.view_is c.self.invariant (sym c.starts_row-starts.ensures ∙ c.if-starts.true))
    c.put_last.ensures.order c.put_last.ensures.room

pub invariant_of-self-else-starts : goal.invariant_of-self-else-starts
invariant_of-self-else-starts c =
    let was = c.self.inside in
    kept_fired was.jobs c.change_each.new.self was.order.items was.given was.order.cap c.args.number c.args.row c.self.invariant c.change_each.ensures

pub invariant_of-self-else-row-eq10 : goal.invariant_of-self-else-row-eq10
invariant_of-self-else-row-eq10 c =
    let was = c.self.inside in
    kept_fired was.jobs c.change_each.new.self was.order.items was.given was.order.cap c.args.number c.args.row c.self.invariant c.change_each.ensures
