use Rattle.control_job.proofs.Holding.{kept_left}
use Rattle.control_job.proofs.jobs.ControlJobs.leaves.Goals as goal

pub invariant_of-self : goal.invariant_of-self
invariant_of-self c =
    let was = c.self.inside in
    kept_left was.jobs c.change_each.new.self was.order.items was.given was.order.cap c.args.job c.self.invariant c.change_each.ensures
