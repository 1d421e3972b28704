use Rattle.std.proofs.Common.{sym, subst}
use Rattle.records.specs.Stock.{Stock}
use Rattle.control_job.specs.Kept.{AreKept}
use Rattle.control_job.specs.declared.job.ControlJob.{ControlJob}
use Rattle.control_job.proofs.Holding.{kept_forgotten}
use Rattle.control_job.proofs.jobs.ControlJobs.forget.Goals as goal

pub invariant_of-self : goal.invariant_of-self
invariant_of-self c =
    let was = c.self.inside in
    subst (λ (b : Stock ControlJob). AreKept b c.keep_other_numbers.new.order.items was.given c.keep_other_numbers.new.order.cap) (sym c.forget_numbered.ensures)
    (kept_forgotten was.jobs was.order.items _ was.given was.order.cap _ c.args.number c.args.self.now c.self.view_is c.self.invariant
    c.keep_other_numbers.ensures.order c.keep_other_numbers.ensures.room c.requires)
