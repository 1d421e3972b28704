use Rattle.std.proofs.Common.{sym, subst, ap, length, arith}
use Rattle.records.specs.Stock.{Stock}
use Rattle.control_job.specs.Jobs.{JobStore}
use Rattle.control_job.specs.Kept.{AreKept}
use Rattle.control_job.specs.declared.job.ControlJob.{ControlJob}
use Rattle.control_job.proofs.Holding.{kept_added}
use Rattle.control_job.proofs.jobs.ControlJobs.add.Goals as goal

pub push-requires : goal.push-requires
push-requires c =
    let room = c.self.invariant.job_room in
    let few = c.requires.few in
    let many = ap (λ (s : JobStore). length s.jobs) c.self.view_is in
    omega (arith, room, few, many)

pub invariant_of-self : goal.invariant_of-self
invariant_of-self c =
    let was = c.self.inside in
    subst (λ (b : Stock ControlJob). AreKept b c.push_reserved.new.self.items c.args.job.number c.push_reserved.new.self.cap) (sym c.push.ensures)
    (kept_added was.jobs was.order.items _ was.given was.order.cap _ c.args.self.now c.args.job c.self.view_is c.self.invariant
    c.push_reserved.ensures.items c.push_reserved.ensures.capacity
    c.requires.next c.requires.unknown c.requires.few)
