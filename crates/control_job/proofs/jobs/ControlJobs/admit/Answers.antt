use Rattle.std.proofs.Common.{◌≡◌, ◌<◌, ℕ, List, false, length, ap, sym, subst}
use Rattle.control_job.specs.Jobs.{JobStore, is_kept, most_jobs}
use Rattle.control_job.specs.declared.job.ControlJob.{ControlJob}
use Rattle.control_job.proofs.Room.{room_after}
use Rattle.control_job.proofs.jobs.ControlJobs.admit.Goals as goal

pub add-requires-clause-unknown : goal.add-requires-clause-unknown
add-requires-clause-unknown c =
    let called = ap (λ (j : ControlJob). j.name) c.in_ok-job.ensures.job in
    subst (λ (name : List ℕ). is_kept name c.replace.new.self.jobs ≡ false) (sym called)
    (subst (λ (s : JobStore). is_kept c.args.id s.jobs ≡ false) (sym c.replace.ensures)
    (room_after c.args.id c.args.jobs.now c.args.self.now c.next_job.ensures.jobs c.requires).0)

pub add-requires-clause-few : goal.add-requires-clause-few
add-requires-clause-few c =
    subst (λ (s : JobStore). length s.jobs < most_jobs) (sym c.replace.ensures)
    (room_after c.args.id c.args.jobs.now c.args.self.now c.next_job.ensures.jobs c.requires).1
