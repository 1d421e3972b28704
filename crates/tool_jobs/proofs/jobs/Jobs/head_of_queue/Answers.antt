use Rattle.std.proofs.Common.{sym, subst}
use Rattle.control_job.specs.Jobs.{JobStore}
use Rattle.tool_jobs.specs.Together.{AreTogether}
use Rattle.tool_jobs.proofs.Together.{together_headed}
use Rattle.tool_jobs.proofs.jobs.Jobs.head_of_queue.Goals as goal

pub invariant_of-self : goal.invariant_of-self
invariant_of-self c =
    subst (λ (s : JobStore). AreTogether (record { process = c.self.inside.process; control = s })) (sym c.head_of_queue.ensures.after)
    (together_headed c.args.id (record { process = c.self.inside.process; control = c.self.inside.control }) c.self.invariant)
