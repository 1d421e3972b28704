use Rattle.tool_jobs.proofs.Ending.{created_by}
use Rattle.tool_jobs.proofs.jobs.Jobs.create_process.Goals as goal

pub invariant_of-self : goal.invariant_of-self
invariant_of-self c =
    created_by c.args.job c.create.new.self (record { process = c.self.inside.process; control = c.self.inside.control }) c.create.result
    c.create.ensures.created c.create.ensures.unchanged c.create.ensures.refused c.self.invariant
