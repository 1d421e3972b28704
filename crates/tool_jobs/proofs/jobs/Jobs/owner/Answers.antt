use Rattle.std.proofs.Common.{sym, ap, ◌∙◌}
use Rattle.control_job.specs.Jobs.{owns, numbers_of}
use Rattle.control_job.proofs.Orders.{rising_apart}
use Rattle.tool_jobs.specs.Jobs.{owner}
use Rattle.tool_jobs.proofs.Control.{numbered_found}
use Rattle.tool_jobs.proofs.jobs.Jobs.owner.Goals as goal

pub returns-in-Some : goal.returns-in-Some
returns-in-Some c =
    let jobs = c.self.inside.control.jobs in
    c.get.ensures
    ∙ numbered_found (owns c.args.job) c.in-Some.number jobs (rising_apart 0 c.self.inside.control.given (numbers_of jobs) c.self.invariant.control.rising) (sym c.owner.ensures ∙ c.in-Some.is)
    ∙ ap (owner c.args.job) c.self.view_is
