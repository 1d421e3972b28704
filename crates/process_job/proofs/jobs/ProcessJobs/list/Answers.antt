use Rattle.std.proofs.Common.{◌∙◌, take}
use Rattle.process_job.specs.Listing.{job_items}
use Rattle.process_job.proofs.Items.{first_joined}
use Rattle.process_job.proofs.jobs.ProcessJobs.list.Goals as goal

pub returns-in-Err-clause-no_memory : goal.returns-in-Err-clause-no_memory
returns-in-Err-clause-no_memory c =
    let some = rw c.in-Err.is at c.push_jobs.ensures.first in
    c.truncate.ensures ∙ rw (c.len-count.ensures, some.1) (first_joined c.args.out.now (job_items (take some.0 c.args.self.now.kept)))
