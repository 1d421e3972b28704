use Rattle.std.proofs.Common.{sym, ◌∙◌}
use Rattle.control_job.proofs.Room.{replaced_in}
use Rattle.control_job.proofs.jobs.ControlJobs.replace.Goals as goal

pub forget-requires : goal.forget-requires
forget-requires c = replaced_in c.args.id c.args.self.now.jobs c.in-Some.number (sym c.replaced_by.ensures ∙ c.in-Some.is)
