use Rattle.std.proofs.Common.{◌∙◌, ap, sym, is_some}
use Rattle.records.proofs.Truth.{is_there}
use Rattle.records.proofs.Places.{known_found}
use Rattle.process_job.specs.Jobs.{has_name}
use Rattle.process_job.proofs.jobs.ProcessJobs.is_known.Goals as goal

pub returns : goal.returns
returns c =
    c.is_some.ensures
    ∙ sym (is_there (λ x. x.now) c.find.result)
    ∙ ap is_some c.find.ensures.value
    ∙ known_found (has_name c.args.id) c.args.self.now.kept
