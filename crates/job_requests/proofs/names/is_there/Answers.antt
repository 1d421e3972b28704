use Rattle.std.proofs.Common.{ap, ◌∙◌, is_some}
use Rattle.process_job.specs.Jobs.{has_name, job_named}
use Rattle.records.proofs.Places.{known_found}
use Rattle.records.proofs.Truth.{is_there}
use Rattle.job_requests.proofs.names.is_there.Goals as goal

pub returns : goal.returns
returns c =
    c.is_some.ensures
    ∙ ap is_some c.process_id.ensures
    ∙ is_there (λ j. j.id) (job_named c.args.name c.args.process.now.kept)
    ∙ known_found (has_name c.args.name) c.args.process.now.kept
