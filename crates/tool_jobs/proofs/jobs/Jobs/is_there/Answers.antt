use Rattle.std.proofs.Common.{◌∙◌, ap, sym, is_some}
use Rattle.process_job.specs.Jobs.{has_name, is_known}
use Rattle.records.proofs.Truth.{is_there}
use Rattle.records.proofs.Places.{known_found}
use Rattle.tool_jobs.specs.Jobs.{Jobs}
use Rattle.tool_jobs.proofs.jobs.Jobs.is_there.Goals as goal

pub returns : goal.returns
returns c =
    c.is_some.ensures
    ∙ sym (is_there (λ x. x.now) c.find.result)
    ∙ ap is_some c.find.ensures.value
    ∙ known_found (has_name c.args.job) c.self.inside.process.kept
    ∙ ap (λ (w : Jobs). is_known c.args.job w.process.kept) c.self.view_is
