use Rattle.std.proofs.Common.{sym, ◌∙◌}
use Rattle.item_model.specs.View.{view}
use Rattle.request_model.specs.Requests.{is_job_name, is_empty_list}
use Rattle.request_model.specs.declared.error.JobError.TheVariants.{UnknownObject, NotNow, NotOffered}
use Rattle.job_requests.proofs.Refused.{past_tests}
use Rattle.job_requests.proofs.process.process_error.Goals as goal

pub returns-clause-error : goal.returns-clause-error
returns-clause-error c = λ start.
    c.creation_error.ensures start
    ∙ sym (past_tests c.args.local (is_empty_list (view c.args.events.now)) (is_job_name c.args.job) NotNow NotOffered UnknownObject _ c.if-local.false
    (sym c.is_empty_list.ensures ∙ c.if-not-is_empty_list.false) (sym c.is_job_name.ensures ∙ c.if-not-is_job_name.false))
