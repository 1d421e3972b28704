use Rattle.std.proofs.Common.{ℕ, List, true≢false, is_some, option_map, sym, ap, ◌∙◌}
use Rattle.process_job.specs.Jobs.{JobBook, job_named}
use Rattle.records.proofs.Truth.{is_there}
use Rattle.tool_jobs.specs.Jobs.{owner}
use Rattle.job_requests.proofs.Named.{process_same, none_known}
use Rattle.job_requests.proofs.control.is_owned.Goals as goal

pub returns-in-Some : goal.returns-in-Some
returns-in-Some c = λ known.
    c.is_some.ensures
    ∙ sym (is_there (λ x. x.now) c.owner.result)
    ∙ ap is_some c.owner.ensures
    ∙ ap (λ (n : List ℕ). is_some (owner n c.args.jobs.now)) (process_same c.args.name c.in-Some.id c.args.jobs.now.process.kept
    (sym c.in-Some.is ∙ c.process_id.ensures ∙ ap (λ (b : JobBook). option_map (λ j. j.id) (job_named c.args.name b.kept)) c.process.ensures.jobs))

pub returns-in-None : goal.returns-in-None
returns-in-None c = λ known. absurd (true≢false (sym known ∙ none_known c.args.name c.args.jobs.now.process.kept
    (sym c.in-None.is ∙ c.process_id.ensures ∙ ap (λ (b : JobBook). option_map (λ j. j.id) (job_named c.args.name b.kept)) c.process.ensures.jobs)))
