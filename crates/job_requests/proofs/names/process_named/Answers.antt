use Rattle.std.proofs.Common.{ℕ, List, sym, ap, ◌∙◌}
use Rattle.process_job.specs.Jobs.{job_named}
use Rattle.job_requests.proofs.Named.{process_same}
use Rattle.job_requests.proofs.names.process_named.Goals as goal

pub returns-in-Some : goal.returns-in-Some
returns-in-Some c =
    c.find.ensures.value
    ∙ ap (λ (n : List ℕ). job_named n c.args.process.now.kept) (process_same c.args.name c.in-Some.id c.args.process.now.kept (sym c.in-Some.is ∙ c.process_id.ensures))
