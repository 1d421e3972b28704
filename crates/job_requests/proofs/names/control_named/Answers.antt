use Rattle.std.proofs.Common.{ℕ, List, sym, ap, ◌∙◌}
use Rattle.control_job.specs.Jobs.{job_named}
use Rattle.job_requests.proofs.Named.{control_same}
use Rattle.job_requests.proofs.names.control_named.Goals as goal

pub returns-in-Some : goal.returns-in-Some
returns-in-Some c =
    c.find.ensures
    ∙ ap (λ (n : List ℕ). job_named n c.args.control.now.jobs) (control_same c.args.name c.in-Some.id c.args.control.now.jobs (sym c.in-Some.is ∙ c.control_id.ensures))
