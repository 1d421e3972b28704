use Rattle.std.proofs.Common.{ℕ, List, sym, ap, ◌∙◌}
use Rattle.control_job.specs.Commands.{command_answer}
use Rattle.job_requests.proofs.Named.{control_same}
use Rattle.job_requests.proofs.queue.control_answer.Goals as goal

pub returns-in-Some : goal.returns-in-Some
returns-in-Some c =
    c.command.ensures
    ∙ ap (λ (n : List ℕ). command_answer n c.args.cmd c.args.control.now.jobs) (control_same c.args.job c.in-Some.id c.args.control.now.jobs (sym c.in-Some.is ∙ c.control_id.ensures))
