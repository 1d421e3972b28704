use Rattle.std.proofs.Common.{ℕ, List, sym, ap, ◌∙◌}
use Rattle.process_job.specs.Commands.{command_answer}
use Rattle.job_requests.proofs.Named.{process_same}
use Rattle.job_requests.proofs.command.process_answer.Goals as goal

pub returns-in-Some : goal.returns-in-Some
returns-in-Some c =
    c.command.ensures
    ∙ ap (λ (n : List ℕ). command_answer n c.args.word c.args.process.now) (process_same c.args.job c.in-Some.id c.args.process.now.kept (sym c.in-Some.is ∙ c.process_id.ensures))
