use Rattle.std.proofs.Common.{rules, ℕ, ◌==◌, Bool, not}
use Rattle.std.proofs.lemmas.Fn.{filter_same}
use Rattle.control_job.proofs.jobs.keep_other_numbers.Goals as goal

pub returns-clause-order : goal.returns-clause-order
returns-clause-order c =
    let test : ℕ → Bool = λ n. not (n == c.args.number) in
    filter_same _ test _ (λ p b f k. search rules) _ _ c.retain.ensures.filtered
