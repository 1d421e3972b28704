use Rattle.std.proofs.Common.{rules, ℕ, Bool, not, List, bytes_eq}
use Rattle.std.proofs.lemmas.Fn.{filter_same}
use Rattle.control_job.proofs.names.keep_others.Goals as goal

pub returns : goal.returns
returns c =
    let test : List ℕ → Bool = λ n. not (bytes_eq n c.args.name) in
    filter_same _ test _ (λ p b f k. search rules) _ _ c.retain.ensures.filtered
