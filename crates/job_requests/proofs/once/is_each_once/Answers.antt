use Rattle.std.proofs.Common.{◌∙◌, ap}
use Rattle.job_requests.specs.Neighbours.{are_neighbours_apart}
use Rattle.job_requests.proofs.Repeats.{apart_in_order, once_in_any_order}
use Rattle.job_requests.proofs.once.is_each_once.Goals as goal

pub returns-clause-once : goal.returns-clause-once
returns-clause-once c =
    let ordered = c.in_ok-ordered.ordered.items in
    c.are_neighbours_apart.ensures
    ∙ ap (λ ns. are_neighbours_apart ns) c.as_slice.ensures.value
    ∙ apart_in_order ordered c.in_ok-ordered.ensures.order
    ∙ once_in_any_order c.args.names.now ordered c.in_ok-ordered.ensures.same
