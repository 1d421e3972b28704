use Rattle.std.proofs.Common.{◌≡◌}
use Rattle.actors.specs.Operating.{desk_told}
use Rattle.actors.proofs.operator.watch.Given as goal

-- nothing was posted yet
abbrev pub invariant-loop : goal.invariant-loop
invariant-loop g l =
    let desk = desk_told g.D.Desk.posts g.D.Desk.fulls g.D.Desk.wants in
    (goal.iterator-loop g).can_next l.iterator' × (goal.iterator-loop g).is_finite l.iterator' × (desk l.desk ≡ desk l.fn.desk)
