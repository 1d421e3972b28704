use Rattle.std.proofs.Common.{◌≡◌}
use Rattle.picture_svg.proofs.picture.Picture.put_way.Given as goal

abbrev pub invariant-loop-three : goal.invariant-loop-three
invariant-loop-three l =
    (goal.iterator-loop-three).can_next l.three-iterator ×
    ((goal.iterator-loop-three).is_finite l.three-iterator ×
    (l.self ≡ l.fn.self))
