use Rattle.std.proofs.Common.{◌≡◌, map, Some}
use Rattle.tool_crew.specs.declared.seat.Seat.{Seat}
use Rattle.tool_crew.proofs.seating.seat_all.Given as goal

abbrev pub invariant-loop-chair : goal.invariant-loop-chair
invariant-loop-chair g l = map (λ (s : Seat _ _ _ _). s.chair) l.seats.items ≡ map Some l.yielded
