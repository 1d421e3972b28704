use Rattle.std.proofs.Common.{◌≡◌, ◌+◌, ◌++◌, length, map, vec_len, vec_capacity, Some}
use Rattle.tool_crew.specs.Seating.{AllOf}
use Rattle.tool_crew.specs.declared.seat.Seat.{Seat}
use Rattle.tool_crew.proofs.seating.unseat_all.Given as goal

abbrev pub invariant-loop-seat : goal.invariant-loop-seat
invariant-loop-seat g l =
    (goal.iterator-loop-seat g).can_next l.seat-iterator ×
    (goal.iterator-loop-seat g).is_finite l.seat-iterator
    × (map Some l.chairs.items ≡ map (λ (s : Seat _ _ _ _). s.chair) l.yielded) × (vec_capacity l.chairs ≡ vec_capacity l.fn.room) × (vec_len l.chairs ≡ length l.yielded)
    × AllOf l.shared l.seat-iterator.rest.items
