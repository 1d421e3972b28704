use Rattle.std.proofs.Common.{◌≡◌, List, ◌++◌, Ok}
use Rattle.std.specs.Vec.Iter.{into_iter_items}
use Rattle.hsms_frame.specs.declared.frame.Arrival.{Arrival}
use Rattle.actors.specs.ReaderSteps.{MessagesPosted}
use Rattle.actors.proofs.reader.post_messages.Given as goal

-- all messages before the next one were posted
abbrev pub invariant-loop-arrival : goal.invariant-loop-arrival
invariant-loop-arrival g l =
    let D = g.D.Desk in
    (done : List Arrival) × (l.fn.arrivals.items ≡ done ++ into_iter_items l.arrival-iterator)
    × MessagesPosted l.session done (D.fulls l.fn.desk) (D.fulls l.desk) (D.wants l.fn.desk) (D.wants l.desk) (D.posts l.fn.desk) (D.posts l.desk) (Ok tt)
