use Rattle.control_job.proofs.Holding.{room_left, no_less}
use Rattle.control_job.proofs.jobs.put_first.Goals as goal

pub unreachable-requires : goal.unreachable-requires
unreachable-requires c =
    let was = c.args.order.now in
    let left = c.keep_other_numbers.new.order in
    no_less left.len left.cap
    (room_left c.args.number was.items left.items was.len was.cap left.len left.cap c.requires c.keep_other_numbers.ensures.order was.ok.0 was.ok.1 left.ok.0 c.keep_other_numbers.ensures.room)
    c.in-Err.ensures.full
