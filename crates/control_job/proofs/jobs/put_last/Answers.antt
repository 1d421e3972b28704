use Rattle.control_job.proofs.Holding.{room_left}
use Rattle.control_job.proofs.jobs.put_last.Goals as goal

pub push_reserved-requires : goal.push_reserved-requires
push_reserved-requires c =
    let was = c.args.order.now in
    let left = c.keep_other_numbers.new.order in
    room_left c.args.number was.items left.items was.len was.cap left.len left.cap c.requires c.keep_other_numbers.ensures.order was.ok.0 was.ok.1 left.ok.0 c.keep_other_numbers.ensures.room
