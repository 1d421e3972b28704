use Rattle.control_job.proofs.Orders.{count_once}
use Rattle.control_job.proofs.Called.{numbered_in}
use Rattle.control_job.proofs.Keeping.{in_order}
use Rattle.control_job.proofs.laws.the_queue_has_each_job_once.Goals as goal

pub returns : goal.returns
returns c s number j h e = count_once number s.order h.once (in_order s number h (numbered_in number j s.jobs e))
