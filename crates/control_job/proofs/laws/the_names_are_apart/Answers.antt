use Rattle.control_job.proofs.Called.{numbered_named}
use Rattle.control_job.proofs.laws.the_names_are_apart.Goals as goal

pub returns : goal.returns
returns c s number j h e = numbered_named number j s.jobs h.named_apart e
