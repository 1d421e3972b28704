use Rattle.host_actor.proofs.Posted.{closed-door, closed-ends, run-ended-as}
use Rattle.host_actor.proofs.posting.close.Goals as goal

pub returns-in-Ok-clause-closed : goal.returns-in-Ok-clause-closed
returns-in-Ok-clause-closed g c =
    closed-door _ _ _ _ _ c.end_run.ensures.end (run-ended-as _ _ _ _ _ c.in-Ok.ensures.listened c.end_run.ensures.tried)

pub returns-in-Err-clause-closed : goal.returns-in-Err-clause-closed
returns-in-Err-clause-closed g c = closed-ends _ _ _ _ _ c.in-Err.ensures.listened
