use Rattle.tool_crew.proofs.Starting.{time_whole}
use Rattle.tool_crew.proofs.start.run_all.Goals as goal

pub returns-clause-timed : goal.returns-clause-timed
returns-clause-timed g c = time_whole c.look_in-ended.result _ _ _ _ _ _ _ c.look_in-ended.ensures.did c.run_at_once.ensures.timed
