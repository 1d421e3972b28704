use Rattle.actors.proofs.Taking.{failed-by, unfailed-by, writer-shuts}
use Rattle.actors.proofs.writer.write_host.Goals as goal

pub returns-clause-did : goal.returns-clause-did
returns-clause-did g c =
    writer-shuts _ _ _ _ _ _ _ _ _ _ c.write_frames-ended.ensures.did c.shut.ensures.held
    (failed-by _ _ _ _ _ _ c.shut.ensures.faults c.shut.ensures.refusals)

pub returns-clause-unfailed : goal.returns-clause-unfailed
returns-clause-unfailed g c = unfailed-by _ _ _ _ _ _ _ c.shut.ensures.faults c.shut.ensures.refusals c.write_frames-ended.ensures.unfailed
