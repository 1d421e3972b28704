use Rattle.std.proofs.Common.{sym}
use Rattle.tool_crew.proofs.Hosts.{hosted_so}
use Rattle.tool_crew.proofs.seats.host_at.Goals as goal

pub returns-clause-did : goal.returns-clause-did
returns-clause-did g c =
    hosted_so _ _ _ _ _ _ _ _ _ _ _ _ _ _ _ _ (sym c.sit-reader.ensures.mine) c.into_chair.ensures.mine (sym c.sit-writer.ensures.mine) c.into_chair-2.ensures.mine c.run_host-end.ensures.did
