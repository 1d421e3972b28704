use Rattle.std.proofs.Common.{inl, inr, refl}
use Rattle.actors.proofs.Posting.{rises-rose}
use Rattle.host_actor.proofs.Turns.{no-room, door-failed, not-yet, closed, turn-as}
use Rattle.host_actor.proofs.host.host_turn.Goals as goal

pub returns-in-Ok-Link-clause-did : goal.returns-in-Ok-Link-clause-did
returns-in-Ok-Link-clause-did g c =
    let met = c.in-Ok-Link.ensures in
    let link = c.in-Ok-Link.field-0-is in
    turn-as _ _ _ _ _ _ _ _ _ _ _ _ _ c.in-Ok.ensures.items
    (c.meet.ensures.did _ (record {
      left = rw link at met.given;
      backs = met.backs;
      port = met.port;
      faults = met.unfailed;
      links = rw link at met.links;
      waits = rw link at met.waits;
      closings = rw link at met.closings;
    }))

pub returns-in-Ok-NotYet-clause-did : goal.returns-in-Ok-NotYet-clause-did
returns-in-Ok-NotYet-clause-did g c =
    let met = c.in-Ok-NotYet.ensures in
    let early = c.in-Ok-NotYet.field-0-is in
    let more = rw early at met.waits in
    not-yet _ _ _ _ _ _ _ _ _ _ (record { left = rw early at met.given; backs = met.backs; port = met.port; links = rw early at met.links }) (inr more) c.in-Ok.ensures.items
    _ met.unfailed (rw early at met.closings) (rises-rose _ _ more) c.await_link.ensures.listened

pub returns-in-Ok-Closed-clause-did : goal.returns-in-Ok-Closed-clause-did
returns-in-Ok-Closed-clause-did g c =
    let met = c.in-Ok-Closed.ensures in
    let over = c.in-Ok-Closed.field-0-is in
    closed _ _ _ _ _ _ _ _ _ _ (record { left = rw over at met.given; backs = met.backs; port = met.port; links = rw over at met.links }) (inl (rw over at met.waits)) c.in-Ok.ensures.items
    _ (rises-rose _ _ (rw over at met.closings)) c.close.ensures.closed

pub returns-in-Err-clause-did : goal.returns-in-Err-clause-did
returns-in-Err-clause-did g c =
    let met = c.in-Err.ensures in
    door-failed _ _ _ _ _ _ _ _ _ _ (record { left = met.given; backs = met.backs; port = met.port; links = met.links }) (inl met.waits) c.in-Ok.ensures.items
    _ c.end_run-in-Err.ensures.end met.failed c.end_run-in-Err.ensures.tried

pub returns-in_default-clause-did : goal.returns-in_default-clause-did
returns-in_default-clause-did g c =
    no-room _ _ _ _ _ _ _ _ _ _ (record { left = refl; backs = refl; port = refl; links = refl }) (inl refl) c.in_default.ensures.items _ c.end_run.ensures.end c.end_run.ensures.tried
