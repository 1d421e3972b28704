use Rattle.std.proofs.Common.{◌≡◌, inl, Err, refl, ap}
use Rattle.actors.specs.declared.end.ActorEnd.{ActorEnd}
use Rattle.actors.specs.declared.end.ActorEnd.TheVariants as end
use Rattle.actors.specs.Reads.{reader_counts}
use Rattle.host_actor.proofs.SessionEnding.{session-full}
use Rattle.host_actor.proofs.Turns.{unmade-turn, session-ran}
use Rattle.host_actor.proofs.host.meet.Goals as goal

pub returns-in-Err-clause-did : goal.returns-in-Err-clause-did
returns-in-Err-clause-did g c = λ before gave.
    let met = c.back.ensures in
    unmade-turn _ _ _ _ _ _ _ _ _ _ _ _ gave
    (record { backs = met.backs; left = met.left; port = met.port; faults = met.faults; links = met.links; waits = met.waits; closings = met.closings })
    c.in-Err.ensures.up

pub returns-in-Err-clause-full : goal.returns-in-Err-clause-full
returns-in-Err-clause-full g c = λ is.
    let same : c.in-Err.end ≡ end.Full = cc in
    inl (c.in-Err.ensures.full (ap (λ (e : ActorEnd). Err e) same))

pub returns-clause-did : goal.returns-clause-did
returns-clause-did g c = λ before gave.
    let D = g.D.Desk in
    let I = g.X.In.Source in
    let ran = c.run_session-ended in
    let met = c.back-2.ensures in
    session-ran _ _ _ _ _ _ _ _ _ _ _ _ _ _ (c.args.link_in, c.args.link_out) (ran.new.link_in, ran.new.link_out)
    (reader_counts D.fulls D.wants I.faults I.ends c.link_up.new.reader c.args.link_in) (reader_counts D.fulls D.wants I.faults I.ends ran.new.reader ran.new.link_in) _ _ _ _ _ gave
    (record { backs = met.backs; left = met.left; port = met.port; faults = met.faults; links = met.links; waits = met.waits; closings = met.closings })
    c.in-Ok.ensures.up (refl, refl) (refl, refl) ran.ensures.read ran.ensures.wrote ran.ensures.shut c.push_reserved.ensures.items c.go_on.ensures

pub returns-clause-full : goal.returns-clause-full
returns-clause-full g c = λ is.
    let ran = c.run_session-ended in
    session-full _ _ _ _ _ _ _ c.go_on.ensures ran.ensures.read_full ran.ensures.wrote_full is
