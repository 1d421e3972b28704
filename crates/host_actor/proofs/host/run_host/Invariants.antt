use Rattle.host_actor.specs.Links.{door_told, link_told}
use Rattle.host_actor.specs.HostSteps.{WentSoFar}
use Rattle.host_actor.proofs.host.run_host.Given as goal

-- it went on behind each session so far
abbrev pub invariant-loop : goal.invariant-loop
invariant-loop g l =
    let D = g.D.Desk in
    let E = g.E.Desk in
    let X = g.X.Door in
    record {
      can_next : (goal.iterator-loop g).can_next l.iterator';
      is_finite : (goal.iterator-loop g).is_finite l.iterator';
      went : WentSoFar
          (link_told g.X.In.Source.left g.X.In.Source.faults g.X.In.Source.ends g.X.Out.Sink.held g.X.Out.Sink.faults g.X.Out.Sink.refusals g.X.Out.LinkOut.is_shut)
          (door_told X.left X.backs X.opened_at X.faults X.links X.waits X.closings l.fn.door)
          (door_told X.left X.backs X.opened_at X.faults X.links X.waits X.closings l.door)
          (D.posts l.fn.reader) (D.posts l.reader) (E.posts l.fn.writer) (E.posts l.writer) l.fn.bytes.items l.bytes.items;
    }
