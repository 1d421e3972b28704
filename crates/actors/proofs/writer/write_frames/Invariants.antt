use Rattle.std.proofs.Common.{◌≡◌}
use Rattle.actors.proofs.Taking.{Frames}
use Rattle.actors.proofs.writer.write_frames.Given as goal

-- the frames so far were written whole, no write failed, and no post was refused
abbrev pub invariant-loop : goal.invariant-loop
invariant-loop g l =
    let D = g.D.Desk in
    let L = g.L.Sink in
    record {
      can_next : (goal.iterator-loop g).can_next l.iterator';
      is_finite : (goal.iterator-loop g).is_finite l.iterator';
      frames : Frames l.session (L.held l.fn.link) (L.held l.link) (D.posts l.fn.desk) (D.posts l.desk) l.count;
      faults : L.faults l.link ≡ L.faults l.fn.link;
      refusals : L.refusals l.link ≡ L.refusals l.fn.link;
      fulls : D.fulls l.desk ≡ D.fulls l.fn.desk;
      wants : D.wants l.desk ≡ D.wants l.fn.desk;
    }
