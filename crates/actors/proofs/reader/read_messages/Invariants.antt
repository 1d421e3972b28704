use Rattle.std.proofs.Common.{◌≡◌, length}
use Rattle.actors.specs.Reads.{reader_counts}
use Rattle.actors.proofs.ReaderReads.{Reading}
use Rattle.actors.proofs.reader.read_messages.Given as goal

-- all that was read was cut and posted
abbrev pub invariant-loop : goal.invariant-loop
invariant-loop g l =
    let counts = reader_counts g.D.Desk.fulls g.D.Desk.wants g.L.Source.faults g.L.Source.ends in
    (goal.iterator-loop g).can_next l.iterator' × (goal.iterator-loop g).is_finite l.iterator' × (length l.buf ≡ 4096)
    × Reading l.session (g.L.Source.left l.fn.link) (g.L.Source.left l.link) (counts l.fn.desk l.fn.link) (counts l.desk l.link) (g.D.Desk.posts l.fn.desk) (g.D.Desk.posts l.desk) l.count l.cutter
