use Rattle.actors.specs.Reads.{reader_counts}
use Rattle.actors.proofs.ReaderDone.{reader_did}
use Rattle.actors.proofs.reader.read_host.Goals as goal

pub returns-clause-did : goal.returns-clause-did
returns-clause-did g c =
    let D = g.D.Desk in
    let L = g.L.Source in
    let before = reader_counts D.fulls D.wants L.faults L.ends c.args.desk.now c.args.link.now in
    let mid = c.read_messages-stop.new.desk in
    let new = c.tell_stop-end.new.desk in
    let link = c.read_messages-stop.new.link in
    let stop = c.read_messages-stop.result in
    reader_did c.args.session (L.left c.args.link.now) (L.left link) before (D.fulls mid) (D.fulls new) (D.wants mid) (D.wants new) (L.faults link) (L.ends link) (D.posts c.args.desk.now) (D.posts mid) (D.posts new) stop.1 stop.0 c.tell_stop-end.result c.read_messages-stop.ensures.read c.tell_stop-end.ensures
