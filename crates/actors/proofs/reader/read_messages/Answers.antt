use Rattle.std.proofs.Common.{◌≡◌, ℕ, List, take, length, refl, arith}
use Rattle.std.proofs.lemmas.List.{length-take-le}
use Rattle.actors.specs.Reads.{reader_counts}
use Rattle.actors.proofs.ReaderReads.{reading_begins, reading_goes, reading_stops}
use Rattle.actors.proofs.reader.read_messages.Goals as goal

pub loop-init : goal.loop-init
loop-init g c =
    let counts = reader_counts g.D.Desk.fulls g.D.Desk.wants g.L.Source.faults g.L.Source.ends in
    (tt, tt, refl, reading_begins c.args.session (g.L.Source.left c.args.link.now) (counts c.args.desk.now c.args.link.now) (g.D.Desk.posts c.args.desk.now) c.in-Ok.cutter c.in-Ok.ensures)

pub loop-preserved : goal.loop-preserved
loop-preserved g c =
    let D = g.D.Desk in
    let L = g.L.Source in
    let before = reader_counts D.fulls D.wants L.faults L.ends c.args.desk.now c.args.link.now in
    let more = c.in-Ok-read.more in
    let piece : List ℕ = take more c.read.new.buf in
    let buffer : length c.read.new.buf ≡ 4096 = omega (arith, c.read.auto.buf, c.loop.invariant.2) in
    let fits = c.in-Ok-read.ensures.fits in
    let size : length piece ≡ more = length-take-le more c.read.new.buf (omega (arith, c.loop.invariant.2)) in
    let r = c.loop.invariant.3 in (
      tt,
      tt,
      buffer,
      reading_goes c.args.session (L.left c.args.link.now) (L.left c.loop.link) (L.left c.read.new.self) before (D.fulls c.loop.desk) (D.wants c.loop.desk) (L.faults c.loop.link) (L.ends c.loop.link) (D.fulls c.take_piece.new.desk) (D.wants c.take_piece.new.desk) (L.faults c.read.new.self) (L.ends c.read.new.self) (D.posts c.args.desk.now) (D.posts c.loop.desk) (D.posts c.take_piece.new.desk) c.loop.count c.saturating_add-count.result more c.loop.cutter c.take_piece.new.cutter piece r c.in-Ok-read.ensures.taken size c.saturating_add-count.ensures
          c.in-Ok-read.ensures.unfailed c.read.ensures.ends_stay ((rw c.front.ensures at c.in-Ok-take_piece.ensures) r.bytes r.is_cut),
    )

pub returns-in-Err-clause-read : goal.returns-in-Err-clause-read
returns-in-Err-clause-read g c =
    let D = g.D.Desk in
    let L = g.L.Source in
    let before = reader_counts D.fulls D.wants L.faults L.ends c.args.desk.now c.args.link.now in
    let more = c.in-Ok-read.more in
    let piece : List ℕ = take more c.read.new.buf in
    let buffer : length c.read.new.buf ≡ 4096 = omega (arith, c.read.auto.buf, c.loop.invariant.2) in
    let fits = c.in-Ok-read.ensures.fits in
    let size : length piece ≡ more = length-take-le more c.read.new.buf (omega (arith, c.loop.invariant.2)) in
    let r = c.loop.invariant.3 in
    reading_stops c.args.session (L.left c.args.link.now) (L.left c.loop.link) (L.left c.read.new.self) before (D.fulls c.loop.desk) (D.wants c.loop.desk) (L.faults c.loop.link) (L.ends c.loop.link) (D.fulls c.take_piece.new.desk) (D.wants c.take_piece.new.desk) (L.faults c.read.new.self) (L.ends c.read.new.self) (D.posts c.args.desk.now) (D.posts c.loop.desk) (D.posts c.take_piece.new.desk) c.loop.count c.saturating_add-count.result more c.loop.cutter c.take_piece.new.cutter piece r c.in-Ok-read.ensures.taken size c.saturating_add-count.ensures
    c.in-Err.stop ((rw c.front.ensures at c.in-Err.ensures) r.bytes r.is_cut)
