use Rattle.std.proofs.Common.{ap, Err}
use Rattle.hsms_frame.specs.declared.fault.CutFault.{CutFault}
use Rattle.actors.proofs.ReaderReads.{taken_posted, taken_short, taken_uncut}
use Rattle.actors.proofs.reader.take_piece.Goals as goal

pub returns-in-Ok : goal.returns-in-Ok
returns-in-Ok g c = λ stream is_cut.
    let D = g.D.Desk in
    let old = c.args.desk.now in
    let new = c.post_messages.new.desk in
    taken_posted c.args.session stream c.args.bytes.now c.args.cutter.now c.feed.new.self c.new-arrivals.result.items c.feed.new.out.items c.new-arrivals.ensures.items c.feed.ensures.max is_cut c.in-Ok.ensures.cut (D.fulls old) (D.fulls new) (D.wants old) (D.wants new) (D.posts old) (D.posts new)
    c.post_messages.result c.post_messages.ensures.posted c.post_messages.ensures.no_down

pub returns-in-Ok-post_messages : goal.returns-in-Ok-post_messages
returns-in-Ok-post_messages g c = λ stream is_cut.
    let D = g.D.Desk in
    let old = c.args.desk.now in
    let new = c.post_messages-in-Err-ShortLength.new.desk in
    let fed = c.in-Err-ShortLength.ensures in
    let field = c.in-Err-ShortLength.field-0-is in
    taken_short c.args.session stream c.args.bytes.now c.args.cutter.now c.feed.new.self c.new-arrivals.result.items c.feed.new.out.items c.new-arrivals.ensures.items c.feed.ensures.max is_cut (rw field at fed.cut) (D.fulls old) (D.fulls new) (D.wants old) (D.wants new) (D.posts old) (D.posts new)
    c.in-Err-ShortLength.field-0-0 (fed.short c.in-Err-ShortLength.field-0-0 (ap (λ (e : CutFault). Err e) field)) c.in-Ok-post_messages.ensures.posted

pub returns-in-Err : goal.returns-in-Err
returns-in-Err g c = λ stream is_cut.
    let D = g.D.Desk in
    let old = c.args.desk.now in
    let new = c.post_messages-in-Err-ShortLength.new.desk in
    let fed = c.in-Err-ShortLength.ensures in
    let field = c.in-Err-ShortLength.field-0-is in
    taken_posted c.args.session stream c.args.bytes.now c.args.cutter.now c.feed.new.self c.new-arrivals.result.items c.feed.new.out.items c.new-arrivals.ensures.items c.feed.ensures.max is_cut (rw field at fed.cut) (D.fulls old) (D.fulls new) (D.wants old) (D.wants new) (D.posts old) (D.posts new)
    (Err c.in-Err.stop) c.in-Err.ensures.posted c.in-Err.ensures.no_down

pub returns-in-Err-NoMemory : goal.returns-in-Err-NoMemory
returns-in-Err-NoMemory g c = λ stream is_cut.
    let D = g.D.Desk in
    let old = c.args.desk.now in
    taken_uncut c.args.session stream c.args.bytes.now c.feed.new.self (D.fulls old) (D.wants old) (D.posts old)
