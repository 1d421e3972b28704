use Rattle.std.proofs.Common.{[], ◌∷◌}
use Rattle.actors.proofs.ReaderPosts.{posted_done, posted_ended, posted_full, posted_no_memory}
use Rattle.actors.proofs.reader.post_message.Goals as goal

pub returns-in-Ok-Done-clause-posted : goal.returns-in-Ok-Done-clause-posted
returns-in-Ok-Done-clause-posted g c =
    let D = g.D.Desk in
    let old = c.args.desk.now in
    let new = c.post.new.self in
    let met = c.in-Ok-Done.ensures in
    posted_done c.args.session (D.fulls old) (D.fulls new) (D.wants old) (D.wants new) (D.posts old) (D.posts new) c.args.arrival _ met.recorded c.in-Ok-Done.field-0-is met.fulls met.wants

pub returns-in-Ok-Ended-clause-posted : goal.returns-in-Ok-Ended-clause-posted
returns-in-Ok-Ended-clause-posted g c =
    let D = g.D.Desk in
    let old = c.args.desk.now in
    let new = c.post.new.self in
    let met = c.in-Ok-Ended.ensures in
    posted_ended c.args.session (D.fulls old) (D.fulls new) (D.wants old) (D.wants new) (D.posts old) (D.posts new) c.args.arrival _ met.recorded c.in-Ok-Ended.field-0-is

pub returns-in-Err-Full-clause-posted : goal.returns-in-Err-Full-clause-posted
returns-in-Err-Full-clause-posted g c =
    let D = g.D.Desk in
    let old = c.args.desk.now in
    let new = c.post.new.self in
    let met = c.in-Err-Full.ensures in
    let field = c.in-Err-Full.field-0-is in
    posted_full c.args.session (D.fulls old) (D.fulls new) (D.wants old) (D.wants new) (D.posts old) (D.posts new) (c.args.arrival ∷ []) met.unrecorded (rw field at met.fulls) (rw field at met.wants)

pub returns-in-Err-NoMemory-clause-posted : goal.returns-in-Err-NoMemory-clause-posted
returns-in-Err-NoMemory-clause-posted g c =
    let D = g.D.Desk in
    let old = c.args.desk.now in
    let new = c.post.new.self in
    let met = c.in-Err-NoMemory.ensures in
    let field = c.in-Err-NoMemory.field-0-is in
    posted_no_memory c.args.session (D.fulls old) (D.fulls new) (D.wants old) (D.wants new) (D.posts old) (D.posts new) (c.args.arrival ∷ []) met.unrecorded (rw field at met.wants)
