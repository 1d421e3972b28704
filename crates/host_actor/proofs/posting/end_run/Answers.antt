use Rattle.host_actor.proofs.Posted.{run-ended}
use Rattle.host_actor.proofs.posting.end_run.Goals as goal

pub returns-clause-tried : goal.returns-clause-tried
returns-clause-tried g c =
    let D = g.D.Desk in
    let old = c.args.reader.now in
    let new = c.post-answer.new.self in
    let met = c.post-answer.ensures in
    run-ended c.post-answer.result (D.fulls old) (D.fulls new) (D.wants old) (D.wants new) (D.posts old) (D.posts new) met.waits met.recorded met.unrecorded met.fulls met.wants
