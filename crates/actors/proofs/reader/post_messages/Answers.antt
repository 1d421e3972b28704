use Rattle.std.proofs.Common.{◌≡◌, rules, sym, ap, ◌∙◌, List, [], ◌∷◌, ◌++◌, Ok, Err, append_assoc, append-nil, subst, arith}
use Rattle.std.proofs.lemmas.List.{nil_from_length}
use Rattle.std.specs.Vec.Iter.{into_iter_items}
use Rattle.hsms_frame.specs.declared.frame.Arrival.{Arrival}
use Rattle.actors.specs.declared.reader.ReadStop.{ReadStop}
use Rattle.actors.specs.ReaderSteps.{MessagesPosted}
use Rattle.actors.proofs.ReaderPosts.{posted_none, posted_more, posted_on, posted_before}
use Rattle.actors.proofs.reader.post_messages.Goals as goal

pub loop-arrival-init : goal.loop-arrival-init
loop-arrival-init g c = ([], search rules, posted_none _ _ _ _)

pub loop-arrival-preserved : goal.loop-arrival-preserved
loop-arrival-preserved g c =
    let D = g.D.Desk in
    let before = c.args.desk.now in
    let old = c.loop-arrival.desk in
    let new = c.post_message.new.desk in
    let (done, is, posted) = c.loop-arrival.invariant in
    let x = c.in-Some.arrival in
    let more : List Arrival = into_iter_items c.next.new.self in (
      done ++ x ∷ [],
      is ∙ ap (λ (l : List Arrival). done ++ l) c.in-Some.ensures.steps.0 ∙ sym (append_assoc done (x ∷ []) more),
      posted_more c.args.session done (x ∷ []) (D.fulls before) (D.fulls old) (D.fulls new) (D.wants before) (D.wants old) (D.wants new) (D.posts before) (D.posts old) (D.posts new) (Ok tt) posted c.in-Ok.ensures.posted,
    )

pub returns-in-Err-clause-posted : goal.returns-in-Err-clause-posted
returns-in-Err-clause-posted g c =
    let D = g.D.Desk in
    let before = c.args.desk.now in
    let old = c.loop-arrival.desk in
    let new = c.post_message.new.desk in
    let (done, is, posted) = c.loop-arrival.invariant in
    let x = c.in-Some.arrival in
    let more : List Arrival = into_iter_items c.next.new.self in
    let why = c.in-Err.stop in
    posted_on c.args.session _ done (x ∷ more) (D.fulls before) (D.fulls old) (D.fulls new) (D.wants before) (D.wants old) (D.wants new) (D.posts before) (D.posts old) (D.posts new) (Err why)
    (is ∙ ap (λ (l : List Arrival). done ++ l) c.in-Some.ensures.steps.0) posted
    (posted_before c.args.session (x ∷ []) more (D.fulls old) (D.fulls new) (D.wants old) (D.wants new) (D.posts old) (D.posts new) why (λ cause is. c.in-Err.ensures.no_down cause (ap (λ (w : ReadStop). Err w) is)) c.in-Err.ensures.posted)

pub returns-clause-posted : goal.returns-clause-posted
returns-clause-posted g c =
    let D = g.D.Desk in
    let before = c.args.desk.now in
    let new = c.loop-arrival.desk in
    let (done, is, posted) = c.loop-arrival.invariant in
    let rest : List Arrival = into_iter_items c.loop-arrival.arrival-iterator in
    let none : rest ≡ [] = nil_from_length rest (omega (arith, c.loop-arrival.arrival-iterator.rest.ok.0, c.in-None.ensures.steps.0)) in
    let all = is ∙ ap (λ (l : List Arrival). done ++ l) none ∙ append-nil done in
    subst (λ (l : List Arrival). MessagesPosted c.args.session l (D.fulls before) (D.fulls new) (D.wants before) (D.wants new) (D.posts before) (D.posts new) (Ok tt)) (sym all) posted
