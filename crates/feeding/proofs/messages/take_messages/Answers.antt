use Rattle.std.proofs.Common.{◌≡◌, true, false, rules, sym, subst, ap, ◌∙◌, List, [], ◌∷◌, ◌++◌, length, reverse, arith}
use Rattle.std.proofs.lemmas.List.{nil_from_length, reverse-append, reverse-reverse}
use Rattle.hsms_frame.specs.declared.frame.Arrival.{Arrival}
use Rattle.gem_model.specs.State.{is_session_up}
use Rattle.gem_model.specs.Feed.{messages}
use Rattle.line_feeding.specs.Going.{Goes, seen}
use Rattle.line_feeding.proofs.Parts.{Goes-messages-over, Goes-messages-next, Goes-messages-halts}
use Rattle.feeding.proofs.messages.take_messages.Goals as goal

-- the last of the list is the next message
last_next : (old new : List Arrival) (arrival : Arrival) → old ≡ new ++ arrival ∷ [] → reverse old ≡ arrival ∷ reverse new
last_next old new arrival is = ap reverse is ∙ reverse-append new (arrival ∷ [])

pub messages-init : goal.messages-init
messages-init g c = record {
  whole = c.requires;
  joined = λ core out result goes. rw (ap reverse c.turn.ensures ∙ reverse-reverse c.args.arrivals.now.items) at goes;
}

pub returns-then-not-is_session_up-clause-goes : goal.returns-then-not-is_session_up-clause-goes
returns-then-not-is_session_up-clause-goes g c =
    let over : is_session_up (g.C.Recorder.view c.messages.core).state c.args.session ≡ false = search rules in
    c.messages.invariant.joined _ _ _ (rw (last_next _ _ _ c.in-Some.ensures.items) (Goes-messages-over _ _ c.args.session c.in-Some.arrival (reverse c.pop.new.self.items) c.args.short over))

pub messages-preserved : goal.messages-preserved
messages-preserved g c = record {
  whole = c.in-Ok.ensures.whole;
  joined = λ core out result rest.
      let up : is_session_up (g.C.Recorder.view c.messages.core).state c.args.session ≡ true = search rules in
      c.messages.invariant.joined core out result (rw (last_next _ _ _ c.in-Some.ensures.items) (Goes-messages-next _ _ _ _ _ _ c.args.session c.in-Some.arrival (reverse c.pop.new.self.items) c.args.short result up c.in-Ok.ensures.goes rest));
}

pub returns-in-Err-clause-goes : goal.returns-in-Err-clause-goes
returns-in-Err-clause-goes g c =
    let up : is_session_up (g.C.Recorder.view c.messages.core).state c.args.session ≡ true = search rules in
    c.messages.invariant.joined _ _ _ (rw (last_next _ _ _ c.in-Some.ensures.items) (Goes-messages-halts _ _ _ _ c.args.session c.in-Some.arrival (reverse c.pop.new.self.items) c.args.short c.in-Err.halt up c.in-Err.ensures.goes))

pub returns-clause-goes : goal.returns-clause-goes
returns-clause-goes g c =
    let see = seen g.K.Sink.held g.K.Sink.faults g.K.Sink.refusals in
    let none : c.messages.arrivals.items ≡ [] = search rules in
    c.messages.invariant.joined _ _ _ (subst (λ (xs : List Arrival). Goes (g.C.Recorder.view c.messages.core) (g.C.Recorder.view c.end_messages.new.core) (see c.messages.out) (see c.end_messages.new.out) (messages (g.C.Recorder.view c.messages.core).state c.args.session xs c.args.short) c.end_messages.result) (sym (ap reverse none)) c.end_messages.ensures.goes)
