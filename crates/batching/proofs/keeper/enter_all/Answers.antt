use Rattle.std.proofs.Common.{◌≡◌, [], ◌∷◌, List, arith, subst}
use Rattle.std.proofs.lemmas.List.{nil_from_length}
use Rattle.std.specs.List.{AllByRecursion}
use Rattle.std.specs.Vec.Iter.{into_iter_items}
use Rattle.tool_events.specs.declared.event.Event.{Event}
use Rattle.batching.specs.Making.{batch_seen}
use Rattle.batching.specs.Parts.{IsInput}
use Rattle.batching.proofs.Answering.{Makes-enter, Makes-enter-stops, Makes-enter-none}
use Rattle.batching.proofs.keeper.enter_all.Goals as goal

-- the first of the events that are left, and those behind it
first_of : (all : List Event) (e : Event) (es : List Event) → all ≡ e ∷ es → AllByRecursion IsInput all → IsInput e × AllByRecursion IsInput es
first_of all e es is inputs = subst (AllByRecursion IsInput) is inputs

pub enter-requires-clause-input : goal.enter-requires-clause-input
enter-requires-clause-input g c = (first_of _ _ _ c.in-Some.ensures.steps.0 c.loop-event.invariant.inputs).0

pub loop-event-preserved : goal.loop-event-preserved
loop-event-preserved g c = record {
  whole = c.in-Ok.ensures.whole;
  inputs = (first_of _ _ _ c.in-Some.ensures.steps.0 c.loop-event.invariant.inputs).1;
  joined = λ b result rest. c.loop-event.invariant.joined b result
      (Makes-enter (batch_seen g.C.Recorder.view c.loop-event.batch) (batch_seen g.C.Recorder.view c.enter.new.batch) b (into_iter_items c.loop-event.event-iterator) c.in-Some.event (into_iter_items c.next.new.self) result c.in-Some.ensures.steps.0 c.in-Ok.ensures.made rest);
}

pub returns-in-Err-clause-made : goal.returns-in-Err-clause-made
returns-in-Err-clause-made g c =
    c.loop-event.invariant.joined _ _
    (Makes-enter-stops (batch_seen g.C.Recorder.view c.loop-event.batch) (batch_seen g.C.Recorder.view c.enter.new.batch) (into_iter_items c.loop-event.event-iterator) c.in-Some.event (into_iter_items c.next.new.self) c.in-Err.stop c.in-Some.ensures.steps.0 c.in-Err.ensures.made)

pub returns-clause-made : goal.returns-clause-made
returns-clause-made g c =
    let none : into_iter_items c.loop-event.event-iterator ≡ [] = nil_from_length _ (omega (arith, c.loop-event.event-iterator.rest.ok.0, c.in-None.ensures.steps.0)) in
    c.loop-event.invariant.joined _ _ (Makes-enter-none (batch_seen g.C.Recorder.view c.loop-event.batch) (into_iter_items c.loop-event.event-iterator) none)
