use Rattle.std.proofs.Common.{◌≡◌, true, Result, length, reverse}
use Rattle.history_parts.specs.CoreView.{CoreView}
use Rattle.gem_model.specs.Feed.{messages}
use Rattle.line_feeding.specs.declared.halt.Halt.{Halt}
use Rattle.line_feeding.specs.Going.{Goes, SinkView, seen}
use Rattle.feeding.proofs.messages.take_messages.Given as goal

-- the core is whole; and whatever the messages that are left do, with those before them it is what all do
abbrev pub invariant-messages : goal.invariant-messages
invariant-messages g l =
    let see = seen g.K.Sink.held g.K.Sink.faults g.K.Sink.refusals in
    record {
      whole : (g.C.Recorder.view l.core).is_whole ≡ true;
      joined : (core : CoreView) (out : SinkView) (result : Result (Unit {0}) Halt) → Goes (g.C.Recorder.view l.core) core (see l.out) out (messages (g.C.Recorder.view l.core).state l.session (reverse l.arrivals.items) l.short) result → Goes (g.C.Recorder.view l.fn.core) core (see l.fn.out) out (messages (g.C.Recorder.view l.fn.core).state l.session l.fn.arrivals.items l.short) result;
    }

abbrev pub decreases-messages : goal.decreases-messages
decreases-messages g l = length l.arrivals.items
