-- What the engine does: to the history, and to where the answers go.
use Rattle.std.specs.Prelude.{◌≡◌, ◌⊎◌, List, [], ◌∷◌, ◌++◌, Some, Result, Ok, Err}
use Rattle.tool_events.specs.declared.entry.Entry.{Entry}
use Rattle.line_grammar.specs.Texts.{IsFront}
use Rattle.gem_model.specs.State.{State}
use Rattle.gem_model.specs.Step.{Outcome}
use Rattle.gem_model.specs.Run.{entry_step}
use Rattle.gem_model.specs.Printed.{fetches}
use Rattle.gem_model.specs.Feed.{Given}
use Rattle.history_parts.specs.CoreView.{CoreView}
use Rattle.driving.specs.declared.handler.Stop.{Stop}
use Rattle.driving.specs.declared.handler.Stop.TheVariants as stop
use Rattle.driving.specs.declared.handler.Unhandled.{Unhandled}
use Rattle.driving.specs.declared.handler.Unhandled.TheVariants as unhandled
use Rattle.driving.specs.Handling.{Handling}
use Rattle.driving.specs.Limits.{IsFullAt}

-- the steps of the entries lead from g to h, and the answer of each was handed on, in their order
abbrev pub Handed : {O : Type 0} → Handling O → State → List Entry → State → O → O → Type 0
Handed handles g [] h out out' = (h ≡ g) × (out' ≡ out)
Handed {O = O} handles g (entry ∷ entries) h out out' =
    (o : Outcome) × (between : O) × (entry_step g entry ≡ Some o) × handles (fetches entry.event) o.answer o.ended out between (Ok tt)
    × Handed handles o.after entries h between out'

-- the same, but that the answer of the last entry was not handed on, for this reason
pub record HandedButLast {O : Type 0} (handles : Handling O) (why : Unhandled) (g : State) (entries : List Entry) (h : State) (out out' : O) : Type 0 where
  pub before : List Entry
  pub last : Entry
  pub joined : entries ≡ before ++ last ∷ []
  pub state : State
  pub between : O
  pub handed : Handed handles g before state out between
  pub outcome : Outcome
  pub here : entry_step state last ≡ Some outcome
  pub handled : handles (fetches last.event) outcome.answer outcome.ended between out' (Err why)
  pub after : h ≡ outcome.after

-- The answers of all entries that were added were handed on; but for the last, where it was refused; and after want of memory, of all of
-- them or of all but the last.
abbrev pub HandedTo : {O : Type 0} → Handling O → State → List Entry → State → O → O → Result (Unit {0}) Stop → Type 0
HandedTo handles g added h out out' (Ok done) = Handed handles g added h out out'
HandedTo handles g added h out out' (Err stop.Full) = Handed handles g added h out out'
HandedTo handles g added h out out' (Err stop.NoMemory) = Handed handles g added h out out' ⊎ HandedButLast handles unhandled.NoMemory g added h out out'
HandedTo handles g added h out out' (Err stop.Refused) = HandedButLast handles unhandled.Refused g added h out out'

-- What was added to the history is all that is given; or a front of it, up to an entry that doesn't fit the limits; or, after want of memory
-- or where an answer was refused, any front.
abbrev pub WentTo : CoreView → List Entry → CoreView → Given → Result (Unit {0}) Stop → Type 0
WentTo core added core' given (Ok done) = (added ≡ given.entries) × (core'.state ≡ given.state)
WentTo core added core' given (Err stop.Full) = IsFullAt core.config core'.history (core.history ++ given.entries)
WentTo core added core' given (Err stop.NoMemory) = IsFront added given.entries
WentTo core added core' given (Err stop.Refused) = IsFront added given.entries

-- It goes on by what is given, and hands on the answers of what was added to the history, or stops.
pub record Drives {O : Type 0} (handles : Handling O) (core core' : CoreView) (out out' : O) (given : Given) (result : Result (Unit {0}) Stop) : Type 0 where
  pub config : core'.config ≡ core.config
  pub added : List Entry
  pub history : core'.history ≡ core.history ++ added
  pub went : WentTo core added core' given result
  pub handed : HandedTo handles core.state added core'.state out out' result
