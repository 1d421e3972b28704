-- What a line does, joined from its parts.
use Rattle.std.proofs.Common.{◌≡◌, ◌≢◌, ◌⊎◌, ℕ, is_some, inl, inr, Bool, true, false, if◌then◌else◌, List, [], ◌++◌, length, drop, Option, Some, None, Result, Ok, Err, OnOk, refl, sym, ◌∙◌, ap, subst, arith}
use Rattle.std.proofs.lemmas.Bool.{true≢false}
use Rattle.hsms_frame.specs.declared.frame.Arrival.{Arrival}
use Rattle.hsms_frame.specs.Cut.{Kept, IsCutOf, arrivals_of, behind_of, is_short}
use Rattle.hsms_frame.proofs.Callers.{IsCutOf-new}
use Rattle.gem_ids.specs.declared.moment.Moment.{Moment}
use Rattle.gem_ids.specs.declared.numbers.PortNo.{PortNo}
use Rattle.tool_events.specs.declared.event.Event.TheVariants.{Tick, Oper}
use Rattle.tool_events.specs.declared.event.Event.TheVariants as event
use Rattle.tool_events.specs.declared.event.Signal.{Signal}
use Rattle.tool_events.specs.declared.event.OperCmd.{OperCmd}
use Rattle.gem_model.specs.State.{State, is_up}
use Rattle.gem_model.specs.Step.{Outcome, step}
use Rattle.line_grammar.specs.declared.line.Line.{Line}
use Rattle.line_grammar.specs.declared.line.Line.TheVariants as line
use Rattle.gem_model.specs.Feed.{Given, Reading, input, messages, nothing, bytes_given, line_given, reading_after}
use Rattle.tool_events.specs.Sizes.{text_bytes}
use Rattle.line_grammar.specs.Texts.{is_quit}
use Rattle.history_parts.specs.CoreView.{CoreView}
use Rattle.line_feeding.specs.declared.halt.Halt.{Halt}
use Rattle.line_feeding.specs.declared.halt.Halt.TheVariants as halt
use Rattle.feeding.specs.Views.{FeederView}
use Rattle.line_feeding.specs.Cuts.{Cuts}
use Rattle.line_feeding.specs.Going.{SinkView, Goes, WentOn}
use Rattle.feeding.specs.Reading.{IsReading, TakesLine, TreatsLine}
use Rattle.line_feeding.specs.Quitting.{quit_behind}
use Rattle.line_feeding.specs.Reads.{AddsLine}
use Rattle.gem_model.proofs.Downs.{tick_down, oper_down, signal_down}
use Rattle.line_feeding.proofs.Going.{Goes-nothing, Goes-unmoved}
use Rattle.line_feeding.proofs.Counting.{counts_any, counts_skip, counts_up, counts_time, counts_oper, counts_signal, counts_watch}

abbrev pub failed : Halt → Result (Unit {0}) Halt
failed why = Err why

-- want of memory is told whatever the line says
memory_told : (quits : Bool) → failed halt.NoMemory ≡ (if quits then quit_behind (Err halt.NoMemory) else Err halt.NoMemory)
memory_told true = refl
memory_told false = refl

pub TreatsLine-no_memory : (r : Reading) (line : Result Line ℕ) (feeder : FeederView) (out : SinkView) → TreatsLine r line feeder feeder out out (Err halt.NoMemory)
TreatsLine-no_memory r (Err place) feeder out = record { refused = inr refl; core_stays = refl; reads_stay = refl; out_stays = refl }
TreatsLine-no_memory r (Ok line) feeder out = (Err halt.NoMemory, memory_told (is_quit line), record { goes = Goes-unmoved feeder.core feeder.core out (line_given r line) (record { config = refl; history = refl }); reading = tt; counts = inr (refl, refl) })

-- a line for which there was no memory: nothing was done but that its bytes may have been counted
pub TakesLine-no_memory : (r : Reading) (line : Line) (old new : FeederView) (out : SinkView) → new.core ≡ old.core → AddsLine r line old.reads new.reads ⊎ ((new.reads ≡ old.reads) × (new.core ≡ old.core)) → TakesLine r line old new out out (Err halt.NoMemory)
TakesLine-no_memory r line old new out same counts = record {
  goes = Goes-unmoved old.core new.core out (line_given r line) (record { config = ap (λ (c : CoreView). c.config) same; history = ap (λ (c : CoreView). c.history) same });
  reading = tt;
  counts = counts;
}

-- the session that is up, as it is told
session_is : (up : Bool) (n k : ℕ) → (if up then Some n else None) ≡ Some k → (up ≡ true) × (n ≡ k)
session_is true n k h = (refl, cc)
session_is false n k h = absurd (cc)

reading_at : (r : Reading) (given : Given) (core' : CoreView) (cutter' : Kept) (stream : List ℕ) (result : Result (Unit {0}) Halt) (core : CoreView) → WentOn core core' given result → cutter'.max ≡ text_bytes → IsCutOf stream (arrivals_of text_bytes stream) cutter' → OnOk result (IsReading (record { state = given.state; stream = stream }) core' cutter')
reading_at r given core' cutter' stream (Ok done) core went max cut = record { state = went.1; max = λ _. max; cut = λ _. cut }
reading_at r given core' cutter' stream (Err why) core went max cut = tt

-- a line that does nothing
pub TreatsLine-skip : (r : Reading) (feeder : FeederView) (out : SinkView) → IsReading r feeder.core feeder.cutter → TreatsLine r (Ok line.Skip) feeder feeder out out (Ok tt)
TreatsLine-skip r feeder out reading = (
  Ok tt,
  refl,
  record {
    goes = subst (λ (g : State). Goes feeder.core feeder.core out out (nothing g) (Ok tt)) reading.state (Goes-nothing feeder.core out);
    reading = record { state = reading.state; max = reading.max; cut = reading.cut };
    counts = counts_skip r feeder.reads feeder.core feeder.core (Ok tt);
  },
)

pub TreatsLine-watch : (r : Reading) (port : PortNo) (feeder : FeederView) (out : SinkView) → IsReading r feeder.core feeder.cutter → TreatsLine r (Ok (line.Watch port)) feeder feeder out out (Ok tt)
TreatsLine-watch r port feeder out reading = (
  Ok tt,
  refl,
  record {
    goes = subst (λ (g : State). Goes feeder.core feeder.core out out (nothing g) (Ok tt)) reading.state (Goes-nothing feeder.core out);
    reading = record { state = reading.state; max = reading.max; cut = reading.cut };
    counts = counts_watch r port feeder.reads feeder.core feeder.core (Ok tt);
  },
)

-- a session that is up after it was up before it
up_before : (g h : State) (up : Bool) → is_up g ≡ up → (is_up g ≡ false → is_up h ≡ false) → is_up h ≡ true → is_up g ≡ true
up_before g h true is stays after = is
up_before g h false is stays after = absurd (true≢false (sym after ∙ stays is))

-- the bytes of the session stay
reading_kept : (r : Reading) (given : Given) (core core' : CoreView) (cutter : Kept) (result : Result (Unit {0}) Halt) → (is_up r.state ≡ false → is_up given.state ≡ false) → IsReading r core cutter → WentOn core core' given result → OnOk result (IsReading (record { state = given.state; stream = r.stream }) core' cutter)
reading_kept r given core core' cutter (Ok done) stays reading went = record {
  state = went.1;
  max = λ up. reading.max (up_before r.state given.state (is_up r.state) refl stays up);
  cut = λ up. reading.cut (up_before r.state given.state (is_up r.state) refl stays up);
}
reading_kept r given core core' cutter (Err why) stays reading went = tt

-- no session is up, by what is told of it
pub down_is : (up : Bool) (session : ℕ) → is_some (if up then Some session else None) ≡ false → up ≡ false
down_is true session none = absurd (true≢false none)
down_is false session none = refl

-- a new session begins with no bytes
none_cut : IsCutOf [] (arrivals_of text_bytes []) (record { max = text_bytes; bytes = []; skipped = 0 })
none_cut = IsCutOf-new text_bytes

up_anew : (r : Reading) (core core' : CoreView) (result : Result (Unit {0}) Halt) → is_up r.state ≡ false → WentOn core core' (line_given r line.Up) result → OnOk result (IsReading (reading_after r line.Up) core' (record { max = text_bytes; bytes = []; skipped = 0 }))
up_anew r core core' (Ok done) down went =
    subst (λ (s : List ℕ). IsReading (record { state = (line_given r line.Up).state; stream = s }) core' (record { max = text_bytes; bytes = []; skipped = 0 })) (sym (ap (λ (b : Bool). if b then r.stream else []) down))
    (record { state = went.1; max = λ _. refl; cut = λ _. none_cut })
up_anew r core core' (Err why) down went = tt

pub TakesLine-up : (r : Reading) (old : FeederView) (core' : CoreView) (cutter' : Kept) (out out' : SinkView) (result : Result (Unit {0}) Halt) → IsReading r old.core old.cutter → is_up old.core.state ≡ false → cutter' ≡ record { max = text_bytes; bytes = []; skipped = 0 } → Goes old.core core' out out' (input old.core.state 0 event.LinkUp) result → TakesLine r line.Up old (record { core = core'; cutter = cutter'; reads = old.reads }) out out' result
TakesLine-up r old core' cutter' out out' result reading down new goes =
    let all = subst (λ (given : Given). Goes old.core core' out out' given result) (ap (λ (g : State). input g 0 event.LinkUp) reading.state) goes in
    record {
      goes = all;
      reading = subst (λ (k : Kept). OnOk result (IsReading (reading_after r line.Up) core' k)) (sym new) (up_anew r old.core core' result (subst (λ (g : State). is_up g ≡ false) reading.state down) all.went);
      counts = counts_up r old.reads old.core core' result;
    }

some_is : (x : Option Outcome) → x ≢ None → is_some x ≡ true
some_is None some = absurd (some refl)
some_is (Some o) some = refl

pub TakesLine-look : (r : Reading) (at : Moment) (old : FeederView) (core' : CoreView) (out out' : SinkView) (result : Result (Unit {0}) Halt) → IsReading r old.core old.cutter → step old.core.state at.0 Tick ≢ None → Goes old.core core' out out' (input old.core.state at.0 Tick) result → TakesLine r (line.Moment at) old (record { core = core'; cutter = old.cutter; reads = old.reads }) out out' result
TakesLine-look r at old core' out out' result reading some goes =
    let due : is_some (step r.state at.0 Tick) ≡ true = some_is (step r.state at.0 Tick) (subst (λ (g : State). step g at.0 Tick ≢ None) reading.state some) in
    let given : line_given r (line.Moment at) ≡ input r.state at.0 Tick = ap (λ (b : Bool). if b then input r.state at.0 Tick else nothing r.state) due in
    let all = subst (λ (given : Given). Goes old.core core' out out' given result) (ap (λ (g : State). input g at.0 Tick) reading.state ∙ sym given) goes in
    record {
      goes = all;
      reading = reading_kept r (line_given r (line.Moment at)) old.core core' old.cutter result (λ down. ap (λ (given : Given). is_up given.state) given ∙ tick_down r.state at.0 down) reading all.went;
      counts = counts_time r at old.reads old.core core' result;
    }

pub TreatsLine-oper : (r : Reading) (command : OperCmd) (old : FeederView) (core' : CoreView) (out out' : SinkView) (quits : Bool) (taken : Result (Unit {0}) Halt) → IsReading r old.core old.cutter → quits ≡ is_quit (line.Oper command) → Goes old.core core' out out' (input old.core.state 0 (Oper command)) taken → TreatsLine r (Ok (line.Oper command)) old (record { core = core'; cutter = old.cutter; reads = old.reads }) out out' (if quits then quit_behind taken else taken)
TreatsLine-oper r command old core' out out' quits taken reading is goes =
    let all = subst (λ (given : Given). Goes old.core core' out out' given taken) (ap (λ (g : State). input g 0 (Oper command)) reading.state) goes in (
      taken,
      ap (λ (b : Bool). if b then quit_behind taken else taken) is,
      record {
        goes = all;
        reading = reading_kept r (line_given r (line.Oper command)) old.core core' old.cutter taken (oper_down r.state 0 command) reading all.went;
        counts = counts_oper r command old.reads old.core core' taken;
      },
    )

pub TakesLine-signal : (r : Reading) (signal : Signal) (old : FeederView) (core' : CoreView) (out out' : SinkView) (result : Result (Unit {0}) Halt) → IsReading r old.core old.cutter → Goes old.core core' out out' (input old.core.state 0 (event.Signal signal)) result → TakesLine r (line.Signal signal) old (record { core = core'; cutter = old.cutter; reads = old.reads }) out out' result
TakesLine-signal r signal old core' out out' result reading goes =
    let all = subst (λ (given : Given). Goes old.core core' out out' given result) (ap (λ (g : State). input g 0 (event.Signal signal)) reading.state) goes in
    record {
      goes = all;
      reading = reading_kept r (line_given r (line.Signal signal)) old.core core' old.cutter result (signal_down r.state 0 signal) reading all.went;
      counts = counts_signal r signal old.reads old.core core' result;
    }

pub TakesLine-bytes : (r : Reading) (bytes : List ℕ) (old : FeederView) (core' : CoreView) (cutter' : Kept) (reads' : List ℕ) (out out' : SinkView) (arrivals : List Arrival) (short : Bool) (session : ℕ) (result : Result (Unit {0}) Halt) → IsReading r old.core old.cutter → (if is_up old.core.state then Some old.core.state.link.session else None) ≡ Some session → cutter'.max ≡ old.cutter.max → ((stream : List ℕ) → old.cutter.max ≡ text_bytes → IsCutOf stream (arrivals_of text_bytes stream) old.cutter → Cuts bytes old.cutter cutter' arrivals short stream) → Goes old.core core' out out' (messages old.core.state session arrivals short) result → AddsLine r (line.Bytes bytes) old.reads reads' → TakesLine r (line.Bytes bytes) old (record { core = core'; cutter = cutter'; reads = reads' }) out out' result
TakesLine-bytes r bytes old core' cutter' reads' out out' arrivals short session result reading told same cuts goes adds =
    let told_up = session_is (is_up old.core.state) old.core.state.link.session session told in
    let up : is_up r.state ≡ true = ap is_up (sym reading.state) ∙ told_up.0 in
    let max = reading.max up in
    let cut = cuts r.stream max (reading.cut up) in
    let given : line_given r (line.Bytes bytes) ≡ bytes_given r bytes = ap (λ (b : Bool). if b then bytes_given r bytes else nothing r.state) up in
    let new : List Arrival = drop (length (arrivals_of text_bytes r.stream)) (arrivals_of text_bytes (r.stream ++ bytes)) in
    let ends : Bool = is_short (behind_of (r.stream ++ bytes)) in
    let is : messages old.core.state session arrivals short ≡ bytes_given r bytes =
    ap (λ (xs : List Arrival). messages old.core.state session xs short) cut.arrivals_are
    ∙ ap (messages old.core.state session new) cut.short_is
    ∙ ap (λ (k : ℕ). messages old.core.state k new ends) (sym told_up.1)
    ∙ ap (λ (g : State). messages g g.link.session new ends) reading.state in
    let all = subst (λ (given : Given). Goes old.core core' out out' given result) (is ∙ sym given) goes in
    record {
      goes = all;
      reading = reading_at r (line_given r (line.Bytes bytes)) core' cutter' (r.stream ++ bytes) result old.core all.went (same ∙ max) cut.cut;
      counts = counts_any r (line.Bytes bytes) old.reads reads' old.core core' result adds;
    }
