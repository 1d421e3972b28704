-- What is kept of an input: the messages of the frames that waited behind its entry.
use Rattle.std.proofs.Common.{◌≡◌, ◌≢◌, ℕ, suc, Bool, true, false, ◌&&◌, ◌==◌, is_some, if◌then◌else◌, List, [], ◌∷◌, ◌++◌, map, Option, Some, None, option_map, Result, Ok, Err, refl, sym, ◌∙◌, ap, subst, append_assoc, arith}
use Rattle.std.specs.Option.{option_to_list}
use Rattle.std.proofs.lemmas.List.{append-nil}
use Rattle.std.proofs.lemmas.Bool.{true≢false}
use Rattle.std.proofs.lemmas.Bool.Decides.{nat_tests}
use Rattle.hsms_frame.specs.declared.frame.Arrival.{Arrival}
use Rattle.hsms_link.specs.declared.state.Phase.TheVariants.{NotSelected}
use Rattle.hsms_link.specs.declared.state.Ping.TheVariants.{Off}
use Rattle.hsms_link.specs.LinkTable.{link_act}
use Rattle.hsms_link.specs.declared.table.LinkAct.{LinkAct}
use Rattle.hsms_link.specs.declared.table.LinkAct.TheVariants as link
use Rattle.tool_tasks.specs.declared.task.Command.{Command}
use Rattle.tool_events.specs.declared.answer.Answer.TheVariants as answer
use Rattle.tool_events.specs.declared.entry.Entry.{Entry}
use Rattle.tool_events.specs.declared.event.Event.{Event}
use Rattle.tool_events.specs.declared.event.Event.TheVariants as event
use Rattle.line_grammar.specs.Texts.{IsFront}
use Rattle.robot_moves.specs.Modules.{unfetched}
use Rattle.floor_model.specs.Floor.{module_numbers}
use Rattle.gem_model.specs.State.{State, opening, is_up, is_session_up, raised}
use Rattle.gem_model.specs.Signals.{module_of, signalled}
use Rattle.gem_model.specs.Verdict.{header_of}
use Rattle.gem_model.specs.Step.{Outcome, step, after, acts, handed_out, answered, hosted, linked, command_out, settles}
use Rattle.gem_model.specs.Run.{Run}
use Rattle.gem_model.specs.Valid.{Valid}
use Rattle.gem_model.specs.Feed.{Given, nothing, taken_all, takes, entry_of, entered, fetched_one, fetched_by, fetched_all, input}
use Rattle.gem_model.proofs.Runs.{after-step}
use Rattle.gem_model.proofs.Settling.{settled_none}
use Rattle.gem_model.proofs.Validity.{earlier_quiet, step_valid, opening_valid, run_valid}
use Rattle.gem_model.proofs.Taking.{up_is}
use Rattle.history_parts.specs.CoreView.{CoreView}
use Rattle.driving.specs.declared.handler.Stop.TheVariants as halt
use Rattle.driving.specs.declared.handler.Stop as engine
use Rattle.driving.specs.Handling.{Handling}
use Rattle.driving.specs.Driving.{Handed, Drives}
use Rattle.driving.proofs.Fronts.{IsFront-behind}
use Rattle.batch_model.specs.declared.primary.Primary.{Primary}
use Rattle.batch_model.specs.Host.{primary_in}
use Rattle.batch_model.specs.Batch as batch
use Rattle.batch_model.specs.Batch.{primaries_in, frames_waiting}
use Rattle.batching.specs.declared.batch.Stop.{Stop}
use Rattle.batching.specs.declared.batch.Stop.TheVariants as stop
use Rattle.batching.specs.Making.{Makes}
use Rattle.batching.specs.Parts.{primaries_of, keeps, IsInput}

-- the message that is told by a step
abbrev told : Option Outcome → List Primary
told None = []
told (Some o) = primaries_of o.answer

-- ---- the entry of the input

-- there is a step, and its answer holds no message
pub record Quiet (step : Option Outcome) : Type 0 where
  pub outcome : Outcome
  pub here : step ≡ Some outcome
  pub none : primaries_of outcome.answer ≡ []

quiet : (o : Outcome) → primaries_of o.answer ≡ [] → Quiet (Some o)
quiet o none = record { outcome = o; here = refl; none = none }

either : (b : Bool) (x y : Option Outcome) → Quiet x → Quiet y → Quiet (if b then x else y)
either true x y first second = first
either false x y first second = second

quiet_link : (g : State) (arrival : Arrival) (act : LinkAct) → Quiet (Some (hosted g arrival act))
quiet_link g arrival (link.Reply h) = quiet _ refl
quiet_link g arrival link.Data = quiet _ refl
quiet_link g arrival link.Ended = quiet _ refl
quiet_link g arrival link.Nothing = quiet _ refl

quiet_acts : (before : ℕ) (g : State) (e : Event) → IsInput e → Quiet (acts before g e)
quiet_acts before g event.LinkUp one =
    either (is_up g) _ _ (quiet (answered answer.Ended g) refl)
    (quiet (answered (answer.Session (suc g.link.session)) (record g { link = record { session = suc g.link.session; phase = NotSelected (record { 0 = g.moment }); ping = Off } })) refl)
quiet_acts before g (event.Host session arrival) one =
    either (is_session_up g session) _ _ (quiet_link (linked g (header_of arrival)) arrival (link_act (header_of arrival) g.link)) (quiet (answered answer.Ended g) refl)
quiet_acts before g (event.Signal signal) one = quiet (answered answer.Done (signalled signal g)) refl
quiet_acts before g _ one = absurd one

quiet_settled : (o : Option Outcome) → Quiet o → Quiet (option_map settles o)
quiet_settled o q = record { outcome = settles q.outcome; here = ap (option_map settles) q.here; none = q.none }

-- an input of a batch has a step, which asks nothing
pub quiet_step : (g : State) (e : Event) → IsInput e → Quiet (step g 0 e)
quiet_step g e one = either g.quitting _ _ (quiet (answered answer.Ended (raised g 0)) refl) (quiet_settled (acts g.moment (raised g 0) e) (quiet_acts g.moment (raised g 0) e one))

pub has_step : (g : State) (e : Event) → IsInput e → step g 0 e ≢ None
has_step g e one none =
    let q = quiet_step g e one in
    let clash : Some q.outcome ≡ None = sym q.here ∙ none in
    cc clash

-- ---- the frames that are taken

-- while a session is up the run goes on
goes_on : (g : State) → Valid g → is_up g ≡ true → g.quitting ≡ false
goes_on g valid up = by_quit g.quitting refl
  where
    by_quit : (b : Bool) → g.quitting ≡ b → g.quitting ≡ false
    by_quit true quit = absurd (true≢false (sym up ∙ valid.quit quit))
    by_quit false quit = quit

-- the state without its oldest frame
abbrev without_first : State → List (List ℕ) → State
without_first g frames = record (raised g 0) { waiting = frames }

-- the oldest frame is handed out
taken : (g : State) (session : ℕ) (frame : List ℕ) (frames : List (List ℕ)) → Valid g → g.waiting ≡ frame ∷ frames → is_session_up g session ≡ true → step g 0 (event.Take session) ≡ Some (answered (answer.Frame frame) (without_first g frames))
taken g session frame frames valid waits up =
    ap (λ (b : Bool). if b then Some (answered answer.Ended (raised g 0)) else option_map settles (if is_session_up g session then handed_out (raised g 0) g.waiting else Some (answered answer.Ended (raised g 0)))) (goes_on g valid (up_is g session up).0)
    ∙ ap (λ (b : Bool). option_map settles (if b then handed_out (raised g 0) g.waiting else Some (answered answer.Ended (raised g 0)))) up
    ∙ ap (λ fs. option_map settles (handed_out (raised g 0) fs)) waits
    ∙ ap (λ (k : State). Some (answered (answer.Frame frame) k)) (settled_none (without_first g frames) (earlier_quiet g (raised g 0).moment frames (omega arith) valid.settled))

abbrev takes_of : ℕ → List (List ℕ) → List Entry
takes_of session waiting = map (λ _. entry_of 0 (event.Take session)) waiting

same_outcome : (step : Option Outcome) (o p : Outcome) → step ≡ Some o → step ≡ Some p → o ≡ p
same_outcome step o p first second = let same : Some o ≡ Some p = sym first ∙ second in cc

-- the messages of these frames are kept
frames_kept : {O : Type 0} (see : O → List Primary) (session : ℕ) (waiting : List (List ℕ)) (g h : State) (o o' : O) → Valid g → g.waiting ≡ waiting → is_session_up g session ≡ true → Handed (keeps see) g (takes_of session waiting) h o o' → see o' ≡ see o ++ primaries_in waiting
frames_kept see session [] g h o o' valid waits up handed = ap see handed.1 ∙ sym (append-nil (see o))
frames_kept {O = O} see session (frame ∷ frames) g h o o' valid waits up handed =
    let here = taken g session frame frames valid waits up in
    let same : handed.0 ≡ answered (answer.Frame frame) (without_first g frames) = same_outcome (step g 0 (event.Take session)) handed.0 _ handed.2 here in
    let rest : Handed (keeps see) (without_first g frames) (takes_of session frames) h handed.1 o' = subst (λ (x : Outcome). Handed (keeps see) x.after (takes_of session frames) h handed.1 o') same handed.4 in
    frames_kept see session frames (without_first g frames) h handed.1 o' (step_valid g 0 (event.Take session) _ valid here) refl up rest
    ∙ ap (λ (ps : List Primary). ps ++ primaries_in frames) (handed.3 ∙ ap (λ (x : Outcome). see o ++ primaries_of x.answer) same)
    ∙ append_assoc (see o) (option_to_list (primary_in frame)) (primaries_in frames)

same_number : (n : ℕ) → (n == n) ≡ true
same_number n = grind (arith, nat_tests)

takes_kept : {O : Type 0} (see : O → List Primary) (g h : State) (o o' : O) → Valid g → Handed (keeps see) g (takes g) h o o' → see o' ≡ see o ++ primaries_in (frames_waiting g)
takes_kept {O = O} see g h o o' valid handed = by_up (is_up g) refl handed
  where
    by_up : (b : Bool) → is_up g ≡ b → Handed (keeps see) g (if b then takes_of g.link.session g.waiting else []) h o o' → see o' ≡ see o ++ primaries_in (if b then g.waiting else [])
    by_up true up handed = frames_kept see g.link.session g.waiting g h o o' valid refl (ap (λ (b : Bool). b && (g.link.session == g.link.session)) up ∙ same_number g.link.session) handed
    by_up false up handed = ap see handed.1 ∙ sym (append-nil (see o))

-- ---- the commands that are fetched

command_untold : (b : Bool) (g : State) (m : ℕ) (command : Option Command) → told (if b then Some (answered answer.Ended g) else option_map settles (command_out g m command)) ≡ []
command_untold true g m command = refl
command_untold false g m None = refl
command_untold false g m (Some command) = refl

fetch_untold : (g : State) (m : ℕ) → told (step g 0 (event.Fetch (record { 0 = m }))) ≡ []
fetch_untold g m = command_untold g.quitting (raised g 0) m (unfetched (module_of m (raised g 0)))

-- a fetch keeps nothing
one_kept : {O : Type 0} (see : O → List Primary) (m : ℕ) (b : Bool) (g k h : State) (o o' : O) → Handed (keeps see) k (if b then entered g 0 (event.Fetch (record { 0 = m })) else nothing g).entries h o o' → see o' ≡ see o
one_kept see m true g k h o o' handed =
    ap see handed.4.1 ∙ handed.3 ∙ ap (λ (ps : List Primary). see o ++ ps) (sym (ap told handed.2) ∙ fetch_untold k m) ∙ append-nil (see o)
one_kept see m false g k h o o' handed = ap see handed.1

-- what was handed on of two parts, apart
Handed-apart : {O : Type 0} (handles : Handling O) (first more : List Entry) (g k : State) (o o' : O) → Handed handles g (first ++ more) k o o' → (h : State) × (between : O) × Handed handles g first h o between × Handed handles h more k between o'
Handed-apart handles [] more g k o o' handed = (g, o, (refl, refl), handed)
Handed-apart handles (e ∷ first) more g k o o' handed =
    let rest = Handed-apart handles first more handed.0.after k handed.1 o' handed.4 in
    (rest.0, rest.1, (handed.0, handed.1, handed.2, handed.3, rest.2), rest.3)

each_kept : {O : Type 0} (see : O → List Primary) (ms : List ℕ) (g k h : State) (o o' : O) → Handed (keeps see) k (fetched_by ms g).entries h o o' → see o' ≡ see o
each_kept see [] g k h o o' handed = ap see handed.1
each_kept see (m ∷ ms) g k h o o' handed =
    let next : State = (fetched_one m g).state in
    let parts = Handed-apart (keeps see) (fetched_one m g).entries (fetched_by ms next).entries k h o o' handed in
    each_kept see ms next parts.0 h parts.1 o' parts.3
    ∙ one_kept see m (is_some (step g 0 (event.Fetch (record { 0 = m })))) g k parts.0 o parts.1 parts.2

fetches_kept : {O : Type 0} (see : O → List Primary) (quits : Bool) (g k h : State) (o o' : O) → Handed (keeps see) k (if quits then nothing g else fetched_by (module_numbers 1 g.floor.modules) g).entries h o o' → see o' ≡ see o
fetches_kept see true g k h o o' handed = ap see handed.1
fetches_kept see false g k h o o' handed = each_kept see (module_numbers 1 g.floor.modules) g k h o o' handed

-- ---- an input

kept : {O : Type 0} (see : O → List Primary) (g h : State) (e : Event) (o o' : O) → Valid g → IsInput e → Handed (keeps see) g (input g 0 e).entries h o o' → see o' ≡ see o ++ primaries_in (frames_waiting (after g 0 e))
kept {O = O} see g h e o o' valid one handed =
    let k : State = after g 0 e in
    let there : k ≡ handed.0.after = after-step g 0 e handed.0 handed.2 in
    let q = quiet_step g e one in
    let untold : primaries_of handed.0.answer ≡ [] = ap (λ (x : Outcome). primaries_of x.answer) (same_outcome (step g 0 e) handed.0 q.outcome handed.2 q.here) ∙ q.none in
    let fetches : List Entry = (fetched_all (taken_all k).state).entries in
    let rest : Handed (keeps see) k (takes k ++ fetches) h handed.1 o' = subst (λ (s : State). Handed (keeps see) s (takes k ++ fetches) h handed.1 o') (sym there) handed.4 in
    let parts = Handed-apart (keeps see) (takes k) fetches k h handed.1 o' rest in
    fetches_kept see (taken_all k).state.quitting (taken_all k).state parts.0 h parts.1 o' parts.3
    ∙ takes_kept see k parts.0 handed.1 parts.1 (subst Valid (sym there) (step_valid g 0 e handed.0 valid handed.2)) parts.2
    ∙ ap (λ (ps : List Primary). ps ++ primaries_in (frames_waiting k)) (handed.3 ∙ ap (λ (ps : List Primary). see o ++ ps) untold ∙ append-nil (see o))

-- how a part of a batch ends where the engine does; a keeper refuses nothing
abbrev pub stopped : Result (Unit {0}) engine.Stop → Result (Unit {0}) Stop
stopped (Ok done) = Ok tt
stopped (Err halt.Full) = Err stop.Full
stopped (Err halt.NoMemory) = Err stop.NoMemory
stopped (Err halt.Refused) = Err stop.NoMemory

front : (core core' : CoreView) (added : List Entry) (given : Given) → core'.history ≡ core.history ++ added → IsFront added given.entries → IsFront core'.history (core.history ++ given.entries)
front core core' added given history h = rw history (IsFront-behind core.history added given.entries h)

-- What the engine does with a keeper is what an input of a batch makes.
pub Makes-driven : {O : Type 0} (see : O → List Primary) (core core' : CoreView) (o o' : O) (drawn : ℕ) (e : Event) (result : Result (Unit {0}) engine.Stop) → IsInput e → Run (opening core.config) core.history core.state → Drives (keeps see) core core' o o' (input core.state 0 e) result
    → Makes core (record { core = core'; asked = see o'; drawn = drawn }) (batch.entered e (record { state = core.state; asked = see o; drawn_last = drawn })) (stopped result)
Makes-driven {O = O} see core core' o o' drawn e (Ok done) one ran h =
    let valid : Valid core.state = run_valid (opening core.config) core.history core.state (opening_valid core.config) ran in
    let handed : Handed (keeps see) core.state (input core.state 0 e).entries core'.state o o' = subst (λ (es : List Entry). Handed (keeps see) core.state es core'.state o o') h.went.0 h.handed in
    record {
      config = h.config;
      on = (
        h.history ∙ ap (λ (es : List Entry). core.history ++ es) h.went.0,
        ap (λ (g : State). record { state = g; asked = see o'; drawn_last = drawn }) h.went.1
            ∙ ap (λ (ps : List Primary). record { state = (input core.state 0 e).state; asked = ps; drawn_last = drawn }) (kept see core.state core'.state e o o' valid one handed),
      );
    }
Makes-driven see core core' o o' drawn e (Err halt.Full) one ran h = record { config = h.config; on = h.went }
Makes-driven see core core' o o' drawn e (Err halt.NoMemory) one ran h = record { config = h.config; on = front core core' h.added (input core.state 0 e) h.history h.went }
Makes-driven see core core' o o' drawn e (Err halt.Refused) one ran h = record { config = h.config; on = front core core' h.added (input core.state 0 e) h.history h.went }
