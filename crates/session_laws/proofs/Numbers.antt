-- The sessions of a history are numbered from 1 on, in the order in which their links came up.
use Rattle.std.proofs.Common.{◌≡◌, ℕ, suc, Bool, true, false, List, [], ◌∷◌, ◌++◌, Option, Some, None, option_map, refl, sym, ◌∙◌, ap, subst}
use Rattle.std.specs.List.{flat_map}
use Rattle.hsms_frame.specs.declared.frame.Header.{Header}
use Rattle.hsms_frame.specs.declared.frame.Arrival.{Arrival}
use Rattle.hsms_link.specs.declared.state.LinkState.{LinkState}
use Rattle.hsms_link.specs.declared.state.Phase.TheVariants.{NotSelected}
use Rattle.hsms_link.specs.declared.state.Ping.TheVariants.{Off}
use Rattle.hsms_link.specs.declared.table.LinkAct.{LinkAct}
use Rattle.hsms_link.specs.declared.table.LinkAct.TheVariants as link
use Rattle.hsms_link.specs.LinkTable.{link_act}
use Rattle.tool_events.specs.declared.config.Config.{Config}
use Rattle.tool_events.specs.declared.entry.Entry.{Entry}
use Rattle.tool_events.specs.declared.event.Event.{Event}
use Rattle.tool_events.specs.declared.event.Event.TheVariants as event
use Rattle.tool_events.specs.declared.event.OperCmd.{OperCmd}
use Rattle.tool_events.specs.declared.event.OperCmd.TheVariants as oper
use Rattle.tool_events.specs.declared.event.SessionCause.{SessionCause}
use Rattle.tool_events.specs.declared.answer.Answer.{Answer}
use Rattle.tool_events.specs.declared.answer.Answer.TheVariants as answer
use Rattle.tool_tasks.specs.declared.task.Command.{Command}
use Rattle.robot_moves.specs.Modules.{unfetched}
use Rattle.floor_model.specs.Floor.{fetched}
use Rattle.gem_model.specs.State.{State, opening, is_up, is_session_up, raised, without_session}
use Rattle.gem_model.specs.Fire.{fires}
use Rattle.gem_model.specs.Direct.{session_end_rows, operator_rows}
use Rattle.gem_model.specs.Verdict.{header_of}
use Rattle.gem_model.specs.Act.{session_ended}
use Rattle.gem_model.specs.Due.{Due, EndOfSession, Linktest, Timeout, dues, is_due, all_done, asks_linktest, timed_out}
use Rattle.gem_model.specs.Settle.{settled}
use Rattle.gem_model.specs.Signals.{signalled, module_of, is_ready_to_unload}
use Rattle.gem_model.specs.Step.{Outcome, step, step_from, answered, ends, hosted, linked, handed_out, command_out, operated, is_accepted, switched, quits, ticked, ended_by, acts, settles}
use Rattle.gem_model.specs.Run.{Run, Recorded, entry_step, entry_after, recorded, recorded_as}
use Rattle.gem_model.proofs.Tests.{went, none_some}
use Rattle.gem_model.proofs.Links.{link_after-keeps}
use Rattle.gem_model.proofs.Same.{Same, same_then, same_listed, same_settled, same_data, same_timeout, same_switched, same_signal}
use Rattle.gem_model.proofs.Runs.{after-step}

-- the number of the session that an answer names
abbrev pub number_in : Answer → List ℕ
number_in (answer.Session n) = n ∷ []
number_in _ = []

-- the number that a link that came up was given
abbrev pub number_given : Event → Answer → List ℕ
number_given event.LinkUp a = number_in a
number_given _ a = []

-- the same of an entry
abbrev pub given_in : Recorded → List ℕ
given_in r = number_given r.entry.event r.outcome.answer

-- the numbers follow one another, and this is the first
abbrev pub AreFrom : ℕ → List ℕ → Type 0
AreFrom n [] = Unit {0}
AreFrom n (k ∷ ks) = (k ≡ n) × AreFrom (suc n) ks

-- ---- the number of the last session stays

record Stays (g : State) (o : Outcome) : Type 0 where
  same : o.after.link.session ≡ g.link.session

-- the outcome that is there
the_stays : (g : State) (x o : Outcome) → Stays g x → Some x ≡ Some o → Stays g o
the_stays g x o stays here = let is : x ≡ o = cc in subst (Stays g) is stays

stays_same : (g h : State) (a : Answer) → Same g h → Stays g (answered a h)
stays_same g h a same = record { same = ap (λ (l : LinkState). l.session) same.link }

stays_answered : (g : State) (a : Answer) → Stays g (answered a g)
stays_answered g a = record { same = refl }

ended_same : (g : State) → (session_ended g).link.session ≡ g.link.session
ended_same g = ap (λ (l : LinkState). l.session) (same_listed (session_end_rows g) (without_session g)).link

stays_ends : (g : State) (a : Answer) (c : SessionCause) → Stays g (ends a c g)
stays_ends g a c = record { same = ended_same g }

-- ---- messages of the host, and frames

stays_hosted : (g : State) (arrival : Arrival) (act : LinkAct) → Stays g (hosted g arrival act)
stays_hosted g arrival (link.Reply h) = record { same = refl }
stays_hosted g arrival link.Data = stays_same g _ _ (same_data g arrival)
stays_hosted g arrival link.Ended = stays_ends g _ _
stays_hosted g arrival link.Nothing = record { same = refl }

stays_linked : (g : State) (about : Header) (o : Outcome) → Stays (linked g about) o → Stays g o
stays_linked g about o stays = record { same = stays.same ∙ (link_after-keeps about g.moment g.link).session }

stays_arrived : (g : State) (arrival : Arrival) → Stays g (hosted (linked g (header_of arrival)) arrival (link_act (header_of arrival) g.link))
stays_arrived g arrival = stays_linked g (header_of arrival) _ (stays_hosted (linked g (header_of arrival)) arrival (link_act (header_of arrival) g.link))

stays_frame : (g : State) (frame : List ℕ) (frames : List (List ℕ)) → Stays g (answered (answer.Frame frame) (record g { waiting = frames }))
stays_frame g frame frames = record { same = refl }

stays_taken : (g : State) (frames : List (List ℕ)) (o : Outcome) → handed_out g frames ≡ Some o → Stays g o
stays_taken g [] o here = none_some o here
stays_taken g (frame ∷ frames) o here = the_stays g _ o (stays_frame g frame frames) here

-- ---- commands

stays_out : (g : State) (number : ℕ) (command : Command) → Stays g (answered (answer.Command command) (record g { floor = fetched number g.floor }))
stays_out g number command = record { same = refl }

stays_fetched : (g : State) (number : ℕ) (command : Option Command) (o : Outcome) → command_out g number command ≡ Some o → Stays g o
stays_fetched g number None o here = none_some o here
stays_fetched g number (Some command) o here = the_stays g _ o (stays_out g number command) here

stays_command : (g : State) (command : OperCmd) → Stays g (answered (answer.Oper (is_accepted command g)) (fires (operator_rows command) (switched command g)))
stays_command g command =
    stays_same g _ _ (same_then g _ _ (same_switched g command) (same_listed (operator_rows command (switched command g)) (switched command g)))

stays_quits : (g : State) (up : Bool) → Stays g (quits up g)
stays_quits g true = record { same = ended_same g }
stays_quits g false = record { same = refl }

stays_operated : (g : State) (command : OperCmd) → Stays g (operated command g)
stays_operated g oper.Quit = stays_quits g (is_up g)
stays_operated g command = stays_command g command

-- ---- the clock

due_same : (ds : List Due) (g : State) → (all_done ds g).link.session ≡ g.link.session
due_same [] g = refl
due_same (EndOfSession cause ∷ ds) g = due_same ds (session_ended g) ∙ ended_same g
due_same (Linktest ∷ ds) g = due_same ds (asks_linktest g)
due_same (Timeout one ∷ ds) g = due_same ds (timed_out one g) ∙ ap (λ (l : LinkState). l.session) (same_timeout g one).link

stays_due : (g : State) (ds : List Due) → Stays g (record { answer = answer.Done; ended = ended_by ds g; after = all_done ds g })
stays_due g ds = record { same = due_same ds g }

stays_ticked : (before : ℕ) (g : State) (o : Outcome) → ticked before g ≡ Some o → Stays g o
stays_ticked before g o here = went (is_due before g) _ _ _ (λ _ at. the_stays g _ o (stays_due g (dues g)) at) (λ _ at. none_some o at) here

-- ---- what a step does to the numbers

-- no session was given one, and that of the last stays; or the next was given the next
pub data Numbers (g : State) (e : Event) (o : Outcome) : Type 0 where
  gave_none : number_given e o.answer ≡ [] → o.after.link.session ≡ g.link.session → Numbers g e o
  gave_next : number_given e o.answer ≡ suc g.link.session ∷ [] → o.after.link.session ≡ suc g.link.session → Numbers g e o

the_numbers : (g : State) (e : Event) (x o : Outcome) → Numbers g e x → Some x ≡ Some o → Numbers g e o
the_numbers g e x o numbers here = let is : x ≡ o = cc in subst (Numbers g e) is numbers

-- none is given where the event isn't that a link came up
of_stays : (g : State) (e : Event) (o : Outcome) → ((a : Answer) → number_given e a ≡ []) → Stays g o → Numbers g e o
of_stays g e o none stays = gave_none (none o.answer) stays.same

none_ended : (e : Event) → number_given e answer.Ended ≡ []
none_ended event.LinkUp = refl
none_ended _ = refl

numbers_ended : (g : State) (e : Event) → Numbers g e (answered answer.Ended g)
numbers_ended g e = gave_none (none_ended e) refl

numbers_up : (g : State) → Numbers g event.LinkUp (answered (answer.Session (suc g.link.session)) (record g { link = record { session = suc g.link.session; phase = NotSelected (record { 0 = g.moment }); ping = Off } }))
numbers_up g = gave_next refl refl

numbers_acts : (before : ℕ) (g : State) (e : Event) (o : Outcome) → acts before g e ≡ Some o → Numbers g e o
numbers_acts before g event.LinkUp o here =
    went (is_up g) _ _ _ (λ _ at. the_numbers g event.LinkUp _ o (numbers_ended g event.LinkUp) at) (λ _ at. the_numbers g event.LinkUp _ o (numbers_up g) at) here
numbers_acts before g (event.LinkDown session cause) o here =
    of_stays g (event.LinkDown session cause) o (λ a. refl)
    (went (is_session_up g session) _ _ _ (λ _ at. the_stays g _ o (stays_ends g _ _) at) (λ _ at. the_stays g _ o (stays_answered g answer.Ended) at) here)
numbers_acts before g (event.Host session arrival) o here =
    of_stays g (event.Host session arrival) o (λ a. refl)
    (went (is_session_up g session) _ _ _ (λ _ at. the_stays g _ o (stays_arrived g arrival) at) (λ _ at. the_stays g _ o (stays_answered g answer.Ended) at) here)
numbers_acts before g (event.Take session) o here =
    of_stays g (event.Take session) o (λ a. refl)
    (went (is_session_up g session) _ _ _ (λ _ at. stays_taken g g.waiting o at) (λ _ at. the_stays g _ o (stays_answered g answer.Ended) at) here)
numbers_acts before g (event.Oper command) o here = of_stays g (event.Oper command) o (λ a. refl) (the_stays g _ o (stays_operated g command) here)
numbers_acts before g (event.Signal signal) o here =
    of_stays g (event.Signal signal) o (λ a. refl) (the_stays g _ o (stays_same g (signalled signal g) _ (same_signal g signal)) here)
numbers_acts before g (event.Fetch m) o here = of_stays g (event.Fetch m) o (λ a. refl) (stays_fetched g m.0 (unfetched (module_of m.0 g)) o here)
numbers_acts before g event.Tick o here = of_stays g event.Tick o (λ a. refl) (stays_ticked before g o here)
numbers_acts before g event.Listen o here = none_some o here
numbers_acts before g (event.Watch port) o here =
    of_stays g (event.Watch port) o (λ a. refl)
    (went (is_ready_to_unload port.0 g) _ _ _ (λ _ at. the_stays g _ o (stays_answered g answer.Done) at) (λ _ at. none_some o at) here)

settled_same : (g : State) → (settled g).link.session ≡ g.link.session
settled_same g = ap (λ (l : LinkState). l.session) (same_settled g).link

numbers_settles : (g : State) (e : Event) (o : Outcome) → Numbers g e o → Numbers g e (settles o)
numbers_settles g e o (gave_none none same) = gave_none none (settled_same o.after ∙ same)
numbers_settles g e o (gave_next next same) = gave_next next (settled_same o.after ∙ same)

numbers_mapped : (g : State) (e : Event) (x : Option Outcome) (o : Outcome) → ((p : Outcome) → x ≡ Some p → Numbers g e p) → option_map settles x ≡ Some o → Numbers g e o
numbers_mapped g e None o numbers here = none_some o here
numbers_mapped g e (Some p) o numbers here = the_numbers g e (settles p) o (numbers_settles g e p (numbers p refl)) here

numbers_from : (before : ℕ) (g : State) (e : Event) (o : Outcome) → step_from before g e ≡ Some o → Numbers g e o
numbers_from before g e o here =
    went g.quitting _ _ _ (λ _ at. the_numbers g e _ o (numbers_ended g e) at) (λ _ at. numbers_mapped g e (acts before g e) o (numbers_acts before g e) at) here

-- the moment has no part in it
as_raised : (g : State) (at : ℕ) (e : Event) (o : Outcome) → Numbers (raised g at) e o → Numbers g e o
as_raised g at e o (gave_none none same) = gave_none none same
as_raised g at e o (gave_next next same) = gave_next next same

numbers_step : (g : State) (at : ℕ) (e : Event) (o : Outcome) → step g at e ≡ Some o → Numbers g e o
numbers_step g at e o here = as_raised g at e o (numbers_from g.moment (raised g at) e o here)

-- ---- what a run gives

first_told : {A : Type 0} (f : Recorded → List A) (g : State) (x : Entry) (es : List Entry) (o : Outcome) → entry_step g x ≡ Some o
    → flat_map f (recorded g (x ∷ es)) ≡ f (record { entry = x; outcome = o }) ++ flat_map f (recorded o.after es)
first_told f g x es o here =
    ap (λ (s : Option Outcome). flat_map f (recorded_as x s ++ recorded (entry_after g x) es)) here
    ∙ ap (λ (k : State). flat_map f (recorded_as x (Some o) ++ recorded k es)) (after-step g x.at.0 x.event o here)

numbered_first : (g : State) (e : Event) (o : Outcome) (ns : List ℕ) → Numbers g e o → AreFrom (suc o.after.link.session) ns
    → AreFrom (suc g.link.session) (number_given e o.answer ++ ns)
numbered_first g e o ns (gave_none none same) rest =
    subst (λ (l : List ℕ). AreFrom (suc g.link.session) (l ++ ns)) (sym none) (subst (λ (n : ℕ). AreFrom (suc n) ns) same rest)
numbered_first g e o ns (gave_next next same) rest =
    subst (λ (l : List ℕ). AreFrom (suc g.link.session) (l ++ ns)) (sym next) (refl, subst (λ (n : ℕ). AreFrom (suc n) ns) same rest)

numbered : (g : State) (es : List Entry) (h : State) → Run g es h → AreFrom (suc g.link.session) (flat_map given_in (recorded g es))
numbered g [] h run = tt
numbered g (x ∷ es) h run =
    subst (AreFrom (suc g.link.session)) (sym (first_told given_in g x es run.0 run.1))
    (numbered_first g x.event run.0 (flat_map given_in (recorded run.0.after es)) (numbers_step g x.at.0 x.event run.0 run.1) (numbered run.0.after es h run.2))

-- the links that came up in a history were given 1, 2 and so on
pub numbered_from_1 : (c : Config) (es : List Entry) (h : State) → Run (opening c) es h → AreFrom 1 (flat_map given_in (recorded (opening c) es))
numbered_from_1 c es h run = numbered (opening c) es h run
