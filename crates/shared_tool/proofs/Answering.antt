-- Each step answers as its event may be answered, and only an event that may have to wait has none.
use Rattle.std.proofs.Common.{◌≡◌, ◌⊎◌, inl, inr, ℕ, Bool, true, false, IsTrue, if◌then◌else◌, List, [], ◌∷◌, ◌++◌, Option, Some, None, option_map, Ok, Err, Result, IfOk, refl, sym, ap, ◌∙◌, subst}
use Rattle.gem_ids.specs.declared.numbers.ModuleId.{ModuleId}
use Rattle.hsms_frame.specs.declared.frame.Arrival.{Arrival}
use Rattle.hsms_link.specs.declared.table.LinkAct.{LinkAct}
use Rattle.hsms_link.specs.declared.table.LinkAct.TheVariants as link
use Rattle.hsms_link.specs.LinkTable.{link_act}
use Rattle.robot_moves.specs.Modules.{unfetched}
use Rattle.tool_events.specs.declared.event.Event.{Event}
use Rattle.tool_events.specs.declared.event.Event.TheVariants as event
use Rattle.tool_events.specs.declared.event.OperCmd.{OperCmd}
use Rattle.tool_events.specs.declared.event.OperCmd.TheVariants as oper
use Rattle.tool_events.specs.declared.answer.Answer.{Answer}
use Rattle.tool_events.specs.declared.answer.Answer.TheVariants as answer
use Rattle.tool_events.specs.declared.answer.PostFault.{PostFault}
use Rattle.tool_tasks.specs.declared.task.Command.{Command}
use Rattle.tool_events.specs.declared.entry.Entry.{Entry}
use Rattle.tool_events.specs.Answering.{may_be_answered, may_wait}
use Rattle.gem_model.specs.State.{State, is_up, is_session_up, raised}
use Rattle.gem_model.specs.Verdict.{header_of}
use Rattle.gem_model.specs.Due.{is_due}
use Rattle.gem_model.specs.Signals.{module_of, is_ready_to_unload}
use Rattle.gem_model.specs.Step.{Outcome, step, step_from, acts, settles, hosted, linked, handed_out, command_out, operated, quits}
use Rattle.gem_model.specs.Run.{Run}
use Rattle.gem_model.proofs.Tests.{none_some}
use Rattle.shared_tool.specs.declared.posted.Posted.{Posted}
use Rattle.shared_tool.specs.Posts.{posted, posted_from}
use Rattle.shared_tool.specs.Laws.{posted_so}

-- ---- the answer of a step

-- which way a test went
by_test : {P : Type 0} {A : Type 0} (b : Bool) (x y z : A) → if b then x else y ≡ z → (b ≡ true → x ≡ z → P) → (b ≡ false → y ≡ z → P) → P
by_test true x y z here at_x at_y = at_x refl here
by_test false x y z here at_x at_y = at_y refl here

-- the event may have this answer
abbrev Answers : Event → Outcome → Type 0
Answers e o = may_be_answered e o.answer ≡ true

-- the outcome that is there
the_some : (P : Outcome → Type 0) (x o : Outcome) → Some x ≡ Some o → P x → P o
the_some P x o here holds = let is : x ≡ o = cc in subst P is holds

-- every event may have Ended
may_end : (e : Event) → may_be_answered e answer.Ended ≡ true
may_end event.LinkUp = refl
may_end (event.LinkDown session cause) = refl
may_end (event.Host session arrival) = refl
may_end (event.Take session) = refl
may_end (event.Oper command) = refl
may_end (event.Signal signal) = refl
may_end (event.Fetch m) = refl
may_end event.Tick = refl
may_end event.Listen = refl
may_end (event.Watch port) = refl

hosted_answers : (g : State) (session : ℕ) (arrival : Arrival) (act : LinkAct) → Answers (event.Host session arrival) (hosted g arrival act)
hosted_answers g session arrival (link.Reply h) = refl
hosted_answers g session arrival link.Data = refl
hosted_answers g session arrival link.Ended = refl
hosted_answers g session arrival link.Nothing = refl

taken_answers : (g : State) (session : ℕ) (frames : List (List ℕ)) (o : Outcome) → handed_out g frames ≡ Some o → Answers (event.Take session) o
taken_answers g session [] o here = none_some o here
taken_answers g session (frame ∷ frames) o here = the_some (Answers (event.Take session)) _ o here refl

quit_answers : (g : State) (up : Bool) → (quits up g).answer ≡ answer.Oper true
quit_answers g true = refl
quit_answers g false = refl

operated_answers : (g : State) (command : OperCmd) → Answers (event.Oper command) (operated command g)
operated_answers g oper.Quit = ap (may_be_answered (event.Oper oper.Quit)) (quit_answers g (is_up g))
operated_answers g oper.Enable = refl
operated_answers g oper.Disable = refl
operated_answers g oper.Online = refl
operated_answers g oper.Offline = refl
operated_answers g oper.Local = refl
operated_answers g oper.Remote = refl
operated_answers g (oper.Service port on) = refl
operated_answers g (oper.Access port auto) = refl
operated_answers g (oper.Job job word) = refl
operated_answers g (oper.CtlJob job command) = refl
operated_answers g (oper.Up m) = refl
operated_answers g (oper.Clear alid) = refl
operated_answers g (oper.Lost sub) = refl

fetched_answers : (g : State) (m : ModuleId) (number : ℕ) (command : Option Command) (o : Outcome) → command_out g number command ≡ Some o → Answers (event.Fetch m) o
fetched_answers g m number None o here = none_some o here
fetched_answers g m number (Some command) o here = the_some (Answers (event.Fetch m)) _ o here refl

acts_answers : (before : ℕ) (g : State) (e : Event) (o : Outcome) → acts before g e ≡ Some o → Answers e o
acts_answers before g event.LinkUp o here = by_test (is_up g) _ _ _ here (λ _ at. the_some (Answers event.LinkUp) _ o at refl) (λ _ at. the_some (Answers event.LinkUp) _ o at refl)
acts_answers before g (event.LinkDown session cause) o here =
    by_test (is_session_up g session) _ _ _ here (λ _ at. the_some (Answers (event.LinkDown session cause)) _ o at refl) (λ _ at. the_some (Answers (event.LinkDown session cause)) _ o at refl)
acts_answers before g (event.Host session arrival) o here =
    by_test (is_session_up g session) _ _ _ here
    (λ _ at. the_some (Answers (event.Host session arrival)) _ o at (hosted_answers (linked g (header_of arrival)) session arrival (link_act (header_of arrival) g.link)))
    (λ _ at. the_some (Answers (event.Host session arrival)) _ o at refl)
acts_answers before g (event.Take session) o here =
    by_test (is_session_up g session) _ _ _ here (λ _ at. taken_answers g session g.waiting o at) (λ _ at. the_some (Answers (event.Take session)) _ o at refl)
acts_answers before g (event.Oper command) o here = the_some (Answers (event.Oper command)) _ o here (operated_answers g command)
acts_answers before g (event.Signal signal) o here = the_some (Answers (event.Signal signal)) _ o here refl
acts_answers before g (event.Fetch m) o here = fetched_answers g m m.0 (unfetched (module_of m.0 g)) o here
acts_answers before g event.Tick o here = by_test (is_due before g) _ _ _ here (λ _ at. the_some (Answers event.Tick) _ o at refl) (λ _ at. none_some o at)
acts_answers before g event.Listen o here = none_some o here
acts_answers before g (event.Watch port) o here =
    by_test (is_ready_to_unload port.0 g) _ _ _ here (λ _ at. the_some (Answers (event.Watch port)) _ o at refl) (λ _ at. none_some o at)

-- settling leaves the answer
settled_answers : (P : Answer → Type 0) (x : Option Outcome) (o : Outcome) → ((p : Outcome) → x ≡ Some p → P p.answer) → option_map settles x ≡ Some o → P o.answer
settled_answers P None o holds here = none_some o here
settled_answers P (Some p) o holds here = the_some (λ (q : Outcome). P q.answer) (settles p) o here (holds p refl)

from_answers : (before : ℕ) (g : State) (e : Event) (o : Outcome) → step_from before g e ≡ Some o → Answers e o
from_answers before g e o here =
    by_test g.quitting _ _ _ here
    (λ _ at. the_some (Answers e) _ o at (may_end e))
    (λ _ at. settled_answers (λ (a : Answer). may_be_answered e a ≡ true) (acts before g e) o (acts_answers before g e) at)

-- a step answers as its event may be answered
pub step_answers : (g : State) (at : ℕ) (e : Event) (o : Outcome) → step g at e ≡ Some o → may_be_answered e o.answer ≡ true
step_answers g at e o here = from_answers g.moment (raised g at) e o here

abbrev Quits : Outcome → Type 0
Quits o = (o.answer ≡ answer.Oper true) ⊎ (o.answer ≡ answer.Ended)

quit_from : (before : ℕ) (g : State) (o : Outcome) → step_from before g (event.Oper oper.Quit) ≡ Some o → Quits o
quit_from before g o here =
    by_test g.quitting _ _ _ here
    (λ _ at. the_some Quits _ o at (inr refl))
    (λ _ at. settled_answers (λ (a : Answer). (a ≡ answer.Oper true) ⊎ (a ≡ answer.Ended)) (acts before g (event.Oper oper.Quit)) o
    (λ p is. the_some Quits _ p is (inl (quit_answers g (is_up g)))) at)

-- a quit that has a step is answered that it was accepted, or Ended
pub quit_is_answered : (g : State) (at : ℕ) (o : Outcome) → step g at (event.Oper oper.Quit) ≡ Some o → (o.answer ≡ answer.Oper true) ⊎ (o.answer ≡ answer.Ended)
quit_is_answered g at o here = quit_from g.moment (raised g at) o here

-- ---- an event without a step

some_none : {P : Type 0} (x : Outcome) → Some x ≡ None → P
some_none x here = absurd (cc)

acts_wait : (before : ℕ) (g : State) (e : Event) → acts before g e ≡ None → may_wait e ≡ true
acts_wait before g event.LinkUp here = by_test (is_up g) _ _ _ here (λ _ at. some_none _ at) (λ _ at. some_none _ at)
acts_wait before g (event.LinkDown session cause) here = by_test (is_session_up g session) _ _ _ here (λ _ at. some_none _ at) (λ _ at. some_none _ at)
acts_wait before g (event.Host session arrival) here = by_test (is_session_up g session) _ _ _ here (λ _ at. some_none _ at) (λ _ at. some_none _ at)
acts_wait before g (event.Take session) here = refl
acts_wait before g (event.Oper command) here = some_none _ here
acts_wait before g (event.Signal signal) here = some_none _ here
acts_wait before g (event.Fetch m) here = refl
acts_wait before g event.Tick here = refl
acts_wait before g event.Listen here = refl
acts_wait before g (event.Watch port) here = refl

settled_none : (x : Option Outcome) → option_map settles x ≡ None → x ≡ None
settled_none None here = refl
settled_none (Some p) here = some_none (settles p) here

from_waits : (before : ℕ) (g : State) (e : Event) → step_from before g e ≡ None → may_wait e ≡ true
from_waits before g e here = by_test g.quitting _ _ _ here (λ _ at. some_none _ at) (λ _ at. acts_wait before g e (settled_none (acts before g e) at))

-- only an event that may have to wait has no step
pub step_waits : (g : State) (at : ℕ) (e : Event) → step g at e ≡ None → may_wait e ≡ true
step_waits g at e here = from_waits g.moment (raised g at) e here

-- ---- the last post of a history

no_last : (before : List Posted) (p : Posted) → [] ≡ before ++ p ∷ [] → ⊥
no_last [] p e = absurd (cc)
no_last (b ∷ before) p e = absurd (cc)

-- the last entry had a step that was answered so
last_answers : (g : State) (es : List Entry) (h : State) (before : List Posted) (p : Posted) → Run g es h → posted_from g es ≡ before ++ p ∷ [] → may_be_answered p.event p.answer ≡ true
last_answers g [] h before p run e = absurd (no_last before p e)
last_answers g (x ∷ es) h [] p run e =
    let first : posted x.seat x.at.0 x.event run.0.answer ∷ posted_from run.0.after es ≡ p ∷ [] = sym (posted_so g x es run.0 run.1) ∙ e in
    let is : posted x.seat x.at.0 x.event run.0.answer ≡ p = cc in
    subst (λ (q : Posted). may_be_answered q.event q.answer ≡ true) is (step_answers g x.at.0 x.event run.0 run.1)
last_answers g (x ∷ es) h (b ∷ before) p run e =
    let first : posted x.seat x.at.0 x.event run.0.answer ∷ posted_from run.0.after es ≡ b ∷ (before ++ p ∷ []) = sym (posted_so g x es run.0 run.1) ∙ e in
    last_answers run.0.after es h before p run.2 (cc)

-- what a front ends with was answered as its event may be answered
pub answered_in : (g : State) (es : List Entry) (h : State) (front : List Posted) (r : Result Answer PostFault) (seat at : ℕ) (e : Event) (Q : Answer → List Posted → Type 0) → Run g es h → front ≡ posted_from g es
    → IfOk r (λ a. (before : List Posted) × (front ≡ before ++ posted seat at e a ∷ []) × Q a before) → IfOk r (λ a. IsTrue (may_be_answered e a))
answered_in g es h front (Ok a) seat at e Q run same last = last_answers g es h last.0 (posted seat at e a) run (sym same ∙ last.1)
answered_in g es h front (Err x) seat at e Q run same last = tt
