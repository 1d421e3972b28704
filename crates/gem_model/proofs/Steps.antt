-- What each step keeps.
use Rattle.std.proofs.Common.{◌≡◌, ℕ, suc, ◌+◌, ◌≤◌, Bool, true, false, if◌then◌else◌, List, [], ◌∷◌, length, Option, Some, None, IfSome, option_map, map, refl, sym, ◌∙◌, ap, subst, arith}
use Rattle.std.specs.Option.{option_to_list}
use Rattle.std.proofs.lemmas.Bool.{true≢false}
use Rattle.hsms_frame.specs.declared.frame.Header.{Header}
use Rattle.hsms_frame.specs.declared.frame.Arrival.{Arrival}
use Rattle.hsms_link.specs.declared.state.LinkState.{LinkState}
use Rattle.hsms_link.specs.Links as links
use Rattle.hsms_link.specs.declared.table.LinkAct.{LinkAct}
use Rattle.hsms_link.specs.declared.table.LinkAct.TheVariants as link
use Rattle.hsms_link.specs.declared.deadlines.LinkDue.{LinkDue}
use Rattle.hsms_link.specs.declared.deadlines.LinkDue.TheVariants as due
use Rattle.hsms_link.specs.LinkTable.{link_act}
use Rattle.hsms_link.specs.Deadlines.{due_at}
use Rattle.hsms_link.specs.declared.state.Phase.TheVariants.{NotSelected}
use Rattle.hsms_link.specs.declared.state.Ping.TheVariants.{Off}
use Rattle.tool_events.specs.declared.event.Event.{Event}
use Rattle.tool_events.specs.declared.event.Event.TheVariants as event
use Rattle.tool_events.specs.declared.event.OperCmd.{OperCmd}
use Rattle.tool_events.specs.declared.event.OperCmd.TheVariants as oper
use Rattle.tool_events.specs.declared.event.SessionCause.{SessionCause}
use Rattle.tool_events.specs.declared.event.SessionCause.TheVariants as cause
use Rattle.tool_events.specs.declared.event.SessionEnd.{SessionEnd}
use Rattle.tool_events.specs.declared.answer.Answer.{Answer}
use Rattle.tool_events.specs.declared.answer.Answer.TheVariants as answer
use Rattle.transactions.specs.declared.transaction.Open.{Open}
use Rattle.gem_model.specs.State.{State, is_up, is_session_up, raised, without_session}
use Rattle.gem_model.specs.Fire.{fires}
use Rattle.gem_model.specs.Direct.{session_end_rows, operator_rows}
use Rattle.gem_model.specs.Verdict.{header_of}
use Rattle.gem_model.specs.Act.{session_ended}
use Rattle.gem_model.specs.Due.{Due, EndOfSession, Linktest, Timeout, dues, dues_with, timeouts, expired, link_times, is_due, all_done, asks_linktest, timed_out}
use Rattle.gem_model.specs.Settle.{settled}
use Rattle.gem_model.specs.Step.{Outcome, step, step_from, answered, end_now, hosted, linked, handed_out, command_out, operated, is_accepted, switched, quits, ticked, ended_by, acts, settles}
use Rattle.gem_model.proofs.Links.{link_after-keeps, due-down}
use Rattle.gem_model.proofs.Tests.{went, none_some}
use Rattle.tool_tasks.specs.declared.task.Command.{Command}
use Rattle.robot_moves.specs.Modules.{unfetched}
use Rattle.floor_model.specs.Floor.{fetched}
use Rattle.gem_model.specs.Signals.{signalled, module_of, is_ready_to_unload}
use Rattle.gem_model.proofs.Same.{Same, same_at, same_then, same_listed, same_settled, same_data, same_timeout, same_switched, same_signal}

-- 1 for a session that is up
abbrev pub up_count : State → ℕ
up_count g = if is_up g then 1 else 0

-- The configuration stays; at most one session comes; the sessions that are over and the one that is up are counted;
-- none ends where none is up; the one that ends is the one that was up; and where the step ends the run none is up.
pub record Keeping (g : State) (o : Outcome) : Type 0 where
  pub config : o.after.config ≡ g.config
  pub session : o.after.link.session ≤ suc g.link.session
  pub counts : o.after.link.session + up_count g ≡ g.link.session + (length (option_to_list o.ended) + up_count o.after)
  pub none : is_up g ≡ false → o.ended ≡ None
  pub numbered : IfSome o.ended (λ (e : SessionEnd). e.session ≡ g.link.session)
  pub quit : g.quitting ≡ false → o.after.quitting ≡ true → is_up o.after ≡ false

pub up_at : (g : State) (session : ℕ) → is_session_up g session ≡ true → is_up g ≡ true
up_at g session up = grind (arith, up)

count_up : (g : State) → is_up g ≡ true → up_count g ≡ 1
count_up g up = ap (λ (b : Bool). if b then 1 else 0) up

count_down : (g : State) → is_up g ≡ false → up_count g ≡ 0
count_down g down = ap (λ (b : Bool). if b then 1 else 0) down

-- ---- no session ends

-- the session goes on, and nothing ended
keeps_on : (g h : State) (answer : Answer) → h.config ≡ g.config → h.link.session ≡ g.link.session → is_up h ≡ is_up g → h.quitting ≡ g.quitting → Keeping g (answered answer h)
keeps_on g h answer config session up quitting = record {
  config = config;
  session = omega arith;
  counts = let count : up_count h ≡ up_count g = ap (λ (b : Bool). if b then 1 else 0) up in omega arith;
  none = λ _. refl;
  numbered = tt;
  quit = λ before after. absurd (true≢false (sym after ∙ quitting ∙ before));
}

keeps_same : (g h : State) (answer : Answer) → Same g h → Keeping g (answered answer h)
keeps_same g h answer same =
    keeps_on g h answer same.config (ap (λ (l : LinkState). l.session) same.link) (ap (λ (l : LinkState). links.is_up l.phase) same.link) same.quitting

-- ---- the session ends

ended_link : (g : State) → Same (without_session g) (session_ended g)
ended_link g = same_listed (session_end_rows g) (without_session g)

ended_session : (g : State) → (session_ended g).link.session ≡ g.link.session
ended_session g = ap (λ (l : LinkState). l.session) (ended_link g).link

pub ended_down : (g : State) → is_up (session_ended g) ≡ false
ended_down g = ap (λ (l : LinkState). links.is_up l.phase) (ended_link g).link

-- the state is that in which the session has ended, but for the end of the run
record EndsAs (g h : State) : Type 0 where
  pub config : h.config ≡ (session_ended g).config
  pub link : h.link ≡ (session_ended g).link

ends_as : (g : State) → EndsAs g (session_ended g)
ends_as g = record { config = refl; link = refl }

keeps_end : (g h : State) (answer : Answer) (cause : SessionCause) → is_up g ≡ true → EndsAs g h → Keeping g (record { answer = answer; ended = Some (end_now cause g); after = h })
keeps_end g h answer cause up same = record {
  config = same.config ∙ (ended_link g).config;
  session = let is = ended_session g in let at = ap (λ (l : LinkState). l.session) same.link in omega arith;
  counts = let is = ended_session g in
      let at = ap (λ (l : LinkState). l.session) same.link in
      let down : up_count h ≡ 0 = count_down h (ap (λ (l : LinkState). links.is_up l.phase) same.link ∙ ended_down g) in
      let count : up_count g ≡ 1 = count_up g up in
      omega arith;
  none = λ down. absurd (true≢false (sym up ∙ down));
  numbered = refl;
  quit = λ _ _. ap (λ (l : LinkState). links.is_up l.phase) same.link ∙ ended_down g;
}

-- ---- messages of the host

keeps_linked : (g : State) (about : Header) (o : Outcome) → is_up g ≡ true → Keeping (linked g about) o → Keeping g o
keeps_linked g about o up k =
    let l = link_after-keeps about g.moment g.link in
    let count : up_count (linked g about) ≡ 1 = count_up (linked g about) (l.up up) in
    let here : up_count g ≡ 1 = count_up g up in
    let session : (linked g about).link.session ≡ g.link.session = l.session in
    record {
      config = k.config;
      session = omega (arith, k.session, session);
      counts = omega (arith, k.counts, session);
      none = λ down. absurd (true≢false (sym up ∙ down));
      numbered = subst (λ n. IfSome o.ended (λ (e : SessionEnd). e.session ≡ n)) session k.numbered;
      quit = k.quit;
    }

keeps_hosted : (g : State) (arrival : Arrival) (act : LinkAct) → is_up g ≡ true → Keeping g (hosted g arrival act)
keeps_hosted g arrival (link.Reply h) up = keeps_same g _ _ (record { config = refl; link = refl; quitting = refl })
keeps_hosted g arrival link.Data up = keeps_same g _ _ (same_data g arrival)
keeps_hosted g arrival link.Ended up = keeps_end g _ _ _ up (ends_as _)
keeps_hosted g arrival link.Nothing up = keeps_same g _ _ (same_at g)

-- the outcome that is there
the_some : (g : State) (x o : Outcome) → Keeping g x → Some x ≡ Some o → Keeping g o
the_some g x o keeps here = let is : x ≡ o = cc in subst (Keeping g) is keeps

keeps_taken : (g : State) (frames : List (List ℕ)) (o : Outcome) → handed_out g frames ≡ Some o → Keeping g o
keeps_taken g [] o here = none_some o here
keeps_taken g (frame ∷ frames) o here = the_some g _ o (keeps_same g (record g { waiting = frames }) _ (record { config = refl; link = refl; quitting = refl })) here

-- ---- operators

keeps_command : (g : State) (command : OperCmd) → Keeping g (answered (answer.Oper (is_accepted command g)) (fires (operator_rows command) (switched command g)))
keeps_command g command = keeps_same g _ _ (same_then g _ _ (same_switched g command) (same_listed (operator_rows command (switched command g)) (switched command g)))

keeps_quit : (g : State) (up : Bool) → is_up g ≡ up → Keeping g (quits up g)
keeps_quit g true up = keeps_end g (record (session_ended g) { quitting = true }) (answer.Oper true) cause.Quit up (record { config = refl; link = refl })
keeps_quit g false down = record {
  config = refl;
  session = omega arith;
  counts = omega arith;
  none = λ _. refl;
  numbered = tt;
  quit = λ _ _. down;
}

keeps_operated : (g : State) (command : OperCmd) → Keeping g (operated command g)
keeps_operated g oper.Quit = keeps_quit g (is_up g) refl
keeps_operated g oper.Enable = keeps_command g oper.Enable
keeps_operated g oper.Disable = keeps_command g oper.Disable
keeps_operated g oper.Online = keeps_command g oper.Online
keeps_operated g oper.Offline = keeps_command g oper.Offline
keeps_operated g oper.Local = keeps_command g oper.Local
keeps_operated g oper.Remote = keeps_command g oper.Remote
keeps_operated g (oper.Service p on) = keeps_command g (oper.Service p on)
keeps_operated g (oper.Access p on) = keeps_command g (oper.Access p on)
keeps_operated g (oper.Job j w) = keeps_command g (oper.Job j w)
keeps_operated g (oper.CtlJob j n) = keeps_command g (oper.CtlJob j n)
keeps_operated g (oper.Up m) = keeps_command g (oper.Up m)
keeps_operated g (oper.Clear n) = keeps_command g (oper.Clear n)
keeps_operated g (oper.Lost s) = keeps_command g (oper.Lost s)

-- ---- the clock

-- the session goes on, in the same state of the link but for the linktest
pub record GoesOn (g h : State) : Type 0 where
  pub config : h.config ≡ g.config
  pub session : h.link.session ≡ g.link.session
  pub up : is_up h ≡ is_up g
  pub quitting : h.quitting ≡ g.quitting

pub goes_same : (g h : State) → Same g h → GoesOn g h
goes_same g h same = record {
  config = same.config;
  session = ap (λ (l : LinkState). l.session) same.link;
  up = ap (λ (l : LinkState). links.is_up l.phase) same.link;
  quitting = same.quitting;
}

goes_then : (g h k : State) → GoesOn g h → GoesOn h k → GoesOn g k
goes_then g h k first next = record { config = next.config ∙ first.config; session = next.session ∙ first.session; up = next.up ∙ first.up; quitting = next.quitting ∙ first.quitting }

-- none of these ends the session
abbrev pub NoneEnds : List Due → Type 0
NoneEnds [] = Unit {0}
NoneEnds (EndOfSession cause ∷ dues) = ⊥
NoneEnds (Linktest ∷ dues) = NoneEnds dues
NoneEnds (Timeout one ∷ dues) = NoneEnds dues

pub goes_all : (ds : List Due) (g : State) → NoneEnds ds → GoesOn g (all_done ds g)
goes_all [] g none = goes_same g g (same_at g)
goes_all (EndOfSession cause ∷ ds) g none = absurd none
goes_all (Linktest ∷ ds) g none =
    goes_then g (asks_linktest g) _ (record { config = refl; session = refl; up = refl; quitting = refl }) (goes_all ds (asks_linktest g) none)
goes_all (Timeout one ∷ ds) g none =
    goes_then g (timed_out one g) _ (goes_same g _ (same_timeout g one)) (goes_all ds (timed_out one g) none)

pub timeouts_end_none : (ones : List Open) → NoneEnds (map (λ one. Timeout one) ones)
timeouts_end_none [] = tt
timeouts_end_none (one ∷ ones) = timeouts_end_none ones

pub none_ended : (ds : List Due) (g : State) → NoneEnds ds → ended_by ds g ≡ None
none_ended [] g none = refl
none_ended (EndOfSession cause ∷ ds) g none = absurd none
none_ended (Linktest ∷ ds) g none = refl
none_ended (Timeout one ∷ ds) g none = refl

-- what is done of these, at a look at the clock
abbrev looked : List Due → State → Outcome
looked ds g = record { answer = answer.Done; ended = ended_by ds g; after = all_done ds g }

keeps_goes : (ds : List Due) (g : State) → NoneEnds ds → Keeping g (looked ds g)
keeps_goes ds g none =
    let goes = goes_all ds g none in
    let no : ended_by ds g ≡ None = none_ended ds g none in
    subst (λ (e : Option SessionEnd). Keeping g (record { answer = answer.Done; ended = e; after = all_done ds g })) (sym no)
    (keeps_on g (all_done ds g) answer.Done goes.config goes.session goes.up goes.quitting)

-- where something is due on the link a session is up
up_due : (g : State) (d : LinkDue) → (is_up g ≡ false → Some d ≡ None) → is_up g ≡ true
up_due g d none = by_up (is_up g) refl
  where
    by_up : (up : Bool) → is_up g ≡ up → is_up g ≡ true
    by_up true up = up
    by_up false down = absurd (let no : Some d ≡ None = none down in cc)

keeps_looked : (g : State) (d : Option LinkDue) → (is_up g ≡ false → d ≡ None) → Keeping g (looked (dues_with g d) g)
keeps_looked g (Some due.T7) none = keeps_end g _ _ _ (up_due g due.T7 none) (ends_as _)
keeps_looked g (Some due.T6) none = keeps_end g _ _ _ (up_due g due.T6 none) (ends_as _)
keeps_looked g (Some due.AskLinktest) none = keeps_goes (Linktest ∷ timeouts g) g (timeouts_end_none (expired g))
keeps_looked g None none = keeps_goes (timeouts g) g (timeouts_end_none (expired g))

pub due_up : (g : State) → is_up g ≡ false → due_at (link_times g) g.link g.moment ≡ None
due_up g down = due-down (link_times g) g.link.session g.link.phase g.link.ping g.moment down

keeps_ticked : (before : ℕ) (g : State) (o : Outcome) → ticked before g ≡ Some o → Keeping g o
keeps_ticked before g o here =
    went (is_due before g) _ _ _ (λ _ e. the_some g _ o (keeps_looked g _ (due_up g)) e) (λ _ e. none_some o e) here

-- ---- all events

keeps_up : (g : State) → is_up g ≡ false → Keeping g (answered (answer.Session (suc g.link.session)) (record g { link = record { session = suc g.link.session; phase = NotSelected (record { 0 = g.moment }); ping = Off } }))
keeps_up g down = record {
  config = refl;
  session = omega arith;
  counts = let count : up_count g ≡ 0 = count_down g down in omega arith;
  none = λ _. refl;
  numbered = tt;
  quit = λ before after. absurd (true≢false (sym after ∙ before));
}

keeps_ended : (g : State) → Keeping g (answered answer.Ended g)
keeps_ended g = keeps_same g g _ (same_at g)

keeps_fetched : (g : State) (number : ℕ) (command : Option Command) (o : Outcome) → command_out g number command ≡ Some o → Keeping g o
keeps_fetched g number None o here = none_some o here
keeps_fetched g number (Some command) o here = the_some g _ o (keeps_same g (record g { floor = fetched number g.floor }) _ (record { config = refl; link = refl; quitting = refl })) here

keeps_acts : (before : ℕ) (g : State) (e : Event) (o : Outcome) → acts before g e ≡ Some o → Keeping g o
keeps_acts before g event.LinkUp o here = went (is_up g) _ _ _ (λ _ e. the_some g _ o (keeps_ended g) e) (λ down e. the_some g _ o (keeps_up g down) e) here
keeps_acts before g (event.LinkDown session cause) o here = went (is_session_up g session) _ _ _ (λ up e. the_some g _ o (keeps_end g _ _ _ (up_at g session up) (ends_as _)) e) (λ _ e. the_some g _ o (keeps_ended g) e) here
keeps_acts before g (event.Host session arrival) o here = went (is_session_up g session) _ _ _ (λ up e. the_some g _ o (keeps_linked g (header_of arrival) _ (up_at g session up) (keeps_hosted (linked g (header_of arrival)) arrival (link_act (header_of arrival) g.link) ((link_after-keeps (header_of arrival) g.moment g.link).up (up_at g session up)))) e) (λ _ e. the_some g _ o (keeps_ended g) e) here
keeps_acts before g (event.Take session) o here = went (is_session_up g session) _ _ _ (λ _ e. keeps_taken g g.waiting o e) (λ _ e. the_some g _ o (keeps_ended g) e) here
keeps_acts before g (event.Oper command) o here = the_some g _ o (keeps_operated g command) here
keeps_acts before g (event.Signal signal) o here = the_some g _ o (keeps_same g (signalled signal g) _ (same_signal g signal)) here
keeps_acts before g (event.Fetch m) o here = keeps_fetched g m.0 (unfetched (module_of m.0 g)) o here
keeps_acts before g event.Tick o here = keeps_ticked before g o here
keeps_acts before g event.Listen o here = none_some o here
keeps_acts before g (event.Watch port) o here = went (is_ready_to_unload port.0 g) _ _ _ (λ _ e. the_some g _ o (keeps_same g g _ (same_at g)) e) (λ _ e. none_some o e) here

keeps_settles : (g : State) (o : Outcome) → Keeping g o → Keeping g (settles o)
keeps_settles g o k =
    let same = goes_same o.after (settled o.after) (same_settled o.after) in
    let count : up_count (settled o.after) ≡ up_count o.after = ap (λ (b : Bool). if b then 1 else 0) same.up in
    record {
      config = same.config ∙ k.config;
      session = omega (arith, same.session, k.session);
      counts = omega (arith, same.session, k.counts, count);
      none = k.none;
      numbered = k.numbered;
      quit = λ before after. same.up ∙ k.quit before (sym same.quitting ∙ after);
    }

keeps_mapped : (g : State) (x : Option Outcome) (o : Outcome) → ((p : Outcome) → x ≡ Some p → Keeping g p) → option_map settles x ≡ Some o → Keeping g o
keeps_mapped g None o keeps here = none_some o here
keeps_mapped g (Some p) o keeps here = the_some g (settles p) o (keeps_settles g p (keeps p refl)) here

pub step_keeps-from : (before : ℕ) (g : State) (e : Event) (o : Outcome) → step_from before g e ≡ Some o → Keeping g o
step_keeps-from before g e o here =
    went g.quitting _ _ _ (λ _ at. the_some g _ o (keeps_ended g) at) (λ _ at. keeps_mapped g (acts before g e) o (keeps_acts before g e) at) here

-- a step keeps all this
pub step_keeps : (g : State) (at : ℕ) (e : Event) (o : Outcome) → step g at e ≡ Some o → Keeping g o
step_keeps g at e o here =
    let k = step_keeps-from g.moment (raised g at) e o here in
    record { config = k.config; session = k.session; counts = k.counts; none = k.none; numbered = k.numbered; quit = k.quit }
