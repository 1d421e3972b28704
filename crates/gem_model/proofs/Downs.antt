-- Without a session, a look at the clock, an operator's command and a signal bring none.
use Rattle.std.proofs.Common.{◌≡◌, ℕ, Bool, true, false, List, [], ◌∷◌, Option, Some, None, is_some, option_map, unwrap_or, refl, ◌∙◌, ap, subst}
use Rattle.hsms_link.specs.declared.deadlines.LinkDue.{LinkDue}
use Rattle.tool_events.specs.declared.event.Event.{Event}
use Rattle.tool_events.specs.declared.event.Event.TheVariants as event
use Rattle.tool_events.specs.declared.event.Signal.{Signal}
use Rattle.tool_events.specs.declared.event.OperCmd.{OperCmd}
use Rattle.tool_events.specs.declared.event.OperCmd.TheVariants as oper
use Rattle.tool_events.specs.declared.answer.Answer.TheVariants as answer
use Rattle.gem_model.specs.State.{State, is_up, raised}
use Rattle.gem_model.specs.Fire.{fires}
use Rattle.gem_model.specs.Direct.{operator_rows}
use Rattle.gem_model.specs.Due.{all_done, dues_with, expired, timeouts, is_due}
use Rattle.gem_model.specs.Settle.{settled}
use Rattle.tool_tasks.specs.declared.task.Command.{Command}
use Rattle.robot_moves.specs.Modules.{unfetched}
use Rattle.floor_model.specs.Floor.{module_numbers}
use Rattle.gem_model.specs.Step.{Outcome, acts, after, answered, command_out, operated, quits, settles, step, step_from, switched, ticked}
use Rattle.gem_model.specs.Feed.{Given, nothing, entered, taken_all, fetched_one, fetched_by, input}
use Rattle.gem_model.specs.Signals.{signalled, module_of}
use Rattle.gem_model.proofs.Same.{same_listed, same_settled, same_signal, same_switched, same_then}
use Rattle.gem_model.proofs.Steps.{due_up, ended_down, goes_all, goes_same, timeouts_end_none}
use Rattle.gem_model.proofs.Taking.{take_down}
use Rattle.gem_model.proofs.Tests.{went, either_way, none_some}

-- no session is up after it
abbrev IsDown : Outcome → Type 0
IsDown o = is_up o.after ≡ false

the_down : (x o : Outcome) → IsDown x → Some x ≡ Some o → IsDown o
the_down x o down is = let same : x ≡ o = cc in subst IsDown same down

-- ---- operators

command_fires_down : (g : State) (command : OperCmd) → is_up g ≡ false → is_up (fires (operator_rows command) (switched command g)) ≡ false
command_fires_down g command down =
    (goes_same g _ (same_then g _ _ (same_switched g command) (same_listed (operator_rows command (switched command g)) (switched command g)))).up ∙ down

quit_down : (g : State) (up : Bool) → is_up g ≡ false → IsDown (quits up g)
quit_down g true down = ended_down g
quit_down g false down = down

operated_down : (g : State) (command : OperCmd) → is_up g ≡ false → IsDown (operated command g)
operated_down g oper.Quit down = quit_down g (is_up g) down
operated_down g oper.Enable down = command_fires_down g oper.Enable down
operated_down g oper.Disable down = command_fires_down g oper.Disable down
operated_down g oper.Online down = command_fires_down g oper.Online down
operated_down g oper.Offline down = command_fires_down g oper.Offline down
operated_down g oper.Local down = command_fires_down g oper.Local down
operated_down g oper.Remote down = command_fires_down g oper.Remote down
operated_down g (oper.Service p on) down = command_fires_down g (oper.Service p on) down
operated_down g (oper.Access p on) down = command_fires_down g (oper.Access p on) down
operated_down g (oper.Job j w) down = command_fires_down g (oper.Job j w) down
operated_down g (oper.CtlJob j n) down = command_fires_down g (oper.CtlJob j n) down
operated_down g (oper.Up m) down = command_fires_down g (oper.Up m) down
operated_down g (oper.Clear n) down = command_fires_down g (oper.Clear n) down
operated_down g (oper.Lost s) down = command_fires_down g (oper.Lost s) down

-- ---- the clock

looked_down : (g : State) (d : Option LinkDue) → d ≡ None → is_up g ≡ false → is_up (all_done (dues_with g d) g) ≡ false
looked_down g None none down = (goes_all (timeouts g) g (timeouts_end_none (expired g))).up ∙ down
looked_down g (Some d) none down = absurd (cc)

ticked_down : (before : ℕ) (g : State) (o : Outcome) → is_up g ≡ false → ticked before g ≡ Some o → IsDown o
ticked_down before g o down here =
    went (is_due before g) _ _ _ (λ _ e. the_down _ o (looked_down g _ (due_up g down) down) e) (λ _ e. none_some o e) here

-- ---- a step, and what follows it

-- this event brings no session
abbrev BringsNone : Event → Type 0
BringsNone e = (before : ℕ) (g : State) (o : Outcome) → is_up g ≡ false → acts before g e ≡ Some o → IsDown o

settles_down : (x : Option Outcome) (o : Outcome) → ((p : Outcome) → x ≡ Some p → IsDown p) → option_map settles x ≡ Some o → IsDown o
settles_down None o down here = none_some o here
settles_down (Some p) o down here = the_down (settles p) o ((goes_same p.after (settled p.after) (same_settled p.after)).up ∙ down p refl) here

step_down : (before : ℕ) (g : State) (e : Event) (o : Outcome) → BringsNone e → is_up g ≡ false → step_from before g e ≡ Some o → IsDown o
step_down before g e o brings down here =
    went g.quitting _ _ _ (λ _ at. the_down (answered answer.Ended g) o down at) (λ _ at. settles_down (acts before g e) o (λ p is. brings before g p down is) at) here

after_down : (g : State) (x : Option Outcome) → ((o : Outcome) → x ≡ Some o → IsDown o) → is_up g ≡ false → is_up (unwrap_or (option_map (λ (o : Outcome). o.after) x) g) ≡ false
after_down g None each down = down
after_down g (Some o) each down = each o refl

command_down : (g : State) (number : ℕ) (command : Option Command) (o : Outcome) → is_up g ≡ false → command_out g number command ≡ Some o → IsDown o
command_down g number None o down here = none_some o here
command_down g number (Some command) o down here = the_down _ o down here

entered_down : (g : State) (at : ℕ) (e : Event) → BringsNone e → is_up g ≡ false → is_up (after g at e) ≡ false
entered_down g at e brings down = after_down g (step g at e) (λ o is. step_down g.moment (raised g at) e o brings down is) down

-- modules that fetch
fetched_down : (ms : List ℕ) (g : State) → is_up g ≡ false → is_up (fetched_by ms g).state ≡ false
fetched_down [] g down = down
fetched_down (m ∷ ms) g down =
    let fetch = event.Fetch (record { 0 = m }) in
    let there = entered_down g 0 fetch (λ before h o d is. command_down h m (unfetched (module_of m h)) o d is) down in
    fetched_down ms (fetched_one m g).state
    (either_way (λ (given : Given). is_up given.state ≡ false) (is_some (step g 0 fetch)) (entered g 0 fetch) (nothing g) there down)

input_down : (g : State) (at : ℕ) (e : Event) → BringsNone e → is_up g ≡ false → is_up (input g at e).state ≡ false
input_down g at e brings down =
    let h = after g at e in
    let here : is_up h ≡ false = entered_down g at e brings down in
    let taken : is_up (taken_all h).state ≡ false = ap (λ (given : Given). is_up given.state) (take_down h here) ∙ here in
    let k : State = (taken_all h).state in
    either_way (λ (given : Given). is_up given.state ≡ false) k.quitting (nothing k) (fetched_by (module_numbers 1 k.floor.modules) k) taken
    (fetched_down (module_numbers 1 k.floor.modules) k taken)

pub tick_down : (g : State) (at : ℕ) → is_up g ≡ false → is_up (input g at event.Tick).state ≡ false
tick_down g at down = input_down g at event.Tick (λ before g o down is. ticked_down before g o down is) down

pub oper_down : (g : State) (at : ℕ) (command : OperCmd) → is_up g ≡ false → is_up (input g at (event.Oper command)).state ≡ false
oper_down g at command down = input_down g at (event.Oper command) (λ before g o down is. the_down (operated command g) o (operated_down g command down) is) down

pub signal_down : (g : State) (at : ℕ) (signal : Signal) → is_up g ≡ false → is_up (input g at (event.Signal signal)).state ≡ false
signal_down g at signal down = input_down g at (event.Signal signal) (λ before g o down is. the_down (answered answer.Done (signalled signal g)) o ((goes_same g (signalled signal g) (same_signal g signal)).up ∙ down) is) down
