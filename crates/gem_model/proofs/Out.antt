-- Laws of what goes out in sessions.
use Rattle.std.proofs.Common.{◌≡◌, ℕ, Bool, true, false, if◌then◌else◌, List, [], ◌∷◌, ◌++◌, refl, Option, Some, option_map, ap, sym}
use Rattle.tool_events.specs.declared.entry.Entry.{Entry}
use Rattle.tool_events.specs.declared.event.Event.TheVariants.{Take}
use Rattle.tool_events.specs.declared.answer.Answer.{Answer}
use Rattle.tool_events.specs.declared.answer.Answer.TheVariants.{Frame, Ended}
use Rattle.gem_model.specs.State.{State, is_session_up, raised}
use Rattle.gem_model.specs.Step.{Outcome, step, handed_out, answered, settles}
use Rattle.gem_model.specs.Run.{Run, entry_step}
use Rattle.gem_model.specs.Sessions.{frame_taken, frame_in, session_out}
use Rattle.gem_model.proofs.Runs.{told-snoc}
use Rattle.gem_model.proofs.Tests.{went}

-- a run that goes on by an entry gives out what was taken in that entry
pub session_out-snoc : (g : State) (entries : List Entry) (h : State) (entry : Entry) (o : Outcome) (k : ℕ) → Run g entries h → entry_step h entry ≡ Some o → session_out g (entries ++ entry ∷ []) k ≡ session_out g entries k ++ frame_taken entry.event o.answer k
session_out-snoc g entries h entry o k run here = told-snoc (frame_in k) g entries h entry o run here

the_answer : (x o : Outcome) → Some x ≡ Some o → o.answer ≡ x.answer
the_answer x o here = let same : x ≡ o = cc in ap (λ (p : Outcome). p.answer) (sym same)

not_ended : (a : Answer) (frame : List ℕ) → a ≡ Frame frame → a ≡ Ended → ⊥
not_ended a frame is ended = absurd (cc)

up_where : (b : Bool) (x : Option Outcome) (y o : Outcome) → (o.answer ≡ y.answer → ⊥) → option_map settles (if b then x else Some y) ≡ Some o → b ≡ true
up_where true x y o other here = refl
up_where false x y o other here = absurd (other (the_answer (settles y) o here))

-- a frame is handed only to the writer of the session that is up
pub frame-up : (g : State) (at session : ℕ) (o : Outcome) (frame : List ℕ) → step g at (Take session) ≡ Some o → o.answer ≡ Frame frame → is_session_up g session ≡ true
frame-up g at session o frame here is =
    went g.quitting _ _ _
    (λ _ e. absurd (not_ended o.answer frame is (the_answer (answered Ended (raised g at)) o e)))
    (λ _ e. up_where (is_session_up g session) (handed_out (raised g at) g.waiting) (answered Ended (raised g at)) o (not_ended o.answer frame is) e)
    here
