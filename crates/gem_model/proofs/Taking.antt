-- Laws of taking the frames that wait.
use Rattle.std.proofs.Common.{◌≡◌, ◌≢◌, ℕ, ◌<◌, Bool, true, false, if◌then◌else◌, List, [], ◌∷◌, length, map, Some, None, option_map, refl, sym, ◌∙◌, ap, arith}
use Rattle.std.proofs.lemmas.Bool.{and_parts, eqb-true, true≢false}
use Rattle.tool_events.specs.declared.event.Event.TheVariants.{Take}
use Rattle.tool_events.specs.declared.answer.Answer.TheVariants as answer
use Rattle.tool_events.specs.declared.entry.Entry.{Entry}
use Rattle.gem_model.specs.State.{State, is_up, is_session_up, raised}
use Rattle.gem_model.specs.Settle.{settled}
use Rattle.gem_model.specs.Step.{step, after, handed_out, answered, settles}
use Rattle.gem_model.specs.Run.{after_all}
use Rattle.gem_model.specs.Valid.{Valid}
use Rattle.gem_model.specs.Feed.{Given, nothing, behind, taken_all, takes, entry_of}
use Rattle.gem_model.proofs.Runs.{after-step}
use Rattle.gem_model.proofs.Settling.{settled_none}
use Rattle.gem_model.proofs.Validity.{earlier_quiet}

-- a session that is up has the number of the last
pub up_is : (g : State) (session : ℕ) → is_session_up g session ≡ true → (is_up g ≡ true) × (g.link.session ≡ session)
up_is g session up = let parts = and_parts (is_up g) _ up in (parts.0, eqb-true _ _ parts.1)

-- while a session is up the run goes on
goes_on : (g : State) → Valid g → is_up g ≡ true → g.quitting ≡ false
goes_on g valid up = by_quit g.quitting refl
  where
    by_quit : (b : Bool) → g.quitting ≡ b → g.quitting ≡ false
    by_quit true quit = absurd (true≢false (sym up ∙ valid.quit quit))
    by_quit false quit = quit

-- what one frame's taking leaves
pub record TakesOne (g : State) (session : ℕ) : Type 0 where
  pub all : taken_all g ≡ behind (entry_of 0 (Take session) ∷ []) (taken_all (after g 0 (Take session)))
  pub up : is_session_up (after g 0 (Take session)) session ≡ true
  pub fewer : length (after g 0 (Take session)).waiting < length g.waiting

step_up : (g : State) (session : ℕ) → Valid g → is_session_up g session ≡ true → step g 0 (Take session) ≡ option_map settles (handed_out (raised g 0) g.waiting)
step_up g session valid up =
    ap (λ (b : Bool). if b then Some (answered answer.Ended (raised g 0)) else option_map settles (if is_session_up g session then handed_out (raised g 0) g.waiting else Some (answered answer.Ended (raised g 0)))) (goes_on g valid (up_is g session up).0)
    ∙ ap (λ (b : Bool). option_map settles (if b then handed_out (raised g 0) g.waiting else Some (answered answer.Ended (raised g 0)))) up

-- what the entries of some takes give
abbrev taken_by : State → List Entry → Given
taken_by g entries = record { entries = entries; state = after_all g entries }

abbrev takes_of : ℕ → List (List ℕ) → List Entry
takes_of session waiting = map (λ _. entry_of 0 (Take session)) waiting

takes_up : (g : State) → is_up g ≡ true → takes g ≡ takes_of g.link.session g.waiting
takes_up g up = ap (λ (b : Bool). if b then takes_of g.link.session g.waiting else []) up

-- the state without its oldest frame, which is settled like the one with it
abbrev without_first : State → List (List ℕ) → State
without_first g frames = record (raised g 0) { waiting = frames }

without_first_settled : (g : State) (frames : List (List ℕ)) → Valid g → settled (without_first g frames) ≡ without_first g frames
without_first_settled g frames valid =
    settled_none (without_first g frames) (earlier_quiet g (raised g 0).moment frames (omega arith) valid.settled)

one_taken : (g : State) (waiting : List (List ℕ)) (session : ℕ) → Valid g → g.waiting ≡ waiting → is_session_up g session ≡ true → step g 0 (Take session) ≢ None → TakesOne g session
one_taken g [] session valid is up some = absurd (some (step_up g session valid up ∙ ap (λ fs. option_map settles (handed_out (raised g 0) fs)) is))
one_taken g (frame ∷ frames) session valid is up some =
    let h : State = without_first g frames in
    let here : step g 0 (Take session) ≡ Some (answered (answer.Frame frame) h) =
    step_up g session valid up ∙ ap (λ fs. option_map settles (handed_out (raised g 0) fs)) is
    ∙ ap (λ (k : State). Some (answered (answer.Frame frame) k)) (without_first_settled g frames valid) in
    let there : after g 0 (Take session) ≡ h = after-step g 0 (Take session) _ here in
    let number = up_is g session up in
    let rest : takes (after g 0 (Take session)) ≡ takes_of session frames = ap takes there ∙ takes_up h number.0 ∙ ap (λ (k : ℕ). takes_of k frames) number.1 in
    let first : takes g ≡ entry_of 0 (Take session) ∷ takes_of session frames =
    takes_up g number.0 ∙ ap (λ (k : ℕ). takes_of k g.waiting) number.1 ∙ ap (takes_of session) is in
    record {
      all = ap (taken_by g) (first ∙ sym (ap (λ (es : List Entry). entry_of 0 (Take session) ∷ es) rest));
      up = ap (λ (k : State). is_session_up k session) there ∙ up;
      fewer = rw (there, is) (omega arith);
    }

pub take_one : (g : State) (session : ℕ) → Valid g → is_session_up g session ≡ true → step g 0 (Take session) ≢ None → TakesOne g session
take_one g session valid up some = one_taken g g.waiting session valid refl up some

none_waits : (g : State) (waiting : List (List ℕ)) (session : ℕ) → Valid g → g.waiting ≡ waiting → is_session_up g session ≡ true → step g 0 (Take session) ≡ None → taken_all g ≡ nothing g
none_waits g [] session valid is up none =
    ap (taken_by g) (takes_up g (up_is g session up).0 ∙ ap (takes_of g.link.session) is)
none_waits g (frame ∷ frames) session valid is up none = absurd (let here : step g 0 (Take session) ≡ Some _ = step_up g session valid up ∙ ap (λ fs. option_map settles (handed_out (raised g 0) fs)) is in cc)

pub take_none : (g : State) (session : ℕ) → Valid g → is_session_up g session ≡ true → step g 0 (Take session) ≡ None → taken_all g ≡ nothing g
take_none g session valid up none = none_waits g g.waiting session valid refl up none

pub take_down : (g : State) → is_up g ≡ false → taken_all g ≡ nothing g
take_down g down = ap (λ (b : Bool). taken_by g (if b then takes_of g.link.session g.waiting else [])) down
