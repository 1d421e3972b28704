-- Laws of runs.
use Rattle.std.proofs.Common.{◌≡◌, ℕ, List, [], ◌∷◌, ◌++◌, Some, refl, sym, ◌∙◌, ap, subst, arith, append_assoc}
use Rattle.std.specs.List.{flat_map}
use Rattle.std.proofs.lemmas.Grind.{flat_map-append}
use Rattle.std.proofs.lemmas.List.{append-nil}
use Rattle.tool_events.specs.declared.entry.Entry.{Entry}
use Rattle.tool_events.specs.declared.event.Event.{Event}
use Rattle.gem_model.specs.State.{State}
use Rattle.gem_model.specs.Step.{Outcome, step, after}
use Rattle.gem_model.specs.Run.{Run, Recorded, after_all, entry_step, entry_after, recorded, recorded_as}
use Rattle.gem_model.proofs.Steps.{step_keeps}

-- a run goes on by one entry
pub Run-snoc : (g : State) (entries : List Entry) (h : State) (entry : Entry) (o : Outcome) → Run g entries h → entry_step h entry ≡ Some o → Run g (entries ++ entry ∷ []) o.after
Run-snoc g [] h entry o run here = (o, subst (λ (k : State). entry_step k entry ≡ Some o) run here, refl)
Run-snoc g (e ∷ entries) h entry o run here = (run.0, run.1, Run-snoc run.0.after entries h entry o run.2 here)

-- the state that a run leads to is computed from its entries
pub after-step : (g : State) (at : ℕ) (event : Event) (o : Outcome) → step g at event ≡ Some o → after g at event ≡ o.after
after-step g at event o here = grind (arith, here)

pub after_all-run : (g : State) (entries : List Entry) (h : State) → Run g entries h → after_all g entries ≡ h
after_all-run g [] h run = sym run
after_all-run g (e ∷ entries) h run =
    ap (λ (k : State). after_all k entries) (after-step g e.at.0 e.event run.0 run.1) ∙ after_all-run run.0.after entries h run.2

-- the configuration stays
pub Run-config : (g : State) (entries : List Entry) (h : State) → Run g entries h → h.config ≡ g.config
Run-config g [] h run = ap (λ (k : State). k.config) run
Run-config g (e ∷ entries) h run = Run-config run.0.after entries h run.2 ∙ (step_keeps g e.at.0 e.event run.0 run.1).config

-- what is recorded of a history that goes on
recorded-append : (g : State) (front behind : List Entry) → recorded g (front ++ behind) ≡ recorded g front ++ recorded (after_all g front) behind
recorded-append g [] behind = refl
recorded-append g (e ∷ front) behind =
    ap (λ (rs : List Recorded). recorded_as e (entry_step g e) ++ rs) (recorded-append (entry_after g e) front behind)
    ∙ sym (append_assoc (recorded_as e (entry_step g e)) (recorded (entry_after g e) front) (recorded (after_all (entry_after g e) front) behind))

recorded-snoc : (g : State) (entries : List Entry) (h : State) (entry : Entry) (o : Outcome) → Run g entries h → entry_step h entry ≡ Some o → recorded g (entries ++ entry ∷ []) ≡ recorded g entries ++ record { entry = entry; outcome = o } ∷ []
recorded-snoc g entries h entry o run here =
    recorded-append g entries (entry ∷ [])
    ∙ ap (λ (k : State). recorded g entries ++ recorded k (entry ∷ [])) (after_all-run g entries h run)
    ∙ ap (λ (rs : List Recorded). recorded g entries ++ rs) (append-nil (recorded_as entry (entry_step h entry)) ∙ ap (recorded_as entry) here)

-- what is told of each entry, joined, goes on by what is told of the last
pub told-snoc : {A : Type 0} (f : Recorded → List A) (g : State) (entries : List Entry) (h : State) (entry : Entry) (o : Outcome) → Run g entries h → entry_step h entry ≡ Some o → flat_map f (recorded g (entries ++ entry ∷ [])) ≡ flat_map f (recorded g entries) ++ f (record { entry = entry; outcome = o })
told-snoc f g entries h entry o run here =
    ap (flat_map f) (recorded-snoc g entries h entry o run here)
    ∙ flat_map-append f (recorded g entries) (record { entry = entry; outcome = o } ∷ [])
    ∙ ap (λ bs. flat_map f (recorded g entries) ++ bs) (append-nil (f (record { entry = entry; outcome = o })))
