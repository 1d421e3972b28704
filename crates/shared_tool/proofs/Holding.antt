-- What one event does to what is held.
use Rattle.std.proofs.Common.{◌≡◌, ◌⊎◌, inl, inr, ℕ, ◌+◌, true, false, Some, Ok, Err, Result, IfOk, OnOk, OnErr, List, [], ◌∷◌, ◌++◌, length, length-append, append_assoc, refl, sym, ap, ◌∙◌, subst, arith}
use mathlib.Core.List.{IsPrefix}
use Rattle.gem_ids.specs.declared.moment.Moment.{Moment}
use Rattle.tool_events.specs.declared.config.Config.{Config}
use Rattle.tool_events.specs.declared.entry.Entry.{Entry}
use Rattle.tool_events.specs.declared.event.Event.{Event}
use Rattle.tool_events.specs.declared.answer.Answer.{Answer}
use Rattle.tool_events.specs.declared.answer.PostFault.{PostFault}
use Rattle.tool_events.specs.Configs.{IsConfig}
use Rattle.history_parts.specs.CoreView.{CoreView}
use Rattle.gem_model.specs.State.{State, opening}
use Rattle.gem_model.specs.Step.{Outcome, step}
use Rattle.gem_model.specs.Run.{Run, after_all}
use Rattle.gem_model.specs.Sizes.{is_full}
use Rattle.history_laws.specs.Recorded.{Recorded}
use Rattle.history_laws.proofs.Recording.{recorded-of}
use Rattle.shared_tool.specs.declared.posted.Posted.{Posted}
use Rattle.shared_tool.specs.Posts.{is_run, posted, posted_in, entries_of}
use Rattle.shared_tool.specs.Laws.{from_legal, posted_more, posted_entries, posted_length}

-- the history is a run to the state
pub run_of : (c : Config) (history : List Entry) (g : State) → is_run (opening c) history ≡ true → after_all (opening c) history ≡ g → Run (opening c) history g
run_of c history g legal there = subst (Run (opening c) history) there (from_legal (opening c) history legal)

-- and all that is recorded holds of it
pub recorded_as : (c : Config) (history : List Entry) (g : State) → IsConfig c → is_run (opening c) history ≡ true → after_all (opening c) history ≡ g → Recorded c history g
recorded_as c history g bounds legal there = recorded-of c history g bounds (run_of c history g legal there)

-- the history with its answers goes on by what is answered
pub records : (old new : CoreView) (seat : ℕ) (at : Moment) (event : Event) (r : Result Answer PostFault)
    → is_run (opening old.config) old.history ≡ true → after_all (opening old.config) old.history ≡ old.state → new.config ≡ old.config
    → IfOk r (λ a. (o : Outcome) × (step old.state at.0 event ≡ Some o) × (o.answer ≡ a) × (new.state ≡ o.after))
    → OnOk r (new.history ≡ old.history ++ record { seat = seat; at = at; event = event } ∷ [])
    → IfOk r (λ a. posted_in new.config new.history ≡ posted_in old.config old.history ++ posted seat at.0 event a ∷ [])
records old new seat at event (Ok a) legal there same s e =
    ap (λ (c : Config). posted_in c new.history) same
    ∙ ap (posted_in old.config) e
    ∙ posted_more (opening old.config) old.history old.state (record { seat = seat; at = at; event = event }) s.0 (run_of old.config old.history old.state legal there) s.1
    ∙ ap (λ (b : Answer). posted_in old.config old.history ++ posted seat at.0 event b ∷ []) s.2
records old new seat at event (Err x) legal there same s e = tt

-- ---- what a turn leaves

-- a turn added nothing, or one entry of this number, to the history and to the chair's own entries alike
abbrev pub Took : {E : Type 0} → (E → ℕ) → ℕ → List E → List E → List E → List E → Type 0
Took {E} number k old new mine mine' =
    ((new ≡ old) × (mine' ≡ mine)) ⊎ ((e : E) × (number e ≡ k) × (new ≡ old ++ e ∷ []) × (mine' ≡ mine ++ e ∷ []))

-- a front that begins a history begins it also where one entry more is behind it
pub longer : {E : Type 0} (number : E → ℕ) (k : ℕ) (front old new behind mine mine' : List E) → IsPrefix front old → behind ≡ new → Took number k old new mine mine' → IsPrefix front behind
longer number k front old new behind mine mine' p same (inl (e, stays)) = (p.0, p.1 ∙ sym e ∙ sym same)
longer number k front old new behind mine mine' p same (inr (e, is, more, mine_more)) =
    (p.0 ++ e ∷ [], sym (append_assoc front p.0 (e ∷ [])) ∙ ap (λ l. l ++ e ∷ []) p.1 ∙ sym more ∙ sym same)

-- the front without its answers is the history
pub without_answers : (c : Config) (history : List Entry) (g : State) (front : List Posted) → is_run (opening c) history ≡ true → after_all (opening c) history ≡ g
    → front ≡ posted_in c history → entries_of front ≡ history
without_answers c history g front legal there here = ap entries_of here ∙ posted_entries (opening c) history g (run_of c history g legal there)

-- all that is recorded holds of a front that is the history with its answers
pub known_at : (c : Config) (history : List Entry) (g : State) (from : Config) (front : List Posted) → IsConfig c → is_run (opening c) history ≡ true → after_all (opening c) history ≡ g
    → c ≡ from → front ≡ posted_in c history → Recorded from (entries_of front) g
known_at c history g from front bounds legal there same here =
    let back = without_answers c history g front legal there here in
    subst (λ (k : Config). Recorded k (entries_of front) g) same (subst (λ (l : List Entry). Recorded c l g) (sym back) (recorded_as c history g bounds legal there))

-- and it is its own entries with their answers
pub known_as : (c : Config) (history : List Entry) (g : State) (from : Config) (front : List Posted) → is_run (opening c) history ≡ true → after_all (opening c) history ≡ g
    → c ≡ from → front ≡ posted_in c history → front ≡ posted_in from (entries_of front)
known_as c history g from front legal there same here =
    let back = without_answers c history g front legal there here in
    here ∙ ap (posted_in c) (sym back) ∙ ap (λ (k : Config). posted_in k (entries_of front)) same

-- what is answered is the last entry of the front, and there was room for it
pub last_in : (c : Config) (history : List Entry) (g : State) (from : Config) (new front : List Posted) (r : Result Answer PostFault) (seat at : ℕ) (event : Event)
    → is_run (opening c) history ≡ true → after_all (opening c) history ≡ g → c ≡ from → front ≡ new
    → IfOk r (λ a. new ≡ posted_in c history ++ posted seat at event a ∷ []) → IfOk r (λ a. is_full c history event ≡ false)
    → IfOk r (λ a. (before : List Posted) × (front ≡ before ++ posted seat at event a ∷ []) × (is_full from (entries_of before) event ≡ false))
last_in c history g from new front (Ok a) seat at event legal there same here grew fits =
    let back = without_answers c history g (posted_in c history) legal there refl in (
      posted_in c history,
      here ∙ grew,
      ap (λ (l : List Entry). is_full from l event) back ∙ ap (λ (k : Config). is_full k history event) (sym same) ∙ fits,
    )
last_in c history g from new front (Err x) seat at event legal there same here grew fits = tt

-- a front that stays is full where the history is
pub full_at : (c : Config) (history : List Entry) (g : State) (from : Config) (front : List Posted) (event : Event) → is_run (opening c) history ≡ true → after_all (opening c) history ≡ g
    → c ≡ from → front ≡ posted_in c history → is_full c history event ≡ true → is_full from (entries_of front) event ≡ true
full_at c history g from front event legal there same here full =
    let back = without_answers c history g front legal there here in
    ap (λ (l : List Entry). is_full from l event) back ∙ ap (λ (k : Config). is_full k history event) (sym same) ∙ full

-- it has as many entries as the history
pub as_long : (c : Config) (history : List Entry) (g : State) (front : List Posted) → is_run (opening c) history ≡ true → after_all (opening c) history ≡ g
    → front ≡ posted_in c history → length front ≡ length history
as_long c history g front legal there here = ap length here ∙ posted_length (opening c) history g (run_of c history g legal there)

-- it is the one entry that the history has more, where there is one
pub appends : (old new : List Posted) (r : Result Answer PostFault) (seat at : ℕ) (event : Event) → IfOk r (λ a. new ≡ old ++ posted seat at event a ∷ []) → OnErr r (new ≡ old)
    → (new ≡ old) ⊎ ((entry : Posted) × (entry.seat ≡ seat) × (new ≡ old ++ entry ∷ []))
appends old new (Ok a) seat at event grew same = inr (posted seat at event a, refl, grew)
appends old new (Err x) seat at event grew same = inl same

-- ---- the chair's own entries

-- the entry that is behind a list is the one that was put there
last_of : {E : Type 0} (xs : List E) (x y : E) → xs ++ x ∷ [] ≡ xs ++ y ∷ [] → x ≡ y
last_of [] x y e = cc
last_of (z ∷ xs) x y e = last_of xs x y (cc)

never_longer : {E : Type 0} (xs : List E) (x : E) → xs ≡ xs ++ x ∷ [] → ⊥
never_longer xs x e = let l : length xs ≡ length xs + 1 = ap length e ∙ length-append xs (x ∷ []) in omega (arith, l)

-- they go on by what it posted
own_more : {E : Type 0} (number : E → ℕ) (k : ℕ) (old new mine mine' : List E) (p : E) → new ≡ old ++ p ∷ [] → Took number k old new mine mine' → mine' ≡ mine ++ p ∷ []
own_more number k old new mine mine' p grew (inl (same, stays)) = absurd (never_longer old p (sym same ∙ grew))
own_more number k old new mine mine' p grew (inr (e, is, more, mine_more)) = mine_more ∙ ap (λ x. mine ++ x ∷ []) (last_of old e p (sym more ∙ grew))

own_same : {E : Type 0} (number : E → ℕ) (k : ℕ) (old new mine mine' : List E) → new ≡ old → Took number k old new mine mine' → mine' ≡ mine
own_same number k old new mine mine' same (inl (e, stays)) = stays
own_same number k old new mine mine' same (inr (e, is, more, mine_more)) = absurd (never_longer old e (sym same ∙ more))

pub mine_more : (number : Posted → ℕ) (k : ℕ) (old new mine mine' : List Posted) (r : Result Answer PostFault) (seat at : ℕ) (event : Event)
    → IfOk r (λ a. new ≡ old ++ posted seat at event a ∷ []) → Took number k old new mine mine' → IfOk r (λ a. mine' ≡ mine ++ posted seat at event a ∷ [])
mine_more number k old new mine mine' (Ok a) seat at event grew took = own_more number k old new mine mine' (posted seat at event a) grew took
mine_more number k old new mine mine' (Err x) seat at event grew took = tt

-- and stay where it was refused
pub refused_same : (c c' : Config) (h h' : List Entry) (r : Result Answer PostFault) → c' ≡ c → OnErr r (h' ≡ h) → OnErr r (posted_in c' h' ≡ posted_in c h)
refused_same c c' h h' (Ok a) config same = tt
refused_same c c' h h' (Err x) config same = ap (λ (k : Config). posted_in k h') config ∙ ap (posted_in c) same

pub mine_same : (number : Posted → ℕ) (k : ℕ) (old new mine mine' : List Posted) (r : Result Answer PostFault) → OnErr r (new ≡ old) → Took number k old new mine mine' → OnErr r (mine' ≡ mine)
mine_same number k old new mine mine' (Ok a) same took = tt
mine_same number k old new mine mine' (Err x) same took = own_same number k old new mine mine' same took
