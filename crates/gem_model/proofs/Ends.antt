-- Laws of the ends of sessions.
use Rattle.std.proofs.Common.{◌≡◌, ◌≢◌, ℕ, zero, suc, ◌+◌, ◌-◌, ◌<◌, Bool, true, false, ◌==◌, if◌then◌else◌, List, [], ◌∷◌, ◌++◌, length, Option, Some, None, IfSome, refl, ◌∙◌, ap, subst, arith, length-append, slice_get, option_map}
use Rattle.std.specs.List.{find, flat_map}
use Rattle.std.proofs.lemmas.Bool.Decides.{nat_tests}
use Rattle.std.specs.Option.{option_to_list}
use Rattle.tool_events.specs.declared.entry.Entry.{Entry}
use Rattle.tool_events.specs.declared.event.SessionEnd.{SessionEnd}
use Rattle.tool_events.specs.declared.config.Config.{Config}
use Rattle.gem_model.specs.State.{State, opening, is_up}
use Rattle.gem_model.specs.Step.{Outcome}
use Rattle.gem_model.specs.Run.{Run, entry_step, entry_after, recorded, recorded_as}
use Rattle.gem_model.specs.Sessions.{ended_in, ends_of, session_end}
use Rattle.gem_model.proofs.Runs.{after-step, told-snoc, Run-snoc}
use Rattle.std.proofs.lemmas.List.{append-nil}
use Rattle.gem_model.proofs.Steps.{Keeping, up_count, step_keeps}

-- the ends are of the sessions from this number on, one after another
abbrev pub NumberedFrom : ℕ → List SessionEnd → Type 0
NumberedFrom n [] = Unit {0}
NumberedFrom n (e ∷ ends) = (e.session ≡ n) × NumberedFrom (suc n) ends

-- the session that ends next
abbrev next_end : State → ℕ
next_end g = suc g.link.session - up_count g

ends_first : (g : State) (entry : Entry) (entries : List Entry) (o : Outcome) → entry_step g entry ≡ Some o → ends_of g (entry ∷ entries) ≡ option_to_list o.ended ++ ends_of o.after entries
ends_first g entry entries o here =
    ap (λ (s : Option Outcome). flat_map ended_in (recorded_as entry s ++ recorded (entry_after g entry) entries)) here
    ∙ ap (λ (k : State). flat_map ended_in (recorded_as entry (Some o) ++ recorded k entries)) (after-step g entry.at.0 entry.event o here)

numbered_first : (g : State) (o : Outcome) (ended : Option SessionEnd) (ends : List SessionEnd) → o.ended ≡ ended → Keeping g o → NumberedFrom (next_end o.after) ends → NumberedFrom (next_end g) (option_to_list ended ++ ends)
numbered_first g o None ends is keeps rest =
    let count = ap (λ (e : Option SessionEnd). length (option_to_list e)) is in
    let same : next_end o.after ≡ next_end g = omega (arith, keeps.counts) in
    subst (λ n. NumberedFrom n ends) same rest
numbered_first g o (Some e) ends is keeps rest =
    let count = ap (λ (e : Option SessionEnd). length (option_to_list e)) is in
    let up : up_count g ≡ 1 = up_where_ended (is_up g) refl in
    let number : e.session ≡ next_end g = numbered_is ∙ (omega arith) in
    let same : next_end o.after ≡ suc (next_end g) = omega (arith, keeps.counts) in
    (number, subst (λ n. NumberedFrom n ends) same rest)
  where
    up_where_ended : (b : Bool) → is_up g ≡ b → up_count g ≡ 1
    up_where_ended true up = ap (λ (b : Bool). if b then 1 else 0) up
    up_where_ended false down = absurd (let none = keeps.none down in cc)

    numbered_is : e.session ≡ g.link.session
    numbered_is = subst (λ (x : Option SessionEnd). IfSome x (λ (e : SessionEnd). e.session ≡ g.link.session)) is keeps.numbered

-- over a run the sessions end in order, each once
pub ends_numbered : (g : State) (entries : List Entry) (h : State) → Run g entries h → NumberedFrom (next_end g) (ends_of g entries)
ends_numbered g [] h run = tt
ends_numbered g (e ∷ entries) h run =
    rw (ends_first g e entries run.0 run.1)
    (numbered_first g run.0 run.0.ended (ends_of run.0.after entries) refl (step_keeps g e.at.0 e.event run.0 run.1) (ends_numbered run.0.after entries h run.2))

-- the test of a session's number
abbrev same_session : ℕ → SessionEnd → Bool
same_session session e = e.session == session

find_here : (session : ℕ) (e : SessionEnd) (ends : List SessionEnd) → e.session ≡ session → find (same_session session) (e ∷ ends) ≡ Some e
find_here session e ends is = ap (λ (b : Bool). if b then Some e else find (same_session session) ends) (eqb-refl-at e.session session is)
  where
    eqb-refl-at : (a b : ℕ) → a ≡ b → (a == b) ≡ true
    eqb-refl-at a b same = grind (arith, nat_tests, same)

find_later : (session : ℕ) (e : SessionEnd) (ends : List SessionEnd) → e.session ≢ session → find (same_session session) (e ∷ ends) ≡ find (same_session session) ends
find_later session e ends other = ap (λ (b : Bool). if b then Some e else find (same_session session) ends) (eqb-not-at e.session session other)
  where
    eqb-not-at : (a b : ℕ) → a ≢ b → (a == b) ≡ false
    eqb-not-at a b other = grind (arith, nat_tests, other)

-- the end of a session stands at the place of its number
find_numbered : (n i session : ℕ) (ends : List SessionEnd) → session ≡ n + i → NumberedFrom n ends → find (same_session session) ends ≡ slice_get ends i
find_numbered n i session [] is numbered = refl
find_numbered n zero session (e ∷ ends) is numbered = find_here session e ends (omega (arith, numbered.0))
find_numbered n (suc i) session (e ∷ ends) is numbered =
    find_later session e ends (λ same. absurd (omega (arith, same, numbered.0))) ∙ find_numbered (suc n) i session ends (omega arith) numbered.1

-- before the first number no session ended
find_before : (n session : ℕ) (ends : List SessionEnd) → session < n → NumberedFrom n ends → find (same_session session) ends ≡ None
find_before n session [] less numbered = refl
find_before n session (e ∷ ends) less numbered =
    find_later session e ends (λ same. absurd (omega (arith, same, numbered.0))) ∙ find_before (suc n) session ends (omega arith) numbered.1

first_is : (c : Config) → next_end (opening c) ≡ 1
first_is c = refl

numbered_from_1 : (c : Config) (entries : List Entry) (h : State) → Run (opening c) entries h → NumberedFrom 1 (ends_of (opening c) entries)
numbered_from_1 c entries h run = subst (λ n. NumberedFrom n (ends_of (opening c) entries)) (first_is c) (ends_numbered (opening c) entries h run)

-- why a session ended, by its place among the ends
pub session_end-at : (c : Config) (entries : List Entry) (h : State) (k session : ℕ) → Run (opening c) entries h → session ≡ suc k → session_end (opening c) entries session ≡ option_map (λ (e : SessionEnd). e.cause) (slice_get (ends_of (opening c) entries) k)
session_end-at c entries h k session run is =
    ap (option_map (λ (e : SessionEnd). e.cause)) (find_numbered 1 k session (ends_of (opening c) entries) (omega arith) (numbered_from_1 c entries h run))

-- no session has the number 0
pub session_end-none : (c : Config) (entries : List Entry) (h : State) → Run (opening c) entries h → session_end (opening c) entries 0 ≡ None
session_end-none c entries h run =
    ap (option_map (λ (e : SessionEnd). e.cause)) (find_before 1 0 (ends_of (opening c) entries) (omega arith) (numbered_from_1 c entries h run))

-- the sessions that are over and the one that is up are those that came
ends_count : (g : State) (entries : List Entry) (h : State) → Run g entries h → length (ends_of g entries) + (up_count h + g.link.session) ≡ h.link.session + up_count g
ends_count g [] h run = rw run (omega arith)
ends_count g (e ∷ entries) h run =
    let o = run.0 in
    let one = (step_keeps g e.at.0 e.event o run.1).counts in
    let rest = ends_count o.after entries h run.2 in
    let there = ap length (ends_first g e entries o run.1) in
    omega (arith, length-append (option_to_list o.ended) (ends_of o.after entries))

-- a session that is up has a number from 1
pub up-numbered : (c : Config) (entries : List Entry) (h : State) → Run (opening c) entries h → is_up h ≡ true → 0 < h.link.session
up-numbered c entries h run up =
    let count = ends_count (opening c) entries h run in
    let one : up_count h ≡ 1 = grind (arith, up) in
    omega arith

-- The session that was up, in the history with the entry that ended it.
pub session_end-now : (c : Config) (entries : List Entry) (h : State) (entry : Entry) (o : Outcome) → Run (opening c) entries h → entry_step h entry ≡ Some o → is_up h ≡ true → session_end (opening c) (entries ++ entry ∷ []) h.link.session ≡ option_map (λ (e : SessionEnd). e.cause) o.ended
session_end-now c entries h entry o run here up =
    let count = ends_count (opening c) entries h run in
    let one : up_count h ≡ 1 = grind (arith, up) in
    let numbered = numbered_from_1 c (entries ++ entry ∷ []) o.after (Run-snoc (opening c) entries h entry o run here) in
    let ends = told-snoc ended_in (opening c) entries h entry o run here in
    ap (option_map (λ (e : SessionEnd). e.cause))
    (find_numbered 1 (length (ends_of (opening c) entries)) h.link.session (ends_of (opening c) (entries ++ entry ∷ [])) (omega arith) numbered
    ∙ ap (λ (es : List SessionEnd). slice_get es (length (ends_of (opening c) entries))) ends
    ∙ slice_get-last (ends_of (opening c) entries) o.ended)
  where
    slice_get-seam : (front behind : List SessionEnd) (e : SessionEnd) → slice_get (front ++ e ∷ behind) (length front) ≡ Some e
    slice_get-seam [] behind e = refl
    slice_get-seam (x ∷ front) behind e = slice_get-seam front behind e

    slice_get-end : (front : List SessionEnd) → slice_get front (length front) ≡ None
    slice_get-end [] = refl
    slice_get-end (x ∷ front) = slice_get-end front

    slice_get-last : (front : List SessionEnd) (e : Option SessionEnd) → slice_get (front ++ option_to_list e) (length front) ≡ e
    slice_get-last front None = ap (λ (es : List SessionEnd). slice_get es (length front)) (append-nil front) ∙ slice_get-end front
    slice_get-last front (Some e) = slice_get-seam front [] e
