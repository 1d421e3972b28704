-- What posts tell of sessions, by the kinds of their events: the messages that came, the frames that were taken, and the numbers
-- that were given.
use Rattle.std.proofs.Common.{◌≡◌, ◌⊎◌, inl, inr, ℕ, List, [], ◌∷◌, ◌++◌, map, refl, sym, ◌∙◌, ap, subst, append-nil}
use Rattle.std.specs.List.{flat_map, AllByRecursion}
use Rattle.std.proofs.lemmas.Grind.{flat_map-append}
use Rattle.hsms_frame.specs.declared.frame.Arrival.{Arrival}
use Rattle.tool_events.specs.declared.entry.Post.{Post}
use Rattle.tool_events.specs.declared.event.Event.{Event}
use Rattle.tool_events.specs.declared.event.Event.TheVariants as event
use Rattle.tool_events.specs.declared.event.OperCmd.TheVariants as oper
use Rattle.tool_events.specs.declared.answer.Answer.{Answer}
use Rattle.gem_model.specs.Sessions.{frame_taken}
use Rattle.actors.specs.Ends.{ArePosted, QuitPosted}
use Rattle.session_laws.specs.Kept.{arrival_of}
use Rattle.session_laws.proofs.Apart.{all_none}
use Rattle.session_laws.proofs.Numbers.{number_given}

-- the message of this session that a post brought
abbrev pub came_by : ℕ → Post → List Arrival
came_by k p = arrival_of k p.event

-- the frame of this session that a post took
abbrev pub taken_by : ℕ → Post → List ℕ
taken_by k p = frame_taken p.event p.answer k

-- the number that a post gave to a session
abbrev pub given_by : Post → List ℕ
given_by p = number_given p.event p.answer

-- ---- kinds of events

-- it is no message of the host
abbrev pub BringsNone : Event → Type 0
BringsNone (event.Host session arrival) = ⊥
BringsNone _ = Unit {0}

-- it takes no frame
abbrev pub TakesNone : Event → Type 0
TakesNone (event.Take session) = ⊥
TakesNone _ = Unit {0}

-- no link came up
abbrev pub GivesNone : Event → Type 0
GivesNone event.LinkUp = ⊥
GivesNone _ = Unit {0}

-- it is none of these
pub record IsQuiet (e : Event) : Type 0 where
  pub brings : BringsNone e
  pub takes : TakesNone e
  pub gives : GivesNone e

brings_none : (k : ℕ) (e : Event) → BringsNone e → arrival_of k e ≡ []
brings_none k (event.Host session arrival) none = absurd none
brings_none k _ none = refl

takes_none : (k : ℕ) (e : Event) (a : Answer) → TakesNone e → frame_taken e a k ≡ []
takes_none k (event.Take session) a none = absurd none
takes_none k _ a none = refl

gives_none : (e : Event) (a : Answer) → GivesNone e → number_given e a ≡ []
gives_none event.LinkUp a none = absurd none
gives_none _ a none = refl

-- ---- posts of a kind

-- the event of each post is of this kind
abbrev pub AreOf : (Event → Type 0) → List Post → Type 0
AreOf Is posts = AllByRecursion (λ (p : Post). Is p.event) posts

pub all_of : {X : Type 0} (P Q : X → Type 0) → ((x : X) → P x → Q x) → (xs : List X) → AllByRecursion P xs → AllByRecursion Q xs
all_of P Q so [] all = tt
all_of P Q so (x ∷ xs) all = (so x all.0, all_of P Q so xs all.1)

pub all_more : {X : Type 0} (P : X → Type 0) (xs ys : List X) → AllByRecursion P xs → AllByRecursion P ys → AllByRecursion P (xs ++ ys)
all_more P [] ys first second = second
all_more P (x ∷ xs) ys first second = (first.0, all_more P xs ys first.1 second)

pub all_front : {X : Type 0} (P : X → Type 0) (xs ys : List X) → AllByRecursion P (xs ++ ys) → AllByRecursion P xs
all_front P [] ys all = tt
all_front P (x ∷ xs) ys all = (all.0, all_front P xs ys all.1)

pub all_mapped : {X Y : Type 0} (P : Y → Type 0) (f : X → Y) → ((x : X) → P (f x)) → (xs : List X) → AllByRecursion P (map f xs)
all_mapped P f each [] = tt
all_mapped P f each (x ∷ xs) = (each x, all_mapped P f each xs)

-- posts are of the kind of their events
pub posted_of : (Is : Event → Type 0) (es : List Event) (ps : List Post) → ArePosted es ps → AllByRecursion Is es → AreOf Is ps
posted_of Is [] [] posted all = tt
posted_of Is [] (p ∷ ps) posted all = absurd posted
posted_of Is (e ∷ es) [] posted all = absurd posted
posted_of Is (e ∷ es) (p ∷ ps) posted all = (subst Is (sym posted.0) all.0, posted_of Is es ps posted.2 all.1)

pub quit_quiet : (ps : List Post) → QuitPosted ps → AreOf IsQuiet ps
quit_quiet ps posted = posted_of IsQuiet (event.Oper oper.Quit ∷ []) ps posted (record { brings = tt; takes = tt; gives = tt }, tt)

pub brought_none : (k : ℕ) (ps : List Post) → AreOf BringsNone ps → flat_map (came_by k) ps ≡ []
brought_none k ps all = all_none (came_by k) ps (all_of (λ (p : Post). BringsNone p.event) (λ (p : Post). came_by k p ≡ []) (λ p none. brings_none k p.event none) ps all)

pub took_none : (k : ℕ) (ps : List Post) → AreOf TakesNone ps → flat_map (taken_by k) ps ≡ []
took_none k ps all = all_none (taken_by k) ps (all_of (λ (p : Post). TakesNone p.event) (λ (p : Post). taken_by k p ≡ []) (λ p none. takes_none k p.event p.answer none) ps all)

pub gave_none : (ps : List Post) → AreOf GivesNone ps → flat_map given_by ps ≡ []
gave_none ps all = all_none given_by ps (all_of (λ (p : Post). GivesNone p.event) (λ (p : Post). given_by p ≡ []) (λ p none. gives_none p.event p.answer none) ps all)

-- ---- posts that tell nothing

pub record AreSilent (ps : List Post) : Type 0 where
  pub came : (k : ℕ) → flat_map (came_by k) ps ≡ []
  pub taken : (k : ℕ) → flat_map (taken_by k) ps ≡ []
  pub given : flat_map given_by ps ≡ []

pub none_silent : AreSilent []
none_silent = record { came = λ k. refl; taken = λ k. refl; given = refl }

pub quiet_silent : (ps : List Post) → AreOf IsQuiet ps → AreSilent ps
quiet_silent ps all = record {
  came = λ k. brought_none k ps (all_of (λ (p : Post). IsQuiet p.event) (λ (p : Post). BringsNone p.event) (λ p is. is.brings) ps all);
  taken = λ k. took_none k ps (all_of (λ (p : Post). IsQuiet p.event) (λ (p : Post). TakesNone p.event) (λ p is. is.takes) ps all);
  given = gave_none ps (all_of (λ (p : Post). IsQuiet p.event) (λ (p : Post). GivesNone p.event) (λ p is. is.gives) ps all);
}

pub none_so : (ps : List Post) → ps ≡ [] → AreSilent ps
none_so ps none = subst AreSilent (sym none) none_silent

-- the end of the run was told, or nothing
pub quit_or_none : (ps : List Post) (A : Type 0) → QuitPosted ps ⊎ ((ps ≡ []) × A) → AreSilent ps
quit_or_none ps A (inl posted) = quiet_silent ps (quit_quiet ps posted)
quit_or_none ps A (inr none) = none_so ps none.0

-- what posts tell with others behind them that tell nothing
pub with_silent : {A : Type 0} (h : Post → List A) (ps qs : List Post) → flat_map h qs ≡ [] → flat_map h (ps ++ qs) ≡ flat_map h ps
with_silent h ps qs none = flat_map-append h ps qs ∙ ap (λ l. flat_map h ps ++ l) none ∙ append-nil (flat_map h ps)
