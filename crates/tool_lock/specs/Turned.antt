-- The rule of the turnstile, and what each step tells the seat that takes it.
-- Word 0 is the next ticket and word 1 the one that is served, both modulo 2^64. Word 2 is the length of the history. Slot 0
-- has the value. A seat has claims, one for each pass that it stands for: at first one seat has all, and while passes are out
-- each has its own.
use Rattle.std.specs.Prelude.{◌≡◌, ◌≢◌, ℕ, zero, suc, ◌+◌, ◌%◌, ◌^◌, ◌<◌, ◌≤◌, ◌==◌, Bool, true, false, List, [], ◌∷◌, ◌++◌, length, filter, Some}
use Rattle.std.specs.Prelude as std
use mathlib.Core.Option.{Option, none, some}
use mathlib.Core.List.{IsPrefix}
use lib.ListN.{get_elem?}
use Rattle.atomic_table.specs.Table.{State, Me}
use Rattle.tool_lock.specs.declared.rule.Claim.{Claim}
use Rattle.tool_lock.specs.declared.rule.View.{View}
use Rattle.tool_lock.specs.declared.rule.Stage.{Stage}
use Rattle.tool_lock.specs.declared.rule.Stage.TheVariants.{Idle, Waits, Serves}

-- ---- entries and sums

-- the entries of one number
abbrev pub own : {E : Type 0} → (E → ℕ) → ℕ → List E → List E
own number k history = filter (λ entry. number entry == k) history

-- the sum of what a list's elements give
abbrev pub total : {A : Type 0} → (A → ℕ) → List A → ℕ
total f [] = 0
total f (x ∷ xs) = f x + total f xs

-- 1 for true, and 0 for false
abbrev pub hit : Bool → ℕ
hit true = 1
hit false = 0

-- ---- stages

-- how many tickets a stage has out
abbrev pub out : Stage → ℕ
out Idle = 0
out (Waits t) = 1
out (Serves t) = 1

-- its ticket is the one that is served, and the seat knows it
abbrev pub serves : Stage → Bool
serves Idle = false
serves (Waits t) = false
serves (Serves t) = true

-- the ticket of a stage, 0 where it has none
abbrev pub ticket : Stage → ℕ
ticket Idle = 0
ticket (Waits t) = t
ticket (Serves t) = t

-- ---- claims and views

module _ {E G : Type 0} where
  -- the claim of this number, opening state, front and own entries
  abbrev pub claim : ℕ → G → List E → List E → Claim E G
  claim k opening front mine = record { number = k; start = opening; front = front; mine = mine }

  -- the view of these claims and this stage
  abbrev pub view : List (Claim E G) → Stage → View E G
  view claims stage = record { claims = claims; stage = stage }

  -- how many tickets a view has out
  abbrev pub busy : View E G → ℕ
  busy v = out v.stage

  -- how many claims a view has
  abbrev pub parts : View E G → ℕ
  parts v = length v.claims

  -- how many claims of a view have this number
  abbrev pub times : ℕ → View E G → ℕ
  times k v = total (λ (c : Claim E G). hit (c.number == k)) v.claims

  -- so many claims that know no entry, numbered from the first on
  abbrev pub claims_from : G → ℕ → ℕ → List (Claim E G)
  claims_from opening first zero = []
  claims_from opening first (suc count) = claim first opening [] [] ∷ claims_from opening (suc first) count

  -- the view that the table is made with: all claims, at rest
  abbrev pub first_view : G → ℕ → View E G
  first_view opening count = view (claims_from opening 0 count) Idle

  -- there is one claim
  abbrev pub IsOne : List (Claim E G) → Type 0
  IsOne claims = (one : Claim E G) × (claims ≡ one ∷ [])

  -- a claim's front begins the history, the entries of its number there are its own, and it knows the opening state
  abbrev pub Claimed : (E → ℕ) → G → List E → Claim E G → Type 0
  Claimed number opening history c = IsPrefix c.front history × (own number c.number history ≡ c.mine) × (c.start ≡ opening)

  -- a seat's ticket is one that is out, and its own; a seat that is served knows the whole history
  abbrev pub Stands : List E → ℕ → ℕ → (ℕ → ℕ) → ℕ → List (Claim E G) → Stage → Type 0
  Stands history next served seat j claims Idle = Unit {0}
  Stands history next served seat j claims (Waits t) = (served ≤ t) × (t < next) × (seat t ≡ j) × IsOne claims
  Stands history next served seat j claims (Serves t) = (t ≡ served) × (served < next) × (seat t ≡ j) × ((one : Claim E G) × (claims ≡ one ∷ []) × (one.front ≡ history))

  -- each claim of a seat's view is right, and so is its stage
  abbrev pub Fits : (E → ℕ) → G → List E → ℕ → ℕ → (ℕ → ℕ) → ℕ → View E G → Type 0
  Fits number opening history next served seat j v = ((i : ℕ) (c : Claim E G) → get_elem? v.claims i ≡ some c → Claimed number opening history c)
      × Stands history next served seat j v.claims v.stage

  -- the slot is out only while a seat is served; where it is at home its value has this history, and no seat is served
  abbrev pub Lies : {S : Type 0} → (S → List E → Type 0) → List E → List (View E G) → Option S → Type 0
  Lies keeps history views none = (j : ℕ) × (v : View E G) × (get_elem? views j ≡ some v) × (serves v.stage ≡ true)
  Lies keeps history views (some value) = keeps value history × ((j : ℕ) (v : View E G) → get_elem? views j ≡ some v → serves v.stage ≡ false)

  -- there is one slot, and it lies so
  abbrev pub AtHome : {S : Type 0} → (S → List E → Type 0) → List E → List (View E G) → List (Option S) → Type 0
  AtHome {S} keeps history views homes = (home : Option S) × (homes ≡ home ∷ []) × Lies keeps history views home

-- ---- the rule

-- what always holds of the words, the slot and the views of a turnstile with so many passes: the tickets that are out lie
-- between the two words, no number is claimed twice, no number that no pass has is claimed or has an entry, and each view is
-- right
pub record Turned {S E G : Type 0} (keep : G → S → List E → Type 0) (num : E → ℕ) (n : ℕ) (s : State S (View E G)) : Type 0 where
  pub start : G
  pub log : List E
  pub next : ℕ
  pub served : ℕ
  pub seat : ℕ → ℕ
  pub words : s.words ≡ next % 2 ^ 64 ∷ (served % 2 ^ 64 ∷ (length log ∷ []))
  pub few : n < 2 ^ 64
  pub tickets : next ≡ served + total busy s.views
  pub passes : total parts s.views ≡ n
  pub once : (k : ℕ) → total (times k) s.views ≤ 1
  pub beyond : (k : ℕ) → n ≤ k → total (times k) s.views ≡ 0
  pub strangers : (k : ℕ) → n ≤ k → own num k log ≡ []
  pub fits : (j : ℕ) (v : View E G) → get_elem? s.views j ≡ some v → Fits num start log next served seat j v
  pub home : AtHome (keep start) log s.views s.homes

-- the slot has a value of this history and this opening state
abbrev pub keeps_history : {V E G : Type 0} → (V → List E) → (V → G) → G → std.Option V → List E → Type 0
keeps_history {V} history opening from slot log = (value : V) × (slot ≡ Some value) × (history value ≡ log) × (opening value ≡ from)

-- ---- the first claim

module _ {E G : Type 0} where
  -- its number
  abbrev pub number_of : List (Claim E G) → ℕ
  number_of [] = 0
  number_of (c ∷ cs) = c.number

  -- its front
  abbrev pub front_of : List (Claim E G) → List E
  front_of [] = []
  front_of (c ∷ cs) = c.front

  -- its own entries
  abbrev pub mine_of : List (Claim E G) → List E
  mine_of [] = []
  mine_of (c ∷ cs) = c.mine

-- each claim is from this opening state
abbrev pub Starts : {E G : Type 0} → List (Claim E G) → G → Type 0
Starts [] opening = Unit {0}
Starts (c ∷ cs) opening = (c.start ≡ opening) × Starts cs opening

-- ---- what the steps tell

module _ {S E G : Type 0} where
  -- the seat has the next ticket, which the word says as r
  abbrev pub drew : Me S (View E G) → ℕ → Me S (View E G) → Type 0
  drew me r me' = (t : ℕ) × (t % 2 ^ 64 ≡ r) × (me' ≡ (view me.0.claims (Waits t), me.1))

  -- the seat is served: its front is the whole history, and it holds the slot with the value of that history
  abbrev pub Served : (G → S → List E → Type 0) → (E → ℕ) → Me S (View E G) → Me S (View E G) → Type 0
  Served keeps number me me' = (opening : G) × (history : List E) × (value : S)
      × Starts me.0.claims opening × IsPrefix (front_of me.0.claims) history
      × (own number (number_of me.0.claims) history ≡ mine_of me.0.claims) × keeps opening value history
      × (me' ≡ (view (claim (number_of me.0.claims) opening history (mine_of me.0.claims) ∷ []) (Serves (ticket me.0.stage)), (0, value) ∷ me.1))

  -- the seat is served where the word says its ticket, and else waits on
  abbrev pub looked : (G → S → List E → Type 0) → (E → ℕ) → Me S (View E G) → ℕ → Me S (View E G) → Type 0
  looked keeps number me r me' = (r ≡ ticket me.0.stage % 2 ^ 64 → Served keeps number me me') × (r ≢ ticket me.0.stage % 2 ^ 64 → me' ≡ me)

  -- the one entry that the value in hand has beyond the front, of the seat's number, is now in its front and its own
  abbrev pub counted : (G → S → List E → Type 0) → (E → ℕ) → Me S (View E G) → ℕ → Me S (View E G) → Type 0
  counted keeps number me r me' = (entry : E) × (opening : G) × Starts me.0.claims opening × (number entry ≡ number_of me.0.claims)
      × ((value : S) (others : List (ℕ × S)) → me.1 ≡ (0, value) ∷ others → keeps opening value (front_of me.0.claims ++ entry ∷ []))
      × (me' ≡ (view (claim (number_of me.0.claims) opening (front_of me.0.claims ++ entry ∷ []) (mine_of me.0.claims ++ entry ∷ []) ∷ []) me.0.stage, me.1))

  -- the seat has no ticket, and the slot is at home
  abbrev pub left : Me S (View E G) → ℕ → Me S (View E G) → Type 0
  left me r me' = me' ≡ (view me.0.claims Idle, [])
