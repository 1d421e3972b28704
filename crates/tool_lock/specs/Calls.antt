-- What the calls of the turnstile ask and say.
use Rattle.std.specs.Prelude.{◌≡◌, ℕ, ◌%◌, ◌^◌, List, [], ◌∷◌, ◌++◌, ◌⊎◌, length}
use mathlib.Core.List.{IsPrefix}
use denote.Ref.{MutBor}
use denote.Param.Members.{Once}
use Rattle.atomic_table.specs.Table.{Me}
use Rattle.tool_lock.specs.declared.rule.Claim.{Claim}
use Rattle.tool_lock.specs.declared.rule.View.{View}
use Rattle.tool_lock.specs.declared.rule.Stage.TheVariants.{Idle, Waits, Serves}
use Rattle.tool_lock.specs.Turned.{own, claim, view, number_of, front_of, mine_of, Starts}

-- the entries of the first claim's number in its front are those that it appended
abbrev pub IsOwn : {E G : Type 0} → (E → ℕ) → List (Claim E G) → Type 0
IsOwn number claims = own number (number_of claims) (front_of claims) ≡ mine_of claims

-- ---- what a seat has

module _ {S E G : Type 0} where
  -- the seat has one claim, and rests
  abbrev pub Rests : Me S (View E G) → Type 0
  Rests me = (one : Claim E G) × (me ≡ (view (one ∷ []) Idle, []))

  -- the seat has one claim, of this number, and rests
  abbrev pub RestsAs : ℕ → Me S (View E G) → Type 0
  RestsAs k me = (length me.0.claims ≡ 1) × (me.0.stage ≡ Idle) × (me.1 ≡ []) × (number_of me.0.claims ≡ k)

  -- the seat has drawn a ticket that its word says as k
  abbrev pub IsWaiting : Me S (View E G) → ℕ → Me S (View E G) → Type 0
  IsWaiting me k me' = (ticket : ℕ) × (ticket % 2 ^ 64 ≡ k) × (me' ≡ (view me.0.claims (Waits ticket), []))

  -- the seat, which had the claims of the first, is served: its front is the whole history, and it holds the slot with the
  -- value of that history
  abbrev pub HasTurn : (G → S → List E → Type 0) → (E → ℕ) → Me S (View E G) → Me S (View E G) → Type 0
  HasTurn keeps number me me' = (opening : G) × (history : List E) × (value : S) × (ticket : ℕ)
      × Starts me.0.claims opening × IsPrefix (front_of me.0.claims) history
      × (own number (number_of me.0.claims) history ≡ mine_of me.0.claims) × keeps opening value history
      × (me' ≡ (view (claim (number_of me.0.claims) opening history (mine_of me.0.claims) ∷ []) (Serves ticket), (0, value) ∷ []))

  -- the seat has one claim, is served, and holds the slot
  abbrev pub IsServed : Me S (View E G) → Type 0
  IsServed me = (one : Claim E G) × (ticket : ℕ) × (value : S) × (me ≡ (view (one ∷ []) (Serves ticket), (0, value) ∷ []))

-- ---- what the call that is handed in may do, and did

-- `f(x, k)` may be called
abbrev pub Takes : {V F R : Type 0} → Once F (MutBor V × (ℕ × Unit {0})) (R × (MutBor V × Unit {0})) → F → ℕ → V → Type 0
Takes {V} call f k x = (lent : MutBor V) → lent.now ≡ x → call.pre f (lent, (k, tt))

-- `f(x, k)` may return r and leave x'
pub record Gives {V F R : Type 0} (call : Once F (MutBor V × (ℕ × Unit {0})) (R × (MutBor V × Unit {0}))) (f : F) (k : ℕ) (x : V) (r : R) (x' : V) : Type 0 where
  pub shown : MutBor V
  pub shows : shown.now ≡ x
  pub after : MutBor V
  pub met : call.post f (shown, (k, tt)) (r, (after, tt))
  pub leaves : after.now ≡ x'

module _ {V E G : Type 0} (history : V → List E) (number : E → ℕ) (opening : V → G) where
  -- from x to x' nothing was appended, or one entry of this number
  abbrev pub Appends : ℕ → V → V → Type 0
  Appends k x x' = (history x' ≡ history x) ⊎ ((entry : E) × (number entry ≡ k) × (history x' ≡ history x ++ entry ∷ []))

  -- f may be called at each value of this opening state whose history begins with the front; it appends nothing or one entry
  -- of this number, and leaves the opening state as it was
  abbrev pub IsTurn : {F R : Type 0} → Once F (MutBor V × (ℕ × Unit {0})) (R × (MutBor V × Unit {0})) → F → ℕ → G → List E → Type 0
  IsTurn {F} {R} call f k from front = (x : V) → IsPrefix front (history x) → opening x ≡ from
      → Takes call f k x × ((r : R) (x' : V) → Gives call f k x r x' → Appends k x x' × (opening x' ≡ opening x))

  -- f was lent x, whose history begins with the front, and left x' with the answer r; the new front is the history of x', and
  -- the pass's own entries grew by the one that f appended, or stayed
  abbrev pub TookTurn : {F R : Type 0} → Once F (MutBor V × (ℕ × Unit {0})) (R × (MutBor V × Unit {0})) → F → ℕ → G → List E → List E → R → List E → List E → Type 0
  TookTurn call f k from front mine r front' mine' = (x : V) × (x' : V) × IsPrefix front (history x) × Gives call f k x r x' × (front' ≡ history x')
      × (((history x' ≡ history x) × (mine' ≡ mine)) ⊎ ((entry : E) × (number entry ≡ k) × (history x' ≡ history x ++ entry ∷ []) × (mine' ≡ mine ++ entry ∷ [])))
      × (opening x ≡ from) × (opening x' ≡ from)

-- ---- how the value is put back

module _ {V E G : Type 0} (history : V → List E) (number : E → ℕ) where
  -- the value's history is the claims' front, or has one entry more, of their number
  abbrev pub IsNext : List (Claim E G) → V → Type 0
  IsNext claims x = (history x ≡ front_of claims) ⊎ ((entry : E) × (number entry ≡ number_of claims) × (history x ≡ front_of claims ++ entry ∷ []))

  -- the claims have the value's history as their front, and its last entry as their own where there is one more
  abbrev pub HasPut : List (Claim E G) → V → List (Claim E G) → Type 0
  HasPut claims x claims' = (number_of claims' ≡ number_of claims) × (front_of claims' ≡ history x) × IsOwn number claims'
      × (((history x ≡ front_of claims) × (mine_of claims' ≡ mine_of claims))
      ⊎ ((entry : E) × (number entry ≡ number_of claims) × (history x ≡ front_of claims ++ entry ∷ []) × (mine_of claims' ≡ mine_of claims ++ entry ∷ [])))
