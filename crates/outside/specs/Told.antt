-- What is read, written, given and handed back, where the object outside tells it.
use Rattle.std.specs.Prelude.{◌≡◌, ℕ, ⊤, Bool, true, false, List, [], ◌∷◌, ◌++◌, Option, Some, None, MatchOption}

-- xs is a front of ys
abbrev pub IsFrontOf : List ℕ → List ℕ → Type 0
IsFrontOf front whole = (behind : List ℕ) × (whole ≡ front ++ behind)

-- these bytes were taken off what was left
abbrev pub Taken : Option (List ℕ) → Option (List ℕ) → List ℕ → Type 0
Taken None new bytes = ⊤
Taken (Some old) new bytes = (rest : List ℕ) × (old ≡ bytes ++ rest) × (new ≡ Some rest)

-- nothing was left
abbrev pub NothingLeft : Option (List ℕ) → Type 0
NothingLeft left = MatchOption left ⊤ (λ bytes. bytes ≡ [])

-- where the source tells, this is all that it had left
abbrev pub Whole : Option (List ℕ) → List ℕ → Type 0
Whole left text = MatchOption left ⊤ (λ bytes. bytes ≡ text)

-- where the door tells the port at which it listens, it is this one
abbrev pub AtPort : Option ℕ → ℕ → Type 0
AtPort port number = MatchOption port ⊤ (λ told. told ≡ number)

-- these bytes were put behind what was held
abbrev pub Written : Option (List ℕ) → Option (List ℕ) → List ℕ → Type 0
Written None new bytes = ⊤
Written (Some old) new bytes = new ≡ Some (old ++ bytes)

-- what is told, where it is told at all
abbrev pub told : {A : Type 0} → Bool → A → Option A
told true x = Some x
told false x = None

module _ {A : Type 0} where
  -- this now stands behind all that was there, where that is told afterwards
  abbrev pub Grew : Option (List A) → Option (List A) → A → Type 0
  Grew old None x = ⊤
  Grew old (Some new) x = (before : List A) × (old ≡ Some before) × (new ≡ before ++ x ∷ [])

  -- this, if it is anything, was the first of what was left, and else that stays
  abbrev pub Given : Option A → Option (List A) → Option (List A) → Type 0
  Given None old new = new ≡ old
  Given (Some x) None new = ⊤
  Given (Some x) (Some old) new = (rest : List A) × (old ≡ x ∷ rest) × (new ≡ Some rest)

-- a front of these bytes was put behind what was held
abbrev pub WrittenFront : Option (List ℕ) → Option (List ℕ) → List ℕ → Type 0
WrittenFront old new bytes = (front : List ℕ) × IsFrontOf front bytes × Written old new front
