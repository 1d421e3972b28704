-- The names of the carriers that are present, where the carriers change.
use Rattle.std.proofs.Common.{◌≡◌, ℕ, Bool, true, false, not, ◌&&◌, List, [], ◌∷◌, Option, Some, None, refl}
use Rattle.std.specs.List.{AllByRecursion, list_any}
use Rattle.std.proofs.lemmas.Bool.{or_parts, or_from}
use Rattle.carrier.specs.declared.carrier.Carrier.{Carrier}
use Rattle.carrier.specs.Carriers.{has_name, change_named, change_numbered, without, created, with_created, found_or_created}
use Rattle.shop_floor.specs.Floor.{is_present}
use Rattle.shop_floor.specs.Rows.{forgets}
use Rattle.shop_floor.proofs.Apart.{all_filtered, all_changed, all_found, all_pushed}
use Rattle.shop_floor.proofs.Numbers.{LeavesCarrier, all_numbered}

-- ---- of a list of carriers

-- none passes a test
pub none_all : {X : Type 0} (test : X → Bool) (xs : List X) → list_any test xs ≡ false → AllByRecursion (λ x. test x ≡ false) xs
none_all test [] e = tt
none_all test (x ∷ xs) e = let parts = or_parts (test x) (list_any test xs) e in (parts.0, none_all test xs parts.1)

-- a carrier isn't a present one of this name
abbrev pub IsAway : List ℕ → Carrier → Type 0
IsAway name c = (has_name name c && c.present) ≡ false

pub absent_all : (name : List ℕ) (cs : List Carrier) → is_present name cs ≡ false → AllByRecursion (IsAway name) cs
absent_all name [] e = tt
absent_all name (c ∷ cs) e = let parts = or_parts (has_name name c && c.present) (is_present name cs) e in (parts.0, absent_all name cs parts.1)

pub all_absent : (name : List ℕ) (cs : List Carrier) → AllByRecursion (IsAway name) cs → is_present name cs ≡ false
all_absent name [] away = refl
all_absent name (c ∷ cs) away = or_from (has_name name c && c.present) (is_present name cs) away.0 (all_absent name cs away.1)

-- a carrier that isn't present is so under no name
pub away_absent : (name : List ℕ) (c : Carrier) → c.present ≡ false → IsAway name c
away_absent name c absent = of (has_name name c) where
  of : (b : Bool) → (b && c.present) ≡ false
  of true = absent
  of false = refl

-- ---- no name becomes that of a carrier that is present

abbrev pub StayAway : List Carrier → List Carrier → Type 0
StayAway before behind = (name : List ℕ) → is_present name before ≡ false → is_present name behind ≡ false

-- where the one of a number changes
pub away_numbered : (n : ℕ) (change : Carrier → Carrier) (cs : List Carrier) → LeavesCarrier change → StayAway cs (change_numbered n change cs)
away_numbered n change cs leaves name e =
    all_absent name (change_numbered n change cs) (all_numbered (IsAway name) n change cs (λ c away. rw (leaves.name c, leaves.present c) away) (absent_all name cs e))

-- where the one of a name changes
pub away_changed : (changed : List ℕ) (change : Carrier → Carrier) (cs : List Carrier) → ((c : Carrier) → (change c).name ≡ c.name) → ((c : Carrier) → (change c).present ≡ c.present) → StayAway cs (change_named changed change cs)
away_changed changed change cs named present name e =
    all_absent name (change_named changed change cs) (all_changed (IsAway name) (IsAway name) changed change cs (λ c is away. rw (named c, present c) away) (λ c other away. away) (absent_all name cs e))

-- where one is created, or found
pub away_created : (n : ℕ) (new : List ℕ) (cs : List Carrier) → StayAway cs (with_created n new cs)
away_created n new cs name e = all_absent name (with_created n new cs) (all_pushed (IsAway name) cs (created n new) (absent_all name cs e) (away_absent name (created n new) refl))

pub away_found : (n : ℕ) (new : List ℕ) (cs : List Carrier) → StayAway cs (found_or_created n new cs)
away_found n new cs name e = all_absent name (found_or_created n new cs) (all_found (IsAway name) n new cs (λ t. away_absent name (created n new) refl) (absent_all name cs e))

-- where one is forgotten
pub away_without : (forgotten : List ℕ) (cs : List Carrier) → StayAway cs (without forgotten cs)
away_without forgotten cs name e = all_absent name (without forgotten cs) (all_filtered (IsAway name) (IsAway name) (λ c. not (has_name forgotten c)) cs (λ c t away. away) (absent_all name cs e))

pub away_forgets : (o : Option (List ℕ)) (cs : List Carrier) → StayAway cs (forgets o cs)
away_forgets None cs name e = e
away_forgets (Some forgotten) cs name e = away_without forgotten cs name e

-- what is true of each is true of those that are left
pub all_forgets : (P : Carrier → Type 0) (o : Option (List ℕ)) (cs : List Carrier) → AllByRecursion P cs → AllByRecursion P (forgets o cs)
all_forgets P None cs all = all
all_forgets P (Some name) cs all = all_filtered P P (λ c. not (has_name name c)) cs (λ c t p. p) all
