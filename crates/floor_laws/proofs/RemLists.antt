-- What is found in a list of which some are left out, where each has its own number.
use Rattle.std.proofs.Common.{◌≡◌, ◌≤◌, ◌<◌, ℕ, ◌+◌, ◌==◌, Bool, true, false, ◌||◌, if◌then◌else◌, List, [], ◌∷◌, filter, find, map, Some, None, refl, sym, ◌∙◌, ap, arith}
use Rattle.std.specs.List.{AllByRecursion, list_any}
use Rattle.std.proofs.lemmas.Bool.{or_parts, or_right}
use Rattle.std.proofs.lemmas.Bool.Decides.{Decides-eqb}
use Rattle.gem_tables.specs.Table.{is_one_of}
use Rattle.carrier.specs.declared.carrier.Carrier.{Carrier}
use Rattle.shop_floor.specs.Floor.{number_of as carrier_number}
use Rattle.shop_floor.specs.Valid.{RiseFrom}
use Rattle.shop_floor.proofs.Apart.{all_both, all_follows, all_filtered}
use Rattle.substrate.specs.Places.{AreNumbered}
use Rattle.substrate.specs.declared.registered.Registered.{Registered}
use Rattle.floor_model.specs.declared.tracked.Substrate.{Substrate}
use Rattle.floor_model.specs.Floor.{RiseTo}
use Rattle.floor_moves.specs.Valid.{IsDistinct}
use Rattle.place_laws.specs.Standing.{AreApart}
use Rattle.place_laws.proofs.Leaving.{swapped}

-- ---- what is found

module _ {A : Type 0} (q t : A → Bool) where
  -- one that stays is found
  pub kept_found : (xs : List A) (x : A) → find t xs ≡ Some x → q x ≡ true → find t (filter q xs) ≡ Some x
  kept_found [] x e stays = absurd (cc)
  kept_found (y ∷ ys) x e stays = of (t y) refl (q y) refl e (λ f. kept_found ys x f stays) where
    of : (b : Bool) → t y ≡ b → (c : Bool) → q y ≡ c → (if b then Some y else find t ys) ≡ Some x → (find t ys ≡ Some x → find t (filter q ys) ≡ Some x) → find t (if c then y ∷ filter q ys else filter q ys) ≡ Some x
    of true u true v f rest = ap (λ (b : Bool). if b then Some y else find t (filter q ys)) u ∙ f
    of true u false v f rest = let same : y ≡ x = cc in absurd (let clash : false ≡ true = sym v ∙ ap q same ∙ stays in cc)
    of false u true v f rest = ap (λ (b : Bool). if b then Some y else find t (filter q ys)) u ∙ rest f
    of false u false v f rest = rest f

  -- where those that pass are left out, none is
  pub gone_found : (xs : List A) → AllByRecursion (λ (x : A). t x ≡ true → q x ≡ false) xs → find t (filter q xs) ≡ None
  gone_found [] all = refl
  gone_found (y ∷ ys) all = of (t y) refl (q y) refl (gone_found ys all.1) where
    of : (b : Bool) → t y ≡ b → (c : Bool) → q y ≡ c → find t (filter q ys) ≡ None → find t (if c then y ∷ filter q ys else filter q ys) ≡ None
    of true u true v rest = absurd (let clash : true ≡ false = sym v ∙ all.0 u in cc)
    of true u false v rest = rest
    of false u true v rest = ap (λ (b : Bool). if b then Some y else find t (filter q ys)) u ∙ rest
    of false u false v rest = rest

  -- and where none is found, none is
  pub none_found : (xs : List A) → find t xs ≡ None → find t (filter q xs) ≡ None
  none_found [] e = refl
  none_found (y ∷ ys) e = of (t y) refl (q y) e (none_found ys) where
    of : (b : Bool) → t y ≡ b → (c : Bool) → (if b then Some y else find t ys) ≡ None → (find t ys ≡ None → find t (filter q ys) ≡ None) → find t (if c then y ∷ filter q ys else filter q ys) ≡ None
    of true u c f rest = absurd (cc)
    of false u true f rest = ap (λ (b : Bool). if b then Some y else find t (filter q ys)) u ∙ rest f
    of false u false f rest = rest f

  -- one that is found with another test passes, so one does
  pub any_found : (xs : List A) (x : A) → find t xs ≡ Some x → q x ≡ true → list_any q xs ≡ true
  any_found [] x e is = absurd (cc)
  any_found (y ∷ ys) x e is = of (t y) e (λ f. any_found ys x f is) where
    of : (b : Bool) → (if b then Some y else find t ys) ≡ Some x → (find t ys ≡ Some x → list_any q ys ≡ true) → (q y || list_any q ys) ≡ true
    of true f rest = let same : y ≡ x = cc in ap (λ (b : Bool). b || list_any q ys) (ap q same ∙ is)
    of false f rest = or_right (q y) (list_any q ys) (rest f)

-- ---- numbers

module _ {A : Type 0} (number : A → ℕ) where
  -- none of these has a number that is none of theirs
  all_other : (n : ℕ) (xs : List A) → is_one_of (map number xs) n ≡ false → AllByRecursion (λ (x : A). (number x == n) ≡ false) xs
  all_other n [] e = tt
  all_other n (x ∷ xs) e = let parts = or_parts (number x == n) (is_one_of (map number xs) n) e in (parts.0, all_other n xs parts.1)

  -- each is found by its number
  pub own_found : (xs : List A) → IsDistinct (map number xs) → AllByRecursion (λ (x : A). find (λ (y : A). number y == number x) xs ≡ Some x) xs
  own_found [] d = tt
  own_found (x ∷ xs) d = (
    ap (λ (b : Bool). if b then Some x else find (λ (y : A). number y == number x) xs) ((Decides-eqb (number x) (number x)).1 refl),
    all_follows (λ (z : A). (find (λ (y : A). number y == number z) xs ≡ Some z) × ((number z == number x) ≡ false)) (λ (z : A). find (λ (y : A). number y == number z) (x ∷ xs) ≡ Some z) xs
        (λ z both. ap (λ (b : Bool). if b then Some x else find (λ (y : A). number y == number z) xs) (swapped (number z) (number x) both.1) ∙ both.0)
        (all_both (λ (z : A). find (λ (y : A). number y == number z) xs ≡ Some z) (λ (z : A). (number z == number x) ≡ false) xs (own_found xs d.1) (all_other (number x) xs d.0)),
  )

  -- who has the number of one that is found is it
  pub only_numbered : (n : ℕ) (xs : List A) (x : A) → IsDistinct (map number xs) → find (λ (y : A). number y == n) xs ≡ Some x → AllByRecursion (λ (y : A). (number y == n) ≡ true → y ≡ x) xs
  only_numbered n [] x d e = tt
  only_numbered n (y ∷ ys) x d e = of (number y == n) refl e (only_numbered n ys x d.1) where
    of : (b : Bool) → (number y == n) ≡ b → (if b then Some y else find (λ (z : A). number z == n) ys) ≡ Some x → (find (λ (z : A). number z == n) ys ≡ Some x → AllByRecursion (λ (z : A). (number z == n) ≡ true → z ≡ x) ys) → AllByRecursion (λ (z : A). (number z == n) ≡ true → z ≡ x) (y ∷ ys)
    of true u f rest =
        let same : y ≡ x = cc in
        let number_is : number y ≡ n = (Decides-eqb (number y) n).0 u in
        ((λ is. same), all_follows (λ (z : A). (number z == number y) ≡ false) (λ (z : A). (number z == n) ≡ true → z ≡ x) ys (λ z other is. absurd (let clash : false ≡ true = sym other ∙ ap (λ (k : ℕ). number z == k) number_is ∙ is in cc)) (all_other (number y) ys d.0))
    of false u f rest = ((λ is. absurd (let clash : false ≡ true = sym u ∙ is in cc)), rest f)

  -- the numbers of those that are left
  pub numbers_left : (q : A → Bool) (t : ℕ → Bool) (xs : List A) → AllByRecursion (λ (x : A). t (number x) ≡ q x) xs → map number (filter q xs) ≡ filter t (map number xs)
  numbers_left q t [] same = refl
  numbers_left q t (x ∷ xs) same = of (q x) (t (number x)) same.0 (numbers_left q t xs same.1) where
    of : (b c : Bool) → c ≡ b → map number (filter q xs) ≡ filter t (map number xs) → map number (if b then x ∷ filter q xs else filter q xs) ≡ (if c then number x ∷ filter t (map number xs) else filter t (map number xs))
    of true true e rest = ap (λ (ns : List ℕ). number x ∷ ns) rest
    of true false e rest = absurd (cc)
    of false true e rest = absurd (cc)
    of false false e rest = rest

-- ---- places and carriers have their own numbers

-- no place has a number that is not past the last one before
none_before : (last given n : ℕ) (rs : List Registered) → AreNumbered last given rs → n ≤ last → is_one_of (map (λ (r : Registered). r.number) rs) n ≡ false
none_before last given n [] rising less = refl
none_before last given n (r ∷ rs) rising less = of (r.number == n) refl (let more = rising.0 in none_before r.number given n rs rising.1 (omega (arith, less, more))) where
  of : (b : Bool) → (r.number == n) ≡ b → is_one_of (map (λ (x : Registered). x.number) rs) n ≡ false → (b || is_one_of (map (λ (x : Registered). x.number) rs) n) ≡ false
  of true e rest = let same = (Decides-eqb r.number n).0 e in let more = rising.0 in absurd (omega (arith, same, less, more))
  of false e rest = rest

-- so no two places have one
pub held_distinct : (last given : ℕ) (rs : List Registered) → AreNumbered last given rs → IsDistinct (map (λ (r : Registered). r.number) rs)
held_distinct last given [] rising = tt
held_distinct last given (r ∷ rs) rising = (none_before r.number given r.number rs rising.1 (omega arith), held_distinct r.number given rs rising.1)

-- no carrier has a number below the first
none_first : (first next n : ℕ) (cs : List Carrier) → RiseFrom first next cs → n < first → is_one_of (map carrier_number cs) n ≡ false
none_first first next n [] rising less = refl
none_first first next n (c ∷ cs) rising less = of (c.number == n) refl (let more = rising.0 in none_first (c.number + 1) next n cs rising.1 (omega (arith, less, more))) where
  of : (b : Bool) → (c.number == n) ≡ b → is_one_of (map carrier_number cs) n ≡ false → (b || is_one_of (map carrier_number cs) n) ≡ false
  of true e rest = let same = (Decides-eqb c.number n).0 e in let more = rising.0 in absurd (omega (arith, same, less, more))
  of false e rest = rest

-- so no two carriers have one
pub carriers_distinct : (first next : ℕ) (cs : List Carrier) → RiseFrom first next cs → IsDistinct (map carrier_number cs)
carriers_distinct first next [] rising = tt
carriers_distinct first next (c ∷ cs) rising = (none_first (c.number + 1) next c.number cs rising.1 (omega arith), carriers_distinct (c.number + 1) next cs rising.1)

-- ---- substrates of which some are left out

module _ (q : Substrate → Bool) where
  -- no two have one slot
  pub apart_fewer : (ss : List Substrate) → AreApart ss → AreApart (filter q ss)
  apart_fewer [] apart = tt
  apart_fewer (s ∷ ss) apart = of (q s) (apart_fewer ss apart.1) where
    of : (b : Bool) → AreApart (filter q ss) → AreApart (if b then s ∷ filter q ss else filter q ss)
    of true rest = (all_filtered (λ (t : Substrate). s.slot ≡ t.slot → ⊥) (λ (t : Substrate). s.slot ≡ t.slot → ⊥) q ss (λ t is other. other) apart.0, rest)
    of false rest = rest

  rise_earlier : (last later given : ℕ) (ss : List Substrate) → last ≤ later → RiseTo later given ss → RiseTo last given ss
  rise_earlier last later given [] less rising = omega (arith, less, rising)
  rise_earlier last later given (s ∷ ss) less rising = (let more = rising.0 in omega (arith, less, more), rising.1)

  -- their numbers rise
  pub rise_fewer : (last given : ℕ) (ss : List Substrate) → RiseTo last given ss → RiseTo last given (filter q ss)
  rise_fewer last given [] rising = rising
  rise_fewer last given (s ∷ ss) rising = of (q s) (rise_fewer s.number given ss rising.1) where
    of : (b : Bool) → RiseTo s.number given (filter q ss) → RiseTo last given (if b then s ∷ filter q ss else filter q ss)
    of true rest = (rising.0, rest)
    of false rest = let more = rising.0 in rise_earlier last s.number given (filter q ss) (omega (arith, more)) rest

  -- one that passes a test is there still, where it is not left out
  pub any_fewer : (test : Substrate → Bool) (ss : List Substrate) → ((s : Substrate) → test s ≡ true → q s ≡ true) → list_any test ss ≡ true → list_any test (filter q ss) ≡ true
  any_fewer test [] stays e = absurd (cc)
  any_fewer test (s ∷ ss) stays e = of (test s) refl (q s) refl e (any_fewer test ss stays) where
    of : (b : Bool) → test s ≡ b → (c : Bool) → q s ≡ c → (b || list_any test ss) ≡ true → (list_any test ss ≡ true → list_any test (filter q ss) ≡ true) → list_any test (if c then s ∷ filter q ss else filter q ss) ≡ true
    of true t true u e rest = ap (λ (b : Bool). b || list_any test (filter q ss)) t
    of true t false u e rest = absurd (let is = stays s t in let clash : true ≡ false = sym is ∙ u in cc)
    of false t true u e rest = ap (λ (b : Bool). b || list_any test (filter q ss)) t ∙ rest e
    of false t false u e rest = rest e
