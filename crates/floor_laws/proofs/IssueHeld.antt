-- Each place that is held is found by its number and by its name, and is that of a substrate that is kept.
use Rattle.std.proofs.Common.{◌≡◌, ◌<◌, ◌==◌, Bool, true, false, ◌||◌, if◌then◌else◌, List, [], ◌∷◌, find, Some, None, refl, sym, ◌∙◌, ap, subst}
use Rattle.std.specs.List.{AllByRecursion, list_any}
use Rattle.substrate.specs.Places.{name_of, substrate_named}
use Rattle.substrate.specs.declared.registered.Registered.{Registered}
use Rattle.records.proofs.Apart.{found_named}
use Rattle.floor_model.specs.declared.tracked.Substrate.{Substrate}
use Rattle.floor_model.specs.Floor.{ToolFloor, substrate_numbered}
use Rattle.place_laws.specs.Sound.{IsOfKept, Base}
use Rattle.std.proofs.lemmas.Bool.{or_right}
use Rattle.place_laws.proofs.Names.{numbered_in, each_numbered}

-- ---- lists

module _ {A : Type 0} where
  -- so is what follows from two things
  pub all_both : (P Q R : A → Type 0) (xs : List A) → ((x : A) → P x → Q x → R x) → AllByRecursion P xs → AllByRecursion Q xs → AllByRecursion R xs
  all_both P Q R [] so ps qs = tt
  all_both P Q R (x ∷ xs) so ps qs = (so x ps.0 qs.0, all_both P Q R xs so ps.1 qs.1)

  -- what is so of each is so of one that is found, which passes
  pub found_so : (P : A → Type 0) (test : A → Bool) (xs : List A) (x : A) → AllByRecursion P xs → find test xs ≡ Some x → P x × (test x ≡ true)
  found_so P test [] x all e = absurd (cc)
  found_so P test (y ∷ ys) x all e = of (test y) refl e (found_so P test ys x all.1) where
    of : (b : Bool) → test y ≡ b → (if b then Some y else find test ys) ≡ Some x → (find test ys ≡ Some x → P x × (test x ≡ true)) → P x × (test x ≡ true)
    of true q e rest = let same : y ≡ x = cc in subst (λ (z : A). P z × (test z ≡ true)) same (all.0, q)
    of false q e rest = rest e

  -- where one that is found by another test passes, one passes
  pub found_any : (find_by test : A → Bool) (xs : List A) (x : A) → find find_by xs ≡ Some x → test x ≡ true → list_any test xs ≡ true
  found_any find_by test [] x e passes = absurd (cc)
  found_any find_by test (y ∷ ys) x e passes = of (find_by y) e (found_any find_by test ys x) where
    of : (b : Bool) → (if b then Some y else find find_by ys) ≡ Some x → (find find_by ys ≡ Some x → test x ≡ true → list_any test ys ≡ true) → (test y || list_any test ys) ≡ true
    of true e rest = let same : x ≡ y = cc in ap (λ (b : Bool). b || list_any test ys) (ap test (sym same) ∙ passes)
    of false e rest = or_right (test y) (list_any test ys) (rest e passes)

  -- where none is found, none passes
  pub none_any : (test : A → Bool) (xs : List A) → find test xs ≡ None → list_any test xs ≡ false
  none_any test [] e = refl
  none_any test (x ∷ xs) e = of (test x) e (none_any test xs) where
    of : (b : Bool) → (if b then Some x else find test xs) ≡ None → (find test xs ≡ None → list_any test xs ≡ false) → (b || list_any test xs) ≡ false
    of true e rest = absurd (cc)
    of false e rest = rest e

-- ---- all of it

-- a place that is held, with the substrate that is kept of it
pub record IsHeld (f : ToolFloor) (r : Registered) (s : Substrate) : Type 0 where
  pub numbered : find (λ (x : Registered). x.number == r.number) f.places.held ≡ Some r
  pub named : substrate_named r.sub f.places.held ≡ Some r
  pub found : substrate_numbered r.number f.substrates ≡ Some s

abbrev pub HasKept : ToolFloor → Registered → Type 0
HasKept f r = (s : Substrate) × IsHeld f r s

pub all_held : (f : ToolFloor) → Base f → AllByRecursion (HasKept f) f.places.held
all_held f b =
    all_both (λ (r : Registered). (0 < r.number) × (numbered_in r.number f.places.held ≡ Some r)) (IsOfKept f.substrates) (HasKept f) f.places.held
    (λ r its kept. (kept.0, record { numbered = its.1; named = found_named name_of (λ (x : Registered). x.number == r.number) f.places.held r b.places.named_apart its.1; found = kept.1 }))
    (each_numbered 0 f.places.given f.places.held b.places.numbered)
    b.held
