-- What a change of one substrate does to the columns.
use Rattle.std.proofs.Common.{◌≡◌, ℕ, ◌==◌, ◌||◌, Bool, true, false, if◌then◌else◌, List, [], ◌∷◌, map, Option, Some, None, option_map, refl, sym, ◌∙◌, ap, subst}
use Rattle.std.proofs.lemmas.Bool.Decides.{Decides-eqb}
use Rattle.gem_tables.specs.Table.{is_one_of}
use Rattle.floor_model.specs.declared.tracked.Substrate.{Substrate}
use Rattle.floor_model.specs.Floor.{substrate_numbered, change_numbered, number_of}
use Rattle.place_laws.specs.Picture.{of_one}

-- a number that none has is that of none
pub unknown_none : (n : ℕ) (ss : List Substrate) → is_one_of (map number_of ss) n ≡ false → substrate_numbered n ss ≡ None
unknown_none n [] e = refl
unknown_none n (s ∷ ss) e = of (s.number == n) e (unknown_none n ss) where
  of : (b : Bool) → (b || is_one_of (map number_of ss) n) ≡ false → (is_one_of (map number_of ss) n ≡ false → substrate_numbered n ss ≡ None) → (if b then Some s else substrate_numbered n ss) ≡ None
  of true e rest = absurd (cc)
  of false e rest = rest e

module _ (n : ℕ) (change : Substrate → Substrate) (keeps : (s : Substrate) → (change s).number ≡ s.number) where
  -- the numbers stay
  pub numbers_same : (ss : List Substrate) → map number_of (change_numbered n change ss) ≡ map number_of ss
  numbers_same [] = refl
  numbers_same (s ∷ ss) = of (s.number == n) (numbers_same ss) where
    of : (b : Bool) → map number_of (change_numbered n change ss) ≡ map number_of ss → map number_of (if b then change s ∷ ss else s ∷ change_numbered n change ss) ≡ s.number ∷ map number_of ss
    of true rest = ap (λ (k : ℕ). k ∷ map number_of ss) (keeps s)
    of false rest = ap (λ (ks : List ℕ). s.number ∷ ks) rest

  -- the one that changes is found as it is behind the change
  pub found_there : (ss : List Substrate) → substrate_numbered n (change_numbered n change ss) ≡ option_map change (substrate_numbered n ss)
  found_there [] = refl
  found_there (s ∷ ss) = of (s.number == n) refl (found_there ss) where
    of : (b : Bool) → (s.number == n) ≡ b → substrate_numbered n (change_numbered n change ss) ≡ option_map change (substrate_numbered n ss) → substrate_numbered n (if b then change s ∷ ss else s ∷ change_numbered n change ss) ≡ option_map change (if b then Some s else substrate_numbered n ss)
    of true e rest = ap (λ (b : Bool). if b then Some (change s) else substrate_numbered n ss) (ap (λ (k : ℕ). k == n) (keeps s) ∙ e)
    of false e rest = ap (λ (b : Bool). if b then Some s else substrate_numbered n (change_numbered n change ss)) e ∙ rest

  -- and each other as it was
  pub found_else : (k : ℕ) → (k ≡ n → ⊥) → (ss : List Substrate) → substrate_numbered k (change_numbered n change ss) ≡ substrate_numbered k ss
  found_else k other [] = refl
  found_else k other (s ∷ ss) = of (s.number == n) refl (found_else k other ss) where
    missed : (s.number == n) ≡ true → (c : Bool) → (s.number == k) ≡ c → (if c then Some (change s) else substrate_numbered k ss) ≡ (if c then Some s else substrate_numbered k ss)
    missed e true f = absurd (other (sym ((Decides-eqb s.number k).0 f) ∙ (Decides-eqb s.number n).0 e))
    missed e false f = refl

    of : (b : Bool) → (s.number == n) ≡ b → substrate_numbered k (change_numbered n change ss) ≡ substrate_numbered k ss → substrate_numbered k (if b then change s ∷ ss else s ∷ change_numbered n change ss) ≡ substrate_numbered k (s ∷ ss)
    of true e rest = ap (λ (m : ℕ). if m == k then Some (change s) else substrate_numbered k ss) (keeps s) ∙ missed e (s.number == k) refl
    of false e rest = ap (λ (o : Option Substrate). if s.number == k then Some s else o) rest

  module _ {B : Type 0} (else_ : B) (says : Substrate → B) where
    -- what the change leaves as it is, is said as before
    pub says_same : ((s : Substrate) → says (change s) ≡ says s) → (k : ℕ) (ss : List Substrate) → of_one else_ says (substrate_numbered k (change_numbered n change ss)) ≡ of_one else_ says (substrate_numbered k ss)
    says_same same k ss = by (k == n) refl where
      changed : (o : Option Substrate) → of_one else_ says (option_map change o) ≡ of_one else_ says o
      changed None = refl
      changed (Some s) = same s

      by : (b : Bool) → (k == n) ≡ b → of_one else_ says (substrate_numbered k (change_numbered n change ss)) ≡ of_one else_ says (substrate_numbered k ss)
      by true e =
          let is : n ≡ k = sym ((Decides-eqb k n).0 e) in
          subst (λ (m : ℕ). of_one else_ says (substrate_numbered m (change_numbered n change ss)) ≡ of_one else_ says (substrate_numbered m ss)) is
          (ap (of_one else_ says) (found_there ss) ∙ changed (substrate_numbered n ss))
      by false e = ap (of_one else_ says) (found_else k (λ is. let t = (Decides-eqb k n).1 is in cc) ss)

    -- what is said of the one that changes
    pub says_new : (s : Substrate) (k : ℕ) (ss : List Substrate) → substrate_numbered n ss ≡ Some s → of_one else_ says (substrate_numbered k (change_numbered n change ss)) ≡ (if k == n then says (change s) else of_one else_ says (substrate_numbered k ss))
    says_new s k ss found = by (k == n) refl where
      by : (b : Bool) → (k == n) ≡ b → of_one else_ says (substrate_numbered k (change_numbered n change ss)) ≡ (if b then says (change s) else of_one else_ says (substrate_numbered k ss))
      by true e =
          let is : n ≡ k = sym ((Decides-eqb k n).0 e) in
          subst (λ (m : ℕ). of_one else_ says (substrate_numbered m (change_numbered n change ss)) ≡ says (change s)) is
          (ap (of_one else_ says) (found_there ss ∙ ap (option_map change) found))
      by false e = ap (of_one else_ says) (found_else k (λ is. let t = (Decides-eqb k n).1 is in cc) ss)
