-- What a change of one carrier does to the columns of carriers.
use Rattle.std.proofs.Common.{◌≡◌, ◌≤◌, ℕ, ◌+◌, ◌==◌, Bool, true, false, if◌then◌else◌, List, [], ◌∷◌, map, Option, Some, None, option_map, refl, sym, ◌∙◌, ap, subst, arith}
use Rattle.std.proofs.lemmas.Bool.{or_from}
use Rattle.std.proofs.lemmas.Bool.Decides.{Decides-eqb}
use Rattle.gem_tables.specs.Table.{is_one_of}
use Rattle.carrier.specs.declared.carrier.Carrier.{Carrier}
use Rattle.carrier.specs.Carriers.{has_name, carrier_named, carrier_numbered, change_numbered, change_named, are_named_apart}
use Rattle.shop_floor.specs.Floor.{number_of}
use Rattle.shop_floor.specs.Valid.{RiseFrom}
use Rattle.shop_floor.proofs.Apart.{found_only, found_passes, named_so, has_its_name, IsOnly}
use Rattle.place_laws.specs.Picture.{of_one}
use Rattle.place_laws.proofs.Holding.{found_number, true_of_found}

-- ---- numbers

-- none of these has the next number
pub none_next : (first next : ℕ) (cs : List Carrier) → RiseFrom first next cs → is_one_of (map number_of cs) next ≡ false
none_next first next [] rising = refl
none_next first next (c ∷ cs) rising = or_from (c.number == next) _ (of (c.number == next) refl) (none_next (c.number + 1) next cs rising.1) where
  below : (from to : ℕ) (ds : List Carrier) → RiseFrom from to ds → from ≤ to
  below from to [] r = r
  below from to (d ∷ ds) r = let more = r.0 in let later = below (d.number + 1) to ds r.1 in omega (arith, more, later)

  of : (b : Bool) → (c.number == next) ≡ b → (c.number == next) ≡ false
  of true e = let same = (Decides-eqb c.number next).0 e in let later = below (c.number + 1) next cs rising.1 in absurd (omega (arith, same, later))
  of false e = e

-- ---- a change of the carrier of a number

module _ (n : ℕ) (change : Carrier → Carrier) (keeps : (c : Carrier) → (change c).number ≡ c.number) where
  pub numbers_kept : (cs : List Carrier) → map number_of (change_numbered n change cs) ≡ map number_of cs
  numbers_kept [] = refl
  numbers_kept (c ∷ cs) = of (c.number == n) (numbers_kept cs) where
    of : (b : Bool) → map number_of (change_numbered n change cs) ≡ map number_of cs → map number_of (if b then change c ∷ cs else c ∷ change_numbered n change cs) ≡ c.number ∷ map number_of cs
    of true rest = ap (λ (k : ℕ). k ∷ map number_of cs) (keeps c)
    of false rest = ap (λ (ks : List ℕ). c.number ∷ ks) rest

  found_there : (cs : List Carrier) → carrier_numbered n (change_numbered n change cs) ≡ option_map change (carrier_numbered n cs)
  found_there [] = refl
  found_there (c ∷ cs) = of (c.number == n) refl (found_there cs) where
    of : (b : Bool) → (c.number == n) ≡ b → carrier_numbered n (change_numbered n change cs) ≡ option_map change (carrier_numbered n cs) → carrier_numbered n (if b then change c ∷ cs else c ∷ change_numbered n change cs) ≡ option_map change (if b then Some c else carrier_numbered n cs)
    of true e rest = ap (λ (b : Bool). if b then Some (change c) else carrier_numbered n cs) (ap (λ (k : ℕ). k == n) (keeps c) ∙ e)
    of false e rest = ap (λ (b : Bool). if b then Some c else carrier_numbered n (change_numbered n change cs)) e ∙ rest

  found_else : (k : ℕ) → (k ≡ n → ⊥) → (cs : List Carrier) → carrier_numbered k (change_numbered n change cs) ≡ carrier_numbered k cs
  found_else k other [] = refl
  found_else k other (c ∷ cs) = of (c.number == n) refl (found_else k other cs) where
    missed : (c.number == n) ≡ true → (b : Bool) → (c.number == k) ≡ b → (if b then Some (change c) else carrier_numbered k cs) ≡ (if b then Some c else carrier_numbered k cs)
    missed e true f = absurd (other (sym ((Decides-eqb c.number k).0 f) ∙ (Decides-eqb c.number n).0 e))
    missed e false f = refl

    of : (b : Bool) → (c.number == n) ≡ b → carrier_numbered k (change_numbered n change cs) ≡ carrier_numbered k cs → carrier_numbered k (if b then change c ∷ cs else c ∷ change_numbered n change cs) ≡ carrier_numbered k (c ∷ cs)
    of true e rest = ap (λ (m : ℕ). if m == k then Some (change c) else carrier_numbered k cs) (keeps c) ∙ missed e (c.number == k) refl
    of false e rest = ap (λ (o : Option Carrier). if c.number == k then Some c else o) rest

  -- what is said of the carrier of a number behind the change of one that is there
  pub says_changed : {B : Type 0} (else_ : B) (says : Carrier → B) (c : Carrier) (k : ℕ) (cs : List Carrier) → carrier_numbered n cs ≡ Some c → of_one else_ says (carrier_numbered k (change_numbered n change cs)) ≡ (if k == n then says (change c) else of_one else_ says (carrier_numbered k cs))
  says_changed else_ says c k cs there = of (k == n) refl where
    of : (b : Bool) → (k == n) ≡ b → of_one else_ says (carrier_numbered k (change_numbered n change cs)) ≡ (if b then says (change c) else of_one else_ says (carrier_numbered k cs))
    of true e =
        subst (λ (m : ℕ). of_one else_ says (carrier_numbered m (change_numbered n change cs)) ≡ says (change c)) (sym ((Decides-eqb k n).0 e))
        (ap (of_one else_ says) (found_there cs ∙ ap (option_map change) there))
    of false e = ap (of_one else_ says) (found_else k (λ is. let t = (Decides-eqb k n).1 is in absurd (let clash : true ≡ false = sym t ∙ e in cc)) cs)

  -- where the change leaves what is said
  pub says_kept : {B : Type 0} (else_ : B) (says : Carrier → B) → ((c : Carrier) → says (change c) ≡ says c) → (k : ℕ) (cs : List Carrier) → of_one else_ says (carrier_numbered k (change_numbered n change cs)) ≡ of_one else_ says (carrier_numbered k cs)
  says_kept else_ says same k [] = refl
  says_kept else_ says same k (c ∷ cs) = of (c.number == n) (c.number == k) refl (says_kept else_ says same k cs) where
    of : (here there : Bool) → (c.number == k) ≡ there → of_one else_ says (carrier_numbered k (change_numbered n change cs)) ≡ of_one else_ says (carrier_numbered k cs) → of_one else_ says (carrier_numbered k (if here then change c ∷ cs else c ∷ change_numbered n change cs)) ≡ of_one else_ says (if there then Some c else carrier_numbered k cs)
    of true true e rest = ap (λ (b : Bool). of_one else_ says (if b then Some (change c) else carrier_numbered k cs)) (ap (λ (m : ℕ). m == k) (keeps c) ∙ e) ∙ same c
    of true false e rest = ap (λ (b : Bool). of_one else_ says (if b then Some (change c) else carrier_numbered k cs)) (ap (λ (m : ℕ). m == k) (keeps c) ∙ e)
    of false true e rest = ap (λ (b : Bool). of_one else_ says (if b then Some c else carrier_numbered k (change_numbered n change cs))) e
    of false false e rest = ap (λ (b : Bool). of_one else_ says (if b then Some c else carrier_numbered k (change_numbered n change cs))) e ∙ rest

-- ---- a change of the carrier of a name

module _ (name : List ℕ) (change : Carrier → Carrier) (keeps : (c : Carrier) → (change c).number ≡ c.number) where
  -- a carrier behind it
  abbrev now : Carrier → Carrier
  now c = if has_name name c then change c else c

  number_now : (c : Carrier) → (now c).number ≡ c.number
  number_now c = of (has_name name c) where
    of : (b : Bool) → (if b then change c else c).number ≡ c.number
    of true = keeps c
    of false = refl

  pub numbers_named : (cs : List Carrier) → map number_of (change_named name change cs) ≡ map number_of cs
  numbers_named [] = refl
  numbers_named (c ∷ cs) = ap (λ (k : ℕ). k ∷ map number_of (change_named name change cs)) (number_now c) ∙ ap (λ (ks : List ℕ). c.number ∷ ks) (numbers_named cs)

  found_now : (k : ℕ) (cs : List Carrier) → carrier_numbered k (change_named name change cs) ≡ option_map now (carrier_numbered k cs)
  found_now k [] = refl
  found_now k (c ∷ cs) = ap (λ (m : ℕ). if m == k then Some (now c) else carrier_numbered k (change_named name change cs)) (number_now c) ∙ of (c.number == k) (found_now k cs) where
    of : (b : Bool) → carrier_numbered k (change_named name change cs) ≡ option_map now (carrier_numbered k cs) → (if b then Some (now c) else carrier_numbered k (change_named name change cs)) ≡ option_map now (if b then Some c else carrier_numbered k cs)
    of true rest = refl
    of false rest = rest

  said_now : {B : Type 0} (else_ : B) (says : Carrier → B) (o : Option Carrier) → of_one else_ says (option_map now o) ≡ of_one else_ (λ c. says (now c)) o
  said_now else_ says None = refl
  said_now else_ says (Some c) = refl

  -- where the change leaves what is said
  pub says_named_same : {B : Type 0} (else_ : B) (says : Carrier → B) → ((c : Carrier) → says (change c) ≡ says c) → (k : ℕ) (cs : List Carrier) → of_one else_ says (carrier_numbered k (change_named name change cs)) ≡ of_one else_ says (carrier_numbered k cs)
  says_named_same else_ says same k cs = ap (of_one else_ says) (found_now k cs) ∙ said_now else_ says (carrier_numbered k cs) ∙ of (carrier_numbered k cs) where
    one : (c : Carrier) (b : Bool) → says (if b then change c else c) ≡ says c
    one c true = same c
    one c false = refl

    of : (o : Option Carrier) → of_one else_ (λ c. says (now c)) o ≡ of_one else_ says o
    of None = refl
    of (Some c) = one c (has_name name c)

  -- what is said of the carrier of a number, where the carrier of the name is there
  pub says_named : {B : Type 0} (else_ : B) (says : Carrier → B) (d : Carrier) (k : ℕ) (cs : List Carrier) → are_named_apart cs ≡ true → carrier_named name cs ≡ Some d → carrier_numbered d.number cs ≡ Some d
      → of_one else_ says (carrier_numbered k (change_named name change cs)) ≡ (if k == d.number then says (change d) else of_one else_ says (carrier_numbered k cs))
  says_named else_ says d k cs apart named own = ap (of_one else_ says) (found_now k cs) ∙ said_now else_ says (carrier_numbered k cs) ∙ of (carrier_numbered k cs) refl (k == d.number) refl where
    has : has_name name d ≡ true
    has = found_passes (has_name name) cs d named

    of : (o : Option Carrier) → carrier_numbered k cs ≡ o → (b : Bool) → (k == d.number) ≡ b → of_one else_ (λ c. says (now c)) o ≡ (if b then says (change d) else of_one else_ says o)
    of o found true e =
        let same : k ≡ d.number = (Decides-eqb k d.number).0 e in
        let is : o ≡ Some d = sym found ∙ ap (λ (m : ℕ). carrier_numbered m cs) same ∙ own in
        ap (of_one else_ (λ c. says (now c))) is ∙ ap (λ (b : Bool). says (if b then change d else d)) has
    of None found false e = refl
    of (Some c) found false e = ap (λ (b : Bool). says (if b then change c else c)) (other (has_name name c) refl) where
      other : (b : Bool) → has_name name c ≡ b → has_name name c ≡ false
      other true t =
          let only = found_only (has_name name) cs d apart named in
          let one : c ≡ d = true_of_found (λ (x : Carrier). x.number) k (IsOnly d) cs c only found (has_its_name d.name c (named_so name c t ∙ sym (named_so name d has))) in
          let number : k ≡ d.number = sym (found_number (λ (x : Carrier). x.number) k cs c found) ∙ ap (λ (x : Carrier). x.number) one in
          let yes_is = (Decides-eqb k d.number).1 number in
          absurd (let clash : true ≡ false = sym yes_is ∙ e in cc)
      other false t = t
