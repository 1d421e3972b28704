-- The numbers of the carriers, and changes of the one of a number.
use Rattle.std.proofs.Common.{◌≡◌, ℕ, ◌+◌, ◌==◌, ◌≤◌, Bool, true, false, not, List, [], ◌∷◌, cond, Some, is_some, refl, sym, ap, subst, arith, ◌∙◌}
use Rattle.std.specs.Prelude.{if◌then◌else◌}
use Rattle.std.specs.List.{AllByRecursion}
use Rattle.std.proofs.lemmas.Bool.{cond_both}
use Rattle.carrier.specs.declared.carrier.Carrier.{Carrier}
use Rattle.carrier.specs.Carriers.{has_name, is_known, carrier_numbered, change_numbered, change_named, without, with_created, found_or_created, next_number, are_named_apart, absent_count}
use Rattle.shop_floor.specs.Valid.{RiseFrom}
use Rattle.shop_floor.proofs.Apart.{absent_cons}

-- ---- they rise

rise_earlier : (first later next : ℕ) (cs : List Carrier) → first ≤ later → RiseFrom later next cs → RiseFrom first next cs
rise_earlier first later next [] l r = omega (arith, l, r)
rise_earlier first later next (c ∷ cs) l r = (omega (arith, l, r.0), r.1)

pub rise_changed : (first next : ℕ) (name : List ℕ) (change : Carrier → Carrier) (cs : List Carrier) → ((c : Carrier) → (change c).number ≡ c.number) → RiseFrom first next cs → RiseFrom first next (change_named name change cs)
rise_changed first next name change [] same r = r
rise_changed first next name change (c ∷ cs) same r =
    let head : (if has_name name c then change c else c).number ≡ c.number = cond_both (has_name name c) _ _ (λ (d : Carrier). d.number ≡ c.number) (λ t. same c) (λ t. refl) in
    let later = rise_changed (c.number + 1) next name change cs same r.1 in
    (subst (λ (n : ℕ). first ≤ n) (sym head) r.0, subst (λ (n : ℕ). RiseFrom (n + 1) next (change_named name change cs)) (sym head) later)

pub rise_without : (first next : ℕ) (name : List ℕ) (cs : List Carrier) → RiseFrom first next cs → RiseFrom first next (without name cs)
rise_without first next name [] r = r
rise_without first next name (c ∷ cs) r =
    let later = rise_without (c.number + 1) next name cs r.1 in
    cond_both (not (has_name name c)) _ _ (RiseFrom first next) (λ t. (r.0, later)) (λ t. rise_earlier first (c.number + 1) next (without name cs) (omega (arith, r.0)) later)

pub rise_created : (first next : ℕ) (name : List ℕ) (cs : List Carrier) → RiseFrom first next cs → RiseFrom first (next + 1) (with_created next name cs)
rise_created first next name [] r = (r, omega arith)
rise_created first next name (c ∷ cs) r = (r.0, rise_created (c.number + 1) next name cs r.1)

pub rise_found : (first next : ℕ) (name : List ℕ) (cs : List Carrier) → RiseFrom first next cs → RiseFrom first (next_number next name cs) (found_or_created next name cs)
rise_found first next name cs r = of (is_known name cs) where
  of : (b : Bool) → RiseFrom first (cond b next (next + 1)) (cond b cs (with_created next name cs))
  of true = r
  of false = rise_created first next name cs r

-- ---- a change of one

-- the change leaves its number, its name, its port, and whether it is present or bound
pub record LeavesCarrier (change : Carrier → Carrier) : Type 0 where
  pub number : (c : Carrier) → (change c).number ≡ c.number
  pub name : (c : Carrier) → (change c).name ≡ c.name
  pub port : (c : Carrier) → (change c).port ≡ c.port
  pub present : (c : Carrier) → (change c).present ≡ c.present
  pub bound : (c : Carrier) → (change c).bound ≡ c.bound

pub rise_numbered : (first next n : ℕ) (change : Carrier → Carrier) (cs : List Carrier) → LeavesCarrier change → RiseFrom first next cs → RiseFrom first next (change_numbered n change cs)
rise_numbered first next n change [] leaves r = r
rise_numbered first next n change (c ∷ cs) leaves r =
    cond_both (c.number == n) _ _ (RiseFrom first next)
    (λ t. (subst (λ (m : ℕ). first ≤ m) (sym (leaves.number c)) r.0, subst (λ (m : ℕ). RiseFrom (m + 1) next cs) (sym (leaves.number c)) r.1))
    (λ t. (r.0, rise_numbered (c.number + 1) next n change cs leaves r.1))

known_numbered : (name : List ℕ) (n : ℕ) (change : Carrier → Carrier) (cs : List Carrier) → LeavesCarrier change → is_known name (change_numbered n change cs) ≡ is_known name cs
known_numbered name n change [] leaves = refl
known_numbered name n change (c ∷ cs) leaves =
    cond_both (c.number == n) _ _ (λ ds. is_known name ds ≡ is_known name (c ∷ cs))
    (λ t. rw (leaves.name c) refl) (λ t. rw (known_numbered name n change cs leaves) refl)

pub apart_numbered : (n : ℕ) (change : Carrier → Carrier) (cs : List Carrier) → LeavesCarrier change → are_named_apart (change_numbered n change cs) ≡ are_named_apart cs
apart_numbered n change [] leaves = refl
apart_numbered n change (c ∷ cs) leaves =
    cond_both (c.number == n) _ _ (λ ds. are_named_apart ds ≡ are_named_apart (c ∷ cs))
    (λ t. rw (leaves.name c) refl) (λ t. rw (known_numbered c.name n change cs leaves, apart_numbered n change cs leaves) refl)

pub absent_numbered : (n : ℕ) (change : Carrier → Carrier) (cs : List Carrier) → LeavesCarrier change → absent_count (change_numbered n change cs) ≡ absent_count cs
absent_numbered n change [] leaves = refl
absent_numbered n change (c ∷ cs) leaves =
    cond_both (c.number == n) _ _ (λ ds. absent_count ds ≡ absent_count (c ∷ cs))
    (λ t. absent_cons (change c) cs ∙ rw (leaves.present c) (sym (absent_cons c cs)))
    (λ t. absent_cons c (change_numbered n change cs) ∙ rw (absent_numbered n change cs leaves) (sym (absent_cons c cs)))

pub all_numbered : (P : Carrier → Type 0) (n : ℕ) (change : Carrier → Carrier) (cs : List Carrier) → ((c : Carrier) → P c → P (change c)) → AllByRecursion P cs → AllByRecursion P (change_numbered n change cs)
all_numbered P n change [] f p = tt
all_numbered P n change (c ∷ cs) f p =
    cond_both (c.number == n) _ _ (AllByRecursion P) (λ t. (f c p.0, p.1)) (λ t. (p.0, all_numbered P n change cs f p.1))

-- also where only the changed one is known to go on so
pub all_at_number : (P : Carrier → Type 0) (n : ℕ) (change : Carrier → Carrier) (cs : List Carrier) → ((c : Carrier) → carrier_numbered n cs ≡ Some c → P c → P (change c)) → AllByRecursion P cs → AllByRecursion P (change_numbered n change cs)
all_at_number P n change [] f p = tt
all_at_number P n change (c ∷ cs) f p = of (c.number == n) f (all_at_number P n change cs) where
  of : (b : Bool) → ((d : Carrier) → cond b (Some c) (carrier_numbered n cs) ≡ Some d → P d → P (change d))
      → (((d : Carrier) → carrier_numbered n cs ≡ Some d → P d → P (change d)) → AllByRecursion P cs → AllByRecursion P (change_numbered n change cs))
      → AllByRecursion P (cond b (change c ∷ cs) (c ∷ change_numbered n change cs))
  of true g later = (g c refl p.0, p.1)
  of false g later = (p.0, later g p.1)

-- a change that changes nothing
pub numbered_same : (n : ℕ) (cs : List Carrier) → change_numbered n (λ c. c) cs ≡ cs
numbered_same n [] = refl
numbered_same n (c ∷ cs) =
    cond_both (c.number == n) _ _ (λ ds. ds ≡ c ∷ cs) (λ t. refl) (λ t. ap (λ ds. c ∷ ds) (numbered_same n cs))

-- ---- one that was created

-- it is found by its number
pub created_found : (n : ℕ) (name : List ℕ) (cs : List Carrier) → (n == n) ≡ true → is_some (carrier_numbered n (with_created n name cs)) ≡ true
created_found n name [] own = rw own refl
created_found n name (c ∷ cs) own = of (c.number == n) (created_found n name cs own) where
  of : (b : Bool) → is_some (carrier_numbered n (with_created n name cs)) ≡ true → is_some (cond b (Some c) (carrier_numbered n (with_created n name cs))) ≡ true
  of true later = refl
  of false later = later

-- and so behind a change of the one of a name
pub still_found : (n : ℕ) (name : List ℕ) (change : Carrier → Carrier) (cs : List Carrier) → ((c : Carrier) → (change c).number ≡ c.number) → is_some (carrier_numbered n (change_named name change cs)) ≡ is_some (carrier_numbered n cs)
still_found n name change [] same = refl
still_found n name change (c ∷ cs) same =
    let head : (if has_name name c then change c else c).number ≡ c.number = cond_both (has_name name c) _ _ (λ (d : Carrier). d.number ≡ c.number) (λ t. same c) (λ t. refl) in
    rw head (of (c.number == n) (still_found n name change cs same)) where
      of : (b : Bool) → is_some (carrier_numbered n (change_named name change cs)) ≡ is_some (carrier_numbered n cs)
          → is_some (cond b (Some (if has_name name c then change c else c)) (carrier_numbered n (change_named name change cs))) ≡ is_some (cond b (Some c) (carrier_numbered n cs))
      of true later = refl
      of false later = later
