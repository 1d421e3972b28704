-- What a scan over the locations or the substrates finds.
use Rattle.std.proofs.Common.{Bor, option_map, ◌≡◌, ℕ, zero, suc, ◌+◌, ◌-◌, ◌==◌, ◌<◌, ◌≤◌, Bool, true, false, if◌then◌else◌, filter, List, [], ◌∷◌, ◌++◌, length, map, drop, set, get_or, Option, Some, None, Result, Ok, Err, IfOk, IfErr, slice_get, refl, sym, ap, subst, ◌∙◌, arith}
use Rattle.std.specs.List.{list_all}
use Rattle.std.proofs.lemmas.Bool.Decides.{nat_tests}
use Rattle.load_port.proofs.Places.{update_found, update_missing, update_none, update_set}
use Rattle.records.proofs.Scans.{drop_here, drop_past}
use Rattle.substrate.specs.declared.record.LocationRecord.{LocationRecord}
use Rattle.floor_model.specs.declared.tracked.Substrate.{Substrate}
use Rattle.floor_model.specs.Floor.{location_at, change_location, location_numbers, substrate_numbered, change_numbered, number_of}
use Rattle.floor_model.specs.Floor.{RiseTo}

-- what is at a place of a list
pub got_at : {X : Type 0} (xs : List X) (place : ℕ) (x : X) → place < length xs → x ≡ get_or xs place x → slice_get xs place ≡ Some x
got_at [] place x l e = absurd (omega (arith, l))
got_at (y ∷ ys) zero x l e = ap (λ z. Some z) (sym e)
got_at (y ∷ ys) (suc place) x l e = got_at ys place x (omega (arith, l)) e

-- what is shown at a place by a reference
pub shown : {X : Type 0} {o p : Option (Bor X)} {got : Option X} → option_map (λ (b : Bor X). b.now) o ≡ got → o ≡ p → got ≡ option_map (λ (b : Bor X). b.now) p
shown e is = sym e ∙ ap (option_map (λ b. b.now)) is

-- ---- whether all pass a test

module _ {X : Type 0} (test : X → Bool) (xs : List X) (place : ℕ) where
  pub all_here : (x : X) → slice_get xs place ≡ Some x → test x ≡ false → list_all test (drop place xs) ≡ false
  all_here x e t = rw (drop_here xs place x e, t) refl

  pub all_next : (x : X) → slice_get xs place ≡ Some x → test x ≡ true → list_all test (drop place xs) ≡ list_all test (drop (place + 1) xs)
  all_next x e t = rw (drop_here xs place x e, t) refl

  pub all_past : slice_get xs place ≡ None → list_all test (drop place xs) ≡ list_all test (drop (place + 1) xs)
  all_past e = ap (λ ys. list_all test ys) (drop_past xs place e)

-- ---- the locations by their numbers

numbers_get : (n : ℕ) (ls : List LocationRecord) (place : ℕ) → place < length ls → slice_get (location_numbers n ls) place ≡ Some (n + place)
numbers_get n [] place l = absurd (omega arith)
numbers_get n (x ∷ xs) zero l = ap (λ (m : ℕ). Some m) (omega arith)
numbers_get n (x ∷ xs) (suc place) l = numbers_get (n + 1) xs place (omega arith) ∙ ap (λ (m : ℕ). Some m) (omega arith)

pub number_at : (ls : List LocationRecord) (place number : ℕ) → place < length ls → number ≡ place + 1 → slice_get (location_numbers 1 ls) place ≡ Some number
number_at ls place number l e = numbers_get 1 ls place l ∙ ap (λ (m : ℕ). Some m) (omega (arith, e))

numbers_count : (n : ℕ) (ls : List LocationRecord) → length (location_numbers n ls) ≡ length ls
numbers_count n [] = refl
numbers_count n (x ∷ xs) = ap suc (numbers_count (n + 1) xs)

pub numbers_length : (ls : List LocationRecord) → length (location_numbers 1 ls) ≡ length ls
numbers_length ls = numbers_count 1 ls

-- a location that is written
pub location_set : (number : ℕ) (ls : List LocationRecord) (new : LocationRecord) → 0 < number → number ≤ length ls → set ls (number - 1) new ≡ change_location number (λ _. new) ls
location_set zero ls new some within = absurd (omega (arith, some))
location_set (suc n) ls new some within =
    let place : suc n - 1 ≡ n = omega arith in
    rw place (update_set n ls new (omega (arith, within)))

-- a number that is that of none
pub location_past : (number : ℕ) (change : LocationRecord → LocationRecord) (ls : List LocationRecord) → length ls < number → change_location number change ls ≡ ls
location_past zero change ls past = absurd (omega (arith, past))
location_past (suc n) change ls past = update_none change n ls (omega (arith, past))

-- what the location becomes is all that counts of a change
pub location_found : (number : ℕ) (change : LocationRecord → LocationRecord) (ls : List LocationRecord) (found : LocationRecord) → location_at number ls ≡ Some found → change_location number (λ _. change found) ls ≡ change_location number change ls
location_found zero change ls found e = refl
location_found (suc n) change ls found e = update_found change n ls found e

pub location_missing : (number : ℕ) (change : LocationRecord → LocationRecord) (ls : List LocationRecord) → location_at number ls ≡ None → change_location number change ls ≡ ls
location_missing zero change ls e = refl
location_missing (suc n) change ls e = update_missing change n ls e

-- ---- the substrates by their numbers

pub substrate_number : (ss : List Substrate) (place : ℕ) (s : Substrate) → slice_get ss place ≡ Some s → slice_get (map number_of ss) place ≡ Some s.number
substrate_number [] place s e = absurd (cc)
substrate_number (t ∷ ts) zero s e = let same : t ≡ s = cc in ap (λ (x : Substrate). Some x.number) same
substrate_number (t ∷ ts) (suc place) s e = substrate_number ts place s e

pub no_substrate : (ss : List Substrate) (place : ℕ) → slice_get ss place ≡ None → slice_get (map number_of ss) place ≡ None
no_substrate [] place e = refl
no_substrate (t ∷ ts) zero e = absurd (cc)
no_substrate (t ∷ ts) (suc place) e = no_substrate ts place e

pub substrate_numbers : (ss : List Substrate) → length (map number_of ss) ≡ length ss
substrate_numbers [] = refl
substrate_numbers (s ∷ ss) = ap suc (substrate_numbers ss)

-- the number of a substrate is over the last one before
pub rises_to : (last given : ℕ) (ss : List Substrate) (place : ℕ) (s : Substrate) → RiseTo last given ss → slice_get ss place ≡ Some s → last + 1 ≤ s.number
rises_to last given [] place s rise e = absurd (cc)
rises_to last given (t ∷ ts) zero s rise e = let same : t ≡ s = cc in subst (λ (x : Substrate). last + 1 ≤ x.number) same rise.0
rises_to last given (t ∷ ts) (suc place) s rise e =
    let later = rises_to t.number given ts place s rise.1 e in
    omega (arith, later, rise.0)

-- the substrate at a place is that of its number
pub numbered_at : (last given : ℕ) (ss : List Substrate) (place : ℕ) (s : Substrate) → RiseTo last given ss → slice_get ss place ≡ Some s → substrate_numbered s.number ss ≡ Some s
numbered_at last given [] place s rise e = absurd (cc)
numbered_at last given (t ∷ ts) zero s rise e =
    let same : t ≡ s = cc in
    subst (λ (x : Substrate). substrate_numbered x.number (t ∷ ts) ≡ Some x) same (rw (own t.number) refl) where
      own : (n : ℕ) → (n == n) ≡ true
      own n = grind (arith, nat_tests)
numbered_at last given (t ∷ ts) (suc place) s rise e =
    let later = rises_to t.number given ts place s rise.1 e in
    let other : (t.number == s.number) ≡ false = grind (arith, nat_tests) in
    rw other (numbered_at t.number given ts place s rise.1 e)

-- ---- the numbers rise

rise_earlier : (last later given : ℕ) (ss : List Substrate) → last ≤ later → RiseTo later given ss → RiseTo last given ss
rise_earlier last later given [] l r = omega (arith, l, r)
rise_earlier last later given (s ∷ ss) l r = (omega (arith, l, r.0), r.1)

-- one more with the next number
pub rise_more : (last given : ℕ) (ss : List Substrate) (s : Substrate) → RiseTo last given ss → s.number ≡ given + 1 → RiseTo last (given + 1) (ss ++ s ∷ [])
rise_more last given [] s r is = (omega (arith, r, is), omega (arith, is))
rise_more last given (t ∷ ts) s r is = (r.0, rise_more t.number given ts s r.1 is)

-- a change that leaves the numbers
pub rise_changed : (last given n : ℕ) (change : Substrate → Substrate) (ss : List Substrate) → ((s : Substrate) → (change s).number ≡ s.number) → RiseTo last given ss → RiseTo last given (change_numbered n change ss)
rise_changed last given n change [] same r = r
rise_changed last given n change (s ∷ ss) same r = of (s.number == n) (rise_changed s.number given n change ss same r.1) where
  of : (b : Bool) → RiseTo s.number given (change_numbered n change ss) → RiseTo last given (if b then change s ∷ ss else s ∷ change_numbered n change ss)
  of true later = (subst (λ (m : ℕ). last + 1 ≤ m) (sym (same s)) r.0, subst (λ (m : ℕ). RiseTo m given ss) (sym (same s)) r.1)
  of false later = (r.0, later)

-- more were given
pub rise_mapped : (last given : ℕ) (change : Substrate → Substrate) (ss : List Substrate) → ((s : Substrate) → (change s).number ≡ s.number) → RiseTo last given ss → RiseTo last given (map change ss)
rise_mapped last given change [] same r = r
rise_mapped last given change (s ∷ ss) same r =
    let number = same s in
    let first = r.0 in
    (omega (arith, number, first), subst (λ (n : ℕ). RiseTo n given (map change ss)) (sym number) (rise_mapped s.number given change ss same r.1))

pub rise_given : (last given more : ℕ) (ss : List Substrate) → given ≤ more → RiseTo last given ss → RiseTo last more ss
rise_given last given more [] l r = omega (arith, l, r)
rise_given last given more (s ∷ ss) l r = (r.0, rise_given s.number given more ss l r.1)

-- fewer
pub rise_kept : (last given : ℕ) (test : Substrate → Bool) (ss : List Substrate) → RiseTo last given ss → RiseTo last given (filter test ss)
rise_kept last given test [] r = r
rise_kept last given test (s ∷ ss) r = of (test s) (rise_kept s.number given test ss r.1) where
  of : (b : Bool) → RiseTo s.number given (filter test ss) → RiseTo last given (if b then s ∷ filter test ss else filter test ss)
  of true later = (r.0, later)
  of false later = rise_earlier last s.number given (filter test ss) (let first = r.0 in omega (arith, first)) later

-- what follows from either answer of a call holds
pub either_answer : {A E : Type 0} {P Q R : Type 0} (r : Result A E) → IfOk r (λ _. P) → IfErr r (λ _. Q) → (P → R) → (Q → R) → R
either_answer (Ok a) p q f g = f p
either_answer (Err e) p q f g = g q
