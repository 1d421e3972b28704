-- What a scan for the first ready row finds.
use Rattle.std.proofs.Common.{◌≡◌, ℕ, zero, suc, ◌+◌, ◌==◌, ◌<◌, ◌≤◌, true, false, List, [], ◌∷◌, length, map, drop, Option, Some, None, slice_get, refl, ap, subst, ◌∙◌, arith}
use Rattle.std.proofs.lemmas.Bool.Decides.{nat_tests}
use Rattle.gem_tables.specs.Table.{firing}
use Rattle.gem_tables.specs.Machine.{first_ready}
use Rattle.load_port.specs.declared.port.Port.{Port}
use Rattle.carrier.specs.declared.carrier.Carrier.{Carrier}
use Rattle.carrier.specs.Carriers.{carrier_numbered}
use Rattle.records.proofs.Scans.{drop_here, drop_past, drop_end}
use Rattle.shop_floor.specs.Floor.{numbers_from, number_of}
use Rattle.shop_floor.specs.Valid.{RiseFrom}

-- ---- the first object at which a row is ready

module _ (table : ℕ) (ready : ℕ → Option ℕ) (objects : List ℕ) (place : ℕ) where
  pub ready_here : (object row : ℕ) → slice_get objects place ≡ Some object → ready object ≡ Some row → first_ready table ready (drop place objects) ≡ Some (firing table object row)
  ready_here object row e r = rw (drop_here objects place object e, r) refl

  pub ready_next : (object : ℕ) → slice_get objects place ≡ Some object → ready object ≡ None → first_ready table ready (drop place objects) ≡ first_ready table ready (drop (place + 1) objects)
  ready_next object e r = rw (drop_here objects place object e, r) refl

  pub ready_past : slice_get objects place ≡ None → first_ready table ready (drop place objects) ≡ first_ready table ready (drop (place + 1) objects)
  ready_past e = ap (first_ready table ready) (drop_past objects place e)

  pub ready_end : length objects ≤ place → first_ready table ready (drop place objects) ≡ None
  ready_end l = ap (first_ready table ready) (drop_end objects place l)

-- ---- the numbers of the ports

numbers_get : (n : ℕ) (ps : List Port) (place : ℕ) → place < length ps → slice_get (numbers_from n ps) place ≡ Some (n + place)
numbers_get n [] place l = absurd (omega arith)
numbers_get n (p ∷ ps) zero l = ap (λ (m : ℕ). Some m) (omega arith)
numbers_get n (p ∷ ps) (suc place) l = numbers_get (n + 1) ps place (omega arith) ∙ ap (λ (m : ℕ). Some m) (omega arith)

pub number_at : (ps : List Port) (place number : ℕ) → place < length ps → number ≡ place + 1 → slice_get (numbers_from 1 ps) place ≡ Some number
number_at ps place number l e = numbers_get 1 ps place l ∙ ap (λ (m : ℕ). Some m) (omega (arith, e))

numbers_count : (n : ℕ) (ps : List Port) → length (numbers_from n ps) ≡ length ps
numbers_count n [] = refl
numbers_count n (p ∷ ps) = ap suc (numbers_count (n + 1) ps)

pub numbers_length : (ps : List Port) → length (numbers_from 1 ps) ≡ length ps
numbers_length ps = numbers_count 1 ps

-- ---- the numbers of the carriers

pub carrier_number : (cs : List Carrier) (place : ℕ) (c : Carrier) → slice_get cs place ≡ Some c → slice_get (map number_of cs) place ≡ Some c.number
carrier_number [] place c e = absurd (cc)
carrier_number (d ∷ ds) zero c e = let same : d ≡ c = cc in ap (λ (x : Carrier). Some x.number) same
carrier_number (d ∷ ds) (suc place) c e = carrier_number ds place c e

pub no_carrier : (cs : List Carrier) (place : ℕ) → slice_get cs place ≡ None → slice_get (map number_of cs) place ≡ None
no_carrier [] place e = refl
no_carrier (d ∷ ds) zero e = absurd (cc)
no_carrier (d ∷ ds) (suc place) e = no_carrier ds place e

pub carrier_numbers : (cs : List Carrier) → length (map number_of cs) ≡ length cs
carrier_numbers [] = refl
carrier_numbers (c ∷ cs) = ap suc (carrier_numbers cs)

-- the number of a carrier is at least the first
rises_to : (first next : ℕ) (cs : List Carrier) (place : ℕ) (c : Carrier) → RiseFrom first next cs → slice_get cs place ≡ Some c → first ≤ c.number
rises_to first next [] place c rise e = absurd (cc)
rises_to first next (d ∷ ds) zero c rise e = let same : d ≡ c = cc in subst (λ (x : Carrier). first ≤ x.number) same rise.0
rises_to first next (d ∷ ds) (suc place) c rise e =
    let later = rises_to (d.number + 1) next ds place c rise.1 e in
    omega (arith, later, rise.0)

-- the carrier at a place is that of its number
pub numbered_at : (first next : ℕ) (cs : List Carrier) (place : ℕ) (c : Carrier) → RiseFrom first next cs → slice_get cs place ≡ Some c → carrier_numbered c.number cs ≡ Some c
numbered_at first next [] place c rise e = absurd (cc)
numbered_at first next (d ∷ ds) zero c rise e =
    let same : d ≡ c = cc in
    subst (λ (x : Carrier). carrier_numbered x.number (d ∷ ds) ≡ Some x) same (rw (own d.number) refl) where
      own : (n : ℕ) → (n == n) ≡ true
      own n = grind (arith, nat_tests)
numbered_at first next (d ∷ ds) (suc place) c rise e =
    let later = rises_to (d.number + 1) next ds place c rise.1 e in
    let other : (d.number == c.number) ≡ false = grind (arith, nat_tests) in
    rw other (numbered_at (d.number + 1) next ds place c rise.1 e)
