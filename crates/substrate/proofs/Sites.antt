-- Locations of a tool, and where they stand on the board.
use Rattle.std.proofs.Common.{◌≡◌, ℕ, ◌==◌, ◌<◌, ◌≤◌, nat_le, true, true≢false, ◌&&◌, refl, sym, ap, ◌∙◌, arith}
use Rattle.std.proofs.lemmas.Bool.Decides.{nat_tests, Decides-eqb}
use Rattle.gem_ids.specs.declared.numbers.LocId.{LocId}
use Rattle.gem_ids.specs.declared.numbers.LocId.TheVariants.{Slot, Aligner, Arm, Chamber}
use Rattle.gem_ids.specs.declared.numbers.PortNo.{PortNo}
use Rattle.gem_ids.specs.declared.numbers.SlotNo.{SlotNo}
use Rattle.substrate.specs.Locations.{is_same, is_location}
use Rattle.substrate.specs.Board.{spot_of, spot_count}
use Rattle.records.proofs.Truth.{and_true}

-- ---- one place

equal : (m n : ℕ) → (m == n) ≡ true → m ≡ n
equal m n h = (Decides-eqb m n).0 h

same_number : (n : ℕ) → (n == n) ≡ true
same_number n = (Decides-eqb n n).1 refl

turned_number : (m n : ℕ) → (m == n) ≡ (n == m)
turned_number m n = grind (arith, nat_tests)

-- names of the same place are equal
pub same_is : (l m : LocId) → is_same l m ≡ true → l ≡ m
same_is (Slot p k) (Slot q m) h =
    let parts = and_true (p.0 == q.0) (k.0 == m.0) h in
    let ports : p ≡ q = ap (λ (n : ℕ). record { 0 = n }) (equal p.0 q.0 parts.0) in
    let slots : k ≡ m = ap (λ (n : ℕ). record { 0 = n }) (equal k.0 m.0 parts.1) in
    ap (λ (x : PortNo). Slot x k) ports ∙ ap (λ (y : SlotNo). Slot q y) slots
same_is Aligner Aligner h = refl
same_is Arm Arm h = refl
same_is (Chamber c) (Chamber d) h = ap (λ (n : ℕ). Chamber n) (equal c d h)
same_is (Slot p k) Aligner h = absurd (true≢false (sym h))
same_is (Slot p k) Arm h = absurd (true≢false (sym h))
same_is (Slot p k) (Chamber d) h = absurd (true≢false (sym h))
same_is Aligner (Slot q m) h = absurd (true≢false (sym h))
same_is Aligner Arm h = absurd (true≢false (sym h))
same_is Aligner (Chamber d) h = absurd (true≢false (sym h))
same_is Arm (Slot q m) h = absurd (true≢false (sym h))
same_is Arm Aligner h = absurd (true≢false (sym h))
same_is Arm (Chamber d) h = absurd (true≢false (sym h))
same_is (Chamber c) (Slot q m) h = absurd (true≢false (sym h))
same_is (Chamber c) Aligner h = absurd (true≢false (sym h))
same_is (Chamber c) Arm h = absurd (true≢false (sym h))

-- a place is its own
pub own_place : (l : LocId) → is_same l l ≡ true
own_place (Slot p k) = rw (same_number p.0, same_number k.0) refl
own_place Aligner = refl
own_place Arm = refl
own_place (Chamber c) = same_number c

-- of two places either may come first
pub turned_place : (l m : LocId) → is_same l m ≡ is_same m l
turned_place (Slot p k) (Slot q m) = rw (turned_number p.0 q.0, turned_number k.0 m.0) refl
turned_place Aligner Aligner = refl
turned_place Arm Arm = refl
turned_place (Chamber c) (Chamber d) = turned_number c d
turned_place (Slot p k) Aligner = refl
turned_place (Slot p k) Arm = refl
turned_place (Slot p k) (Chamber d) = refl
turned_place Aligner (Slot q m) = refl
turned_place Aligner Arm = refl
turned_place Aligner (Chamber d) = refl
turned_place Arm (Slot q m) = refl
turned_place Arm Aligner = refl
turned_place Arm (Chamber d) = refl
turned_place (Chamber c) (Slot q m) = refl
turned_place (Chamber c) Aligner = refl
turned_place (Chamber c) Arm = refl

-- ---- the board

-- a number within bounds
within : (least most n : ℕ) → (nat_le least n && nat_le n most) ≡ true → (least ≤ n) × (n ≤ most)
within least most n h =
    let parts = and_true (nat_le least n) (nat_le n most) h in
    (grind (arith, nat_tests), grind (arith, nat_tests))

-- what is known of a slot of the tool
pub slot_within : (ports p k : ℕ) → ((nat_le 1 p && nat_le p ports) && (nat_le 1 k && nat_le k 25)) ≡ true → (1 ≤ p) × (p ≤ ports) × (1 ≤ k) × (k ≤ 25)
slot_within ports p k h =
    let parts = and_true (nat_le 1 p && nat_le p ports) (nat_le 1 k && nat_le k 25) h in
    let port = within 1 ports p parts.0 in
    let slot = within 1 25 k parts.1 in
    (port.0, port.1, slot.0, slot.1)

-- two places of the tool that stand at one spot of the board are the same
pub same_spot : (ports chambers : ℕ) (l m : LocId) → is_location ports chambers l ≡ true → is_location ports chambers m ≡ true → spot_of ports l ≡ spot_of ports m → is_same l m ≡ true
same_spot ports chambers (Slot p k) (Slot q m) hl hm e =
    let left = slot_within ports p.0 k.0 hl in
    let right = slot_within ports q.0 m.0 hm in
    let same_port : p.0 ≡ q.0 = omega (arith, left, right, e) in
    let same_slot : k.0 ≡ m.0 = omega (arith, left, right, e) in
    rw (same_port, same_slot, same_number q.0, same_number m.0) refl
same_spot ports chambers Aligner Aligner hl hm e = refl
same_spot ports chambers Arm Arm hl hm e = refl
same_spot ports chambers (Chamber c) (Chamber d) hl hm e =
    let same : c ≡ d = omega (arith, e) in
    rw (same, same_number d) refl
same_spot ports chambers (Slot p k) Aligner hl hm e = let left = slot_within ports p.0 k.0 hl in absurd (omega (arith, left, e))
same_spot ports chambers (Slot p k) Arm hl hm e = let left = slot_within ports p.0 k.0 hl in absurd (omega (arith, left, e))
same_spot ports chambers (Slot p k) (Chamber d) hl hm e = let left = slot_within ports p.0 k.0 hl in absurd (omega (arith, left, e))
same_spot ports chambers Aligner (Slot q m) hl hm e = let right = slot_within ports q.0 m.0 hm in absurd (omega (arith, right, e))
same_spot ports chambers Aligner Arm hl hm e = absurd (omega (arith, e))
same_spot ports chambers Aligner (Chamber d) hl hm e = absurd (omega (arith, e))
same_spot ports chambers Arm (Slot q m) hl hm e = let right = slot_within ports q.0 m.0 hm in absurd (omega (arith, right, e))
same_spot ports chambers Arm Aligner hl hm e = absurd (omega (arith, e))
same_spot ports chambers Arm (Chamber d) hl hm e = let right = within 1 chambers d hm in absurd (omega (arith, right, e))
same_spot ports chambers (Chamber c) (Slot q m) hl hm e = let right = slot_within ports q.0 m.0 hm in absurd (omega (arith, right, e))
same_spot ports chambers (Chamber c) Aligner hl hm e = absurd (omega (arith, e))
same_spot ports chambers (Chamber c) Arm hl hm e = let left = within 1 chambers c hl in absurd (omega (arith, left, e))

-- each place of the tool stands on the board
pub spot_within : (ports chambers : ℕ) (l : LocId) → is_location ports chambers l ≡ true → spot_of ports l < spot_count ports chambers
spot_within ports chambers (Slot p k) h = let inside = slot_within ports p.0 k.0 h in omega (arith, inside)
spot_within ports chambers Aligner h = omega arith
spot_within ports chambers Arm h = omega arith
spot_within ports chambers (Chamber c) h = let inside = within 1 chambers c h in omega (arith, inside)
