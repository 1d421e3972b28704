-- The numbers of the locations.
use Rattle.std.proofs.Common.{◌≡◌, ℕ, zero, suc, ◌+◌, ◌-◌, ◌*◌, ◌/◌, ◌%◌, ◌==◌, ◌<◌, ◌≤◌, nat_le, nat_lt, Bool, true, false, ◌||◌, List, [], ◌∷◌, Some, is_some, option_map, slice_get, refl, sym, ap, ◌∙◌, arith}
use Rattle.std.specs.Prelude.{if◌then◌else◌}
use Rattle.std.specs.List.{list_any, list_all}
use Rattle.std.proofs.lemmas.Bool.Decides.{nat_tests}
use Rattle.gem_ids.specs.declared.numbers.LocId.{LocId}
use Rattle.gem_ids.specs.declared.numbers.LocId.TheVariants.{Slot, Aligner, Arm, Chamber}
use Rattle.substrate.specs.Locations.{is_same, is_location, is_work_place}
use Rattle.substrate.specs.Board.{Spots, spot_of, spot_count, location_numbered, name_at}
use Rattle.substrate.specs.Places.{has_number, is_taken, stands_at, substrate_at, location_number}
use Rattle.substrate.specs.declared.registered.Registered.{Registered}
use Rattle.substrate.proofs.Sites.{same_is, same_spot, spot_within, slot_within}
use Rattle.records.proofs.Truth.{and_true, or_false}

-- what is known of the place of a number
pub record Stands (ports chambers number : ℕ) (loc : LocId) : Type 0 where
  pub inside : is_location ports chambers loc ≡ true
  pub spot : spot_of ports loc + 1 ≡ number

le : (m n : ℕ) → m ≤ n → nat_le m n ≡ true
le m n h = grind (arith, nat_tests)

slot_stands : (ports chambers n : ℕ) → n < ports * 25 → Stands ports chambers (suc n) (Slot (record { 0 = 1 + n / 25 }) (record { 0 = 1 + n % 25 }))
slot_stands ports chambers n h =
    let port : 1 + n / 25 ≤ ports = omega (arith, h) in
    let slot : 1 + n % 25 ≤ 25 = omega arith in
    let first : 1 ≤ 1 + n / 25 = omega arith in
    let least : 1 ≤ 1 + n % 25 = omega arith in
    record {
      inside = rw (le 1 (1 + n / 25) first, le (1 + n / 25) ports port, le 1 (1 + n % 25) least, le (1 + n % 25) 25 slot) refl;
      spot = omega arith;
    }

-- the place of a number is one of the tool, and has the number
pub location_stands : (ports chambers number : ℕ) → 1 ≤ number → number ≤ spot_count ports chambers → Stands ports chambers number (location_numbered ports number)
location_stands ports chambers zero first last = absurd (omega (arith, first))
location_stands ports chambers (suc n) first last = by_slot (nat_lt n (ports * 25)) refl where
  of_chamber : (nat_lt n (ports * 25)) ≡ false → (n == ports * 25) ≡ false → (n == ports * 25 + 1) ≡ false → Stands ports chambers (suc n) (Chamber (n - (ports * 25 + 1)))
  of_chamber slots aligner arm =
      let past : ports * 25 + 1 < n = grind (arith, nat_tests) in
      let least : 1 ≤ n - (ports * 25 + 1) = omega (arith, past) in
      let most : n - (ports * 25 + 1) ≤ chambers = omega (arith, past, last) in
      record { inside = rw (le 1 (n - (ports * 25 + 1)) least, le (n - (ports * 25 + 1)) chambers most) refl; spot = omega (arith, past) }

  by_arm : (b : Bool) → (n == ports * 25 + 1) ≡ b → nat_lt n (ports * 25) ≡ false → (n == ports * 25) ≡ false → Stands ports chambers (suc n) (if b then Arm else Chamber (n - (ports * 25 + 1)))
  by_arm true is slots aligner = let same : n ≡ ports * 25 + 1 = grind (arith, nat_tests, is) in record { inside = refl; spot = omega (arith, same) }
  by_arm false is slots aligner = of_chamber slots aligner is

  by_aligner : (b : Bool) → (n == ports * 25) ≡ b → nat_lt n (ports * 25) ≡ false → Stands ports chambers (suc n) (if b then Aligner else (if n == ports * 25 + 1 then Arm else Chamber (n - (ports * 25 + 1))))
  by_aligner true is slots = let same : n ≡ ports * 25 = grind (arith, nat_tests, is) in record { inside = refl; spot = omega (arith, same) }
  by_aligner false is slots = by_arm (n == ports * 25 + 1) refl slots is

  by_slot : (b : Bool) → nat_lt n (ports * 25) ≡ b → Stands ports chambers (suc n) (if b then Slot (record { 0 = 1 + n / 25 }) (record { 0 = 1 + n % 25 }) else (if n == ports * 25 then Aligner else (if n == ports * 25 + 1 then Arm else Chamber (n - (ports * 25 + 1)))))
  by_slot true is = let less : n < ports * 25 = grind (arith, nat_tests, is) in slot_stands ports chambers n less
  by_slot false is = by_aligner (n == ports * 25) refl is

-- ---- who is there

same_test : (a b : Bool) → (a ≡ true → b ≡ true) → (b ≡ true → a ≡ true) → a ≡ b
same_test true true f g = refl
same_test true false f g = sym (f refl)
same_test false true f g = g refl
same_test false false f g = refl

-- a substrate at a place of the tool is at a number exactly where it is at the place of the number
one_there : (ports chambers number : ℕ) (loc : LocId) (r : Registered) → Stands ports chambers number loc → is_location ports chambers r.at ≡ true → has_number ports number r ≡ stands_at loc r
one_there ports chambers number loc r stands inside =
    same_test (location_number ports r.at == number) (is_same r.at loc)
    (λ e. same_spot ports chambers r.at loc inside stands.inside (let same : spot_of ports r.at + 1 ≡ number = grind (arith, nat_tests, e) in let there = stands.spot in omega (arith, same, there)))
    (λ e. let same : spot_of ports r.at ≡ spot_of ports loc = ap (spot_of ports) (same_is r.at loc e) in let there = stands.spot in grind (arith, nat_tests, same, there))

-- so one is there
pub any_there : (ports chambers number : ℕ) (loc : LocId) (rs : List Registered) → Stands ports chambers number loc → list_all (λ r. is_location ports chambers r.at) rs ≡ true
    → list_any (has_number ports number) rs ≡ is_taken loc rs
any_there ports chambers number loc [] stands all = refl
any_there ports chambers number loc (r ∷ rs) stands all =
    let parts = and_true (is_location ports chambers r.at) (list_all (λ (s : Registered). is_location ports chambers s.at) rs) all in
    rw (one_there ports chambers number loc r stands parts.0, any_there ports chambers number loc rs stands parts.1) refl

-- no substrate is at a number that is none of a place
one_past : (ports chambers number : ℕ) (r : Registered) → is_location ports chambers r.at ≡ true → ((1 ≤ number) → number ≤ spot_count ports chambers → ⊥) → has_number ports number r ≡ false
one_past ports chambers number r inside none = of (location_number ports r.at == number) refl where
  of : (b : Bool) → (location_number ports r.at == number) ≡ b → b ≡ false
  of true e =
      let same : spot_of ports r.at + 1 ≡ number = grind (arith, nat_tests, e) in
      let there = spot_within ports chambers r.at inside in
      absurd (none (omega (arith, same)) (omega (arith, same, there)))
  of false e = refl

pub none_there : (ports chambers number : ℕ) (rs : List Registered) → list_all (λ r. is_location ports chambers r.at) rs ≡ true → ((1 ≤ number) → number ≤ spot_count ports chambers → ⊥)
    → list_any (has_number ports number) rs ≡ false
none_there ports chambers number [] all none = refl
none_there ports chambers number (r ∷ rs) all none =
    let parts = and_true (is_location ports chambers r.at) (list_all (λ (s : Registered). is_location ports chambers s.at) rs) all in
    rw (one_past ports chambers number r parts.0 none, none_there ports chambers number rs parts.1 none) refl

-- who is shown at a place tells whether one is there
taken_shown : (loc : LocId) (rs : List Registered) → is_some (substrate_at loc rs) ≡ is_taken loc rs
taken_shown loc [] = refl
taken_shown loc (r ∷ rs) = of (stands_at loc r) refl (taken_shown loc rs) where
  of : (b : Bool) → stands_at loc r ≡ b → is_some (substrate_at loc rs) ≡ is_taken loc rs → is_some (substrate_at loc (r ∷ rs)) ≡ is_taken loc (r ∷ rs)
  of true e rest = rw e refl
  of false e rest = rw e rest

-- so the board tells it by the number
pub shown_there : (b : Spots) (rs : List Registered) (number : ℕ) (taken : Bool) → 1 ≤ number → number ≤ spot_count b.ports b.chambers
    → list_all (λ r. is_location b.ports b.chambers r.at) rs ≡ true
    → ((loc : LocId) → is_location b.ports b.chambers loc ≡ true → name_at loc b ≡ Some (substrate_at loc rs))
    → option_map is_some (slice_get b.names (number - 1)) ≡ Some taken → taken ≡ list_any (has_number b.ports number) rs
shown_there b rs number taken first last all shown is =
    let loc : LocId = location_numbered b.ports number in
    let stands = location_stands b.ports b.chambers number first last in
    let there = stands.spot in
    let spot : number - 1 ≡ spot_of b.ports loc = omega (arith, there) in
    let same : Some taken ≡ Some (is_some (substrate_at loc rs)) = sym is ∙ ap (λ (i : ℕ). option_map is_some (slice_get b.names i)) spot ∙ ap (option_map is_some) (shown loc stands.inside) in
    let told : taken ≡ is_some (substrate_at loc rs) = cc in
    told ∙ taken_shown loc rs ∙ sym (any_there b.ports b.chambers number loc rs stands all)

-- ---- at work

second : (a b : Bool) → b ≡ true → (a || b) ≡ true
second true b e = refl
second false b e = e

work_spot : (ports : ℕ) (loc : LocId) → is_work_place loc ≡ true → ports * 25 ≤ spot_of ports loc
work_spot ports (Slot p k) e = absurd (cc)
work_spot ports Aligner e = omega arith
work_spot ports Arm e = omega arith
work_spot ports (Chamber c) e = omega arith

spot_work : (ports chambers : ℕ) (loc : LocId) → is_location ports chambers loc ≡ true → ports * 25 ≤ spot_of ports loc → is_work_place loc ≡ true
spot_work ports chambers (Slot p k) inside past = let slot = slot_within ports p.0 k.0 inside in absurd (omega (arith, slot, past))
spot_work ports chambers Aligner inside past = refl
spot_work ports chambers Arm inside past = refl
spot_work ports chambers (Chamber c) inside past = refl

-- who is at a number behind the slots is at work
pub any_at_work : (ports chambers number : ℕ) (rs : List Registered) → list_all (λ r. is_location ports chambers r.at) rs ≡ true → ports * 25 < number
    → list_any (has_number ports number) rs ≡ true → list_any (λ r. is_work_place r.at) rs ≡ true
any_at_work ports chambers number [] all past e = absurd (cc)
any_at_work ports chambers number (r ∷ rs) all past e =
    let parts = and_true (is_location ports chambers r.at) (list_all (λ (s : Registered). is_location ports chambers s.at) rs) all in
    of (has_number ports number r) refl e (any_at_work ports chambers number rs parts.1 past)
  where
    of : (b : Bool) → has_number ports number r ≡ b → (b || list_any (has_number ports number) rs) ≡ true
        → (list_any (has_number ports number) rs ≡ true → list_any (λ r. is_work_place r.at) rs ≡ true) → (is_work_place r.at || list_any (λ r. is_work_place r.at) rs) ≡ true
    of true is f later =
        let same : spot_of ports r.at + 1 ≡ number = grind (arith, nat_tests, is) in
        let parts = and_true (is_location ports chambers r.at) (list_all (λ (s : Registered). is_location ports chambers s.at) rs) all in
        rw (spot_work ports chambers r.at parts.0 (omega (arith, same, past))) refl
    of false is f later = second (is_work_place r.at) (list_any (λ r. is_work_place r.at) rs) (later f)

-- where none is at such a number, none is at work
pub none_at_work : (ports chambers : ℕ) (rs : List Registered) → list_all (λ r. is_location ports chambers r.at) rs ≡ true
    → ((number : ℕ) → ports * 25 < number → number < spot_count ports chambers + 1 → list_any (has_number ports number) rs ≡ false) → list_any (λ r. is_work_place r.at) rs ≡ false
none_at_work ports chambers [] all none = refl
none_at_work ports chambers (r ∷ rs) all none =
    let parts = and_true (is_location ports chambers r.at) (list_all (λ (s : Registered). is_location ports chambers s.at) rs) all in
    of (is_work_place r.at) refl (none_at_work ports chambers rs parts.1 (λ number past within. (or_false (has_number ports number r) (list_any (has_number ports number) rs) (none number past within)).1))
  where
    of : (b : Bool) → is_work_place r.at ≡ b → list_any (λ r. is_work_place r.at) rs ≡ false → (b || list_any (λ r. is_work_place r.at) rs) ≡ false
    of false is later = later
    of true is later =
        let parts = and_true (is_location ports chambers r.at) (list_all (λ (s : Registered). is_location ports chambers s.at) rs) all in
        let past = work_spot ports r.at is in
        let within = spot_within ports chambers r.at parts.0 in
        let here = (or_false (has_number ports (spot_of ports r.at + 1) r) (list_any (has_number ports (spot_of ports r.at + 1)) rs) (none (spot_of ports r.at + 1) (omega (arith, past)) (omega (arith, within)))).0 in
        let own : has_number ports (spot_of ports r.at + 1) r ≡ true = grind (arith, nat_tests) in
        absurd (let clash : true ≡ false = sym own ∙ here in cc)

-- what is so below a number and at it is so below the next
pub taken_next : (n number : ℕ) (taken : ℕ → Bool) → taken number ≡ false → (n < number → taken n ≡ false) → n < number + 1 → taken n ≡ false
taken_next n number taken at below within = of (n == number) refl where
  of : (b : Bool) → (n == number) ≡ b → taken n ≡ false
  of true is = let same : n ≡ number = grind (arith, nat_tests, is) in ap taken same ∙ at
  of false is = let less : n < number = grind (arith, nat_tests, is, within) in below less
