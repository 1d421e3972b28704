-- A set has the chambers that were put into it.
use Rattle.std.proofs.Common.{◌≡◌, ◌-◌, ◌+◌, ◌^◌, ◌<◌, ◌≤◌, ℕ, suc, zero, nat_eq, Bool, true, false, ◌||◌, cond, List, [], ◌∷◌, refl, sym, ap, ◌∙◌, arith}
use Rattle.std.specs.Int.{bit_at}
use Rattle.std.specs.List.{fold, filter, list_any, range_with_len}
use Rattle.std.proofs.Math.Bool.{or-false}
use Rattle.std.proofs.lemmas.Bool.{or_left, or_right}
use Rattle.std.proofs.lemmas.Bool.Decides.{nat_tests}
use Rattle.std.proofs.lemmas.Nat.Bits.{bit_at_or, bit_at-pow_same, bit_at-pow_other, bit_at-lt}
use Rattle.tool_tasks.specs.Chambers.{has_chamber, with_chamber, chamber_list}

-- a set and a chamber has that one
put_in : (set c : ℕ) → has_chamber (with_chamber set c) c ≡ true
put_in set c = grind (arith, nat_tests, bit_at_or set (2 ^ (c - 1)) (c - 1), bit_at-pow_same (c - 1), bit_at-lt set (c - 1))

-- and those of the set
stays_in : (set n c : ℕ) → has_chamber set c ≡ true → has_chamber (with_chamber set n) c ≡ true
stays_in set n c e = grind (arith, nat_tests, e, bit_at_or set (2 ^ (n - 1)) (c - 1), bit_at-lt (2 ^ (n - 1)) (c - 1))

-- and no others
pub has_with : (set n c : ℕ) → 1 ≤ n → 1 ≤ c → has_chamber (with_chamber set n) c ≡ (has_chamber set c || nat_eq c n)
has_with set n c first least = of (nat_eq c n) refl where
  of : (b : Bool) → nat_eq c n ≡ b → has_chamber (with_chamber set n) c ≡ (has_chamber set c || b)
  of true same =
      let it : c ≡ n = grind (arith, nat_tests) in
      let there = put_in set n in
      grind (arith, nat_tests, there, it)
  of false other =
      let bit : bit_at (2 ^ (n - 1)) (c - 1) ≡ 0 = bit_at-pow_other (n - 1) (c - 1) (λ e. let same : nat_eq c n ≡ true = grind (arith, nat_tests, e) in absurd (cc)) in
      grind (arith, nat_tests, bit_at_or set (2 ^ (n - 1)) (c - 1), bit)

-- the set of some chambers has each of them
pub set_has : (cs : List ℕ) (set c : ℕ) → (has_chamber set c || list_any (nat_eq c) cs) ≡ true → has_chamber (fold with_chamber set cs) c ≡ true
set_has [] set c e = sym (or-false (has_chamber set c)) ∙ e
set_has (n ∷ ns) set c e = set_has ns (with_chamber set n) c (of (has_chamber set c) (nat_eq c n) refl refl e) where
  of : (b same : Bool) → has_chamber set c ≡ b → nat_eq c n ≡ same → (b || (same || list_any (nat_eq c) ns)) ≡ true → (has_chamber (with_chamber set n) c || list_any (nat_eq c) ns) ≡ true
  of true same p q e = or_left (has_chamber (with_chamber set n) c) (list_any (nat_eq c) ns) (stays_in set n c p)
  of false true p q e =
      let it : c ≡ n = grind (arith, nat_tests) in
      or_left (has_chamber (with_chamber set n) c) (list_any (nat_eq c) ns) (ap (λ (m : ℕ). has_chamber (with_chamber set n) m) it ∙ put_in set n)
  of false false p q e = or_right (has_chamber (with_chamber set n) c) (list_any (nat_eq c) ns) e

-- ---- the chambers of a set in their order

-- what is so of a number of a run that passes is so of one of those that do
any_passing : (test p : ℕ → Bool) (first count c : ℕ) → first ≤ c → c < first + count → p c ≡ true → test c ≡ true → list_any test (filter p (range_with_len first count)) ≡ true
any_passing test p first zero c low high has is = absurd (omega (arith, low, high))
any_passing test p first (suc count) c low high has is = of (nat_eq first c) refl (λ other. any_passing test p (first + 1) count c (grind (arith, nat_tests, other)) (omega (arith, high)) has is) where
  rest : List ℕ
  rest = filter p (range_with_len (first + 1) count)

  here : first ≡ c → list_any test (cond (p first) (first ∷ rest) rest) ≡ true
  here e = ap (λ (b : Bool). list_any test (cond b (first ∷ rest) rest)) (ap p e ∙ has) ∙ or_left (test first) (list_any test rest) (ap test e ∙ is)

  later : (b : Bool) → list_any test rest ≡ true → list_any test (cond b (first ∷ rest) rest) ≡ true
  later true e = or_right (test first) (list_any test rest) e
  later false e = e

  of : (b : Bool) → nat_eq first c ≡ b → (nat_eq first c ≡ false → list_any test rest ≡ true) → list_any test (cond (p first) (first ∷ rest) rest) ≡ true
  of true same behind = here (grind (arith, nat_tests))
  of false other behind = later (p first) (behind other)

-- what is so of a chamber of a set is so of one of its list
pub any_listed : (test : ℕ → Bool) (set c : ℕ) → 1 ≤ c → c ≤ 8 → has_chamber set c ≡ true → test c ≡ true → list_any test (chamber_list set) ≡ true
any_listed test set c least most has is = any_passing test (has_chamber set) 1 8 c least (omega (arith, most)) has is
