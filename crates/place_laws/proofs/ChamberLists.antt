-- The list of a set of chambers has those of 1 to 8 that the set has.
use Rattle.std.proofs.Common.{◌≡◌, ◌+◌, ◌≤◌, ◌==◌, ℕ, zero, suc, nat_le, nat_lt, Bool, true, false, ◌&&◌, ◌||◌, cond, List, [], ◌∷◌, refl, sym, ap, ◌∙◌, arith}
use Rattle.std.specs.List.{filter, range_with_len}
use Rattle.std.proofs.Math.Bool.{and-false}
use Rattle.std.proofs.lemmas.Bool.{and_parts, and_from}
use Rattle.std.proofs.lemmas.Bool.Decides.{nat_tests}
use Rattle.gem_tables.specs.Table.{is_one_of}
use Rattle.tool_tasks.specs.Chambers.{has_chamber, chamber_list}

-- a number is in a run where it isn't below its first, nor past its last
one_of_range : (first count n : ℕ) → is_one_of (range_with_len first count) n ≡ (nat_le first n && nat_lt n (first + count))
one_of_range first zero n = grind (arith, nat_tests)
one_of_range first (suc count) n = rw (one_of_range (first + 1) count n) (grind (arith, nat_tests))

-- it is among those that pass a test where it is one of them and passes
one_of_filter : (test : ℕ → Bool) (ns : List ℕ) (n : ℕ) → is_one_of (filter test ns) n ≡ (is_one_of ns n && test n)
one_of_filter test [] n = refl
one_of_filter test (m ∷ ms) n = of (test m) (m == n) refl refl (one_of_filter test ms n) where
  of : (passes same : Bool) → test m ≡ passes → (m == n) ≡ same → is_one_of (filter test ms) n ≡ (is_one_of ms n && test n) → is_one_of (cond passes (m ∷ filter test ms) (filter test ms)) n ≡ ((same || is_one_of ms n) && test n)
  of true true p q rest = let it : m ≡ n = grind (arith, nat_tests) in ap (λ (b : Bool). b || is_one_of (filter test ms) n) q ∙ sym (ap test (sym it) ∙ p)
  of true false p q rest = ap (λ (b : Bool). b || is_one_of (filter test ms) n) q ∙ rest
  of false true p q rest = let it : m ≡ n = grind (arith, nat_tests) in let fails : test n ≡ false = ap test (sym it) ∙ p in rest ∙ none fails ∙ sym fails where
    none : test n ≡ false → (is_one_of ms n && test n) ≡ false
    none fails = ap (λ (b : Bool). is_one_of ms n && b) fails ∙ and-false (is_one_of ms n)
  of false false p q rest = rest

-- a set has a chamber, which is one of 1 to 8
abbrev pub IsChosen : ℕ → ℕ → Type 0
IsChosen set c = record {
  has : has_chamber set c ≡ true;
  least : 1 ≤ c;
  most : c ≤ 8;
}

pub listed : (set c : ℕ) → is_one_of (chamber_list set) c ≡ ((nat_le 1 c && nat_le c 8) && has_chamber set c)
listed set c = one_of_filter (has_chamber set) (range_with_len 1 8) c ∙ ap (λ (b : Bool). b && has_chamber set c) (one_of_range 1 8 c ∙ up_to_8) where
  up_to_8 : (nat_le 1 c && nat_lt c (1 + 8)) ≡ (nat_le 1 c && nat_le c 8)
  up_to_8 = grind (arith, nat_tests)

pub is_listed : (set c : ℕ) → IsChosen set c → is_one_of (chamber_list set) c ≡ true
is_listed set c h =
    let least = h.least in
    let most = h.most in
    listed set c ∙ and_from (nat_le 1 c && nat_le c 8) (has_chamber set c) (grind (arith, nat_tests, least, most)) h.has

pub is_chosen : (set c : ℕ) → is_one_of (chamber_list set) c ≡ true → IsChosen set c
is_chosen set c e =
    let parts = and_parts (nat_le 1 c && nat_le c 8) (has_chamber set c) (sym (listed set c) ∙ e) in
    let lies = parts.0 in
    record { has = parts.1; least = grind (arith, nat_tests, lies); most = grind (arith, nat_tests, lies) }
