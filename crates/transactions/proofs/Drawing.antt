-- Why there are system bytes to be drawn: of so many and one in turn not all are open.
use Rattle.std.proofs.Common.{◌≡◌, ◌≢◌, ℕ, zero, suc, ◌<◌, ◌≤◌, ◌+◌, ◌^◌, ◌==◌, ◌||◌, not, Bool, true, false, List, [], ◌∷◌, length, Option, Some, unwrap_or, refl, sym, ◌∙◌, ap, arith, find}
use Rattle.std.proofs.lemmas.Bool.Decides.{nat_tests}
use Rattle.transactions.specs.declared.transaction.Open.{Open}
use Rattle.transactions.specs.Table.{Table, has_system, without}
use Rattle.transactions.specs.SystemBytes.{behind, in_turn, drawn}

-- two of fewer than all system bytes in turn differ
differ : (system i j : ℕ) → i < j → j < 2 ^ 32 → behind system i ≢ behind system j
differ system i j l m = λ (e : behind system i ≡ behind system j). omega arith

pub not_longer : (opened : List Open) (system : ℕ) → length (without system opened) ≤ length opened
not_longer [] system = omega arith
not_longer (one ∷ others) system = by_test (one.system == system) refl (not_longer others system) where
  by_test : (b : Bool) → (one.system == system) ≡ b → length (without system others) ≤ length others → length (without system (one ∷ others)) ≤ length (one ∷ others)
  by_test true q rest = rw q (omega arith)
  by_test false q rest = rw q (omega arith)

-- one that is taken out makes the list shorter
pub shorter : (opened : List Open) (system : ℕ) → has_system opened system ≡ true → length (without system opened) < length opened
shorter [] system e = absurd (cc)
shorter (one ∷ others) system e = by_test (one.system == system) refl (shorter others system) where
  by_test : (b : Bool) → (one.system == system) ≡ b → (has_system others system ≡ true → length (without system others) < length others) → length (without system (one ∷ others)) < length (one ∷ others)
  by_test true q rest = let kept = not_longer others system in rw q (omega arith)
  by_test false q rest =
      let there : has_system others system ≡ true = grind (arith, nat_tests) in
      let less = rest there in
      rw q (omega arith)

-- other system bytes that were open still are
stays : (opened : List Open) (taken system : ℕ) → has_system opened system ≡ true → taken ≢ system → has_system (without taken opened) system ≡ true
stays [] taken system e ne = e
stays (one ∷ others) taken system e ne = by_test (one.system == taken) refl (stays others taken system) where
  by_test : (b : Bool) → (one.system == taken) ≡ b → (has_system others system ≡ true → taken ≢ system → has_system (without taken others) system ≡ true) → has_system (without taken (one ∷ others)) system ≡ true
  by_test true q rest =
      let other : (one.system == system) ≡ false = grind (arith, nat_tests) in
      let there : has_system others system ≡ true = grind (arith, nat_tests) in
      rw q (rest there ne)
  by_test false q rest = rw q (by_head (one.system == system) refl) where
    by_head : (c : Bool) → (one.system == system) ≡ c → ((one.system == system) || has_system (without taken others) system) ≡ true
    by_head true r = rw r refl
    by_head false r =
        let there : has_system others system ≡ true = grind (arith, nat_tests) in
        rw r (rest there ne)

-- where so many in turn are open, so many are
pub all_open : (opened : List Open) (system steps n : ℕ) → ((k : ℕ) → steps ≤ k → k < steps + n → has_system opened (behind system k) ≡ true) → steps + n ≤ 2 ^ 32 → n ≤ length opened
all_open opened system steps zero f l = omega arith
all_open opened system steps (suc n) f l =
    let here : has_system opened (behind system steps) ≡ true = f steps (omega arith) (omega arith) in
    let less = shorter opened (behind system steps) here in
    let others : (k : ℕ) → steps + 1 ≤ k → k < (steps + 1) + n → has_system (without (behind system steps) opened) (behind system k) ≡ true =
    λ k a b. stays opened (behind system steps) (behind system k) (f k (omega arith) (omega arith)) (differ system steps k (omega arith) (omega arith)) in
    let rest = all_open (without (behind system steps) opened) system (steps + 1) n others (omega arith) in
    omega arith

-- the first in turn that isn't open
first_free : (opened : List Open) (system steps skipped n : ℕ) → steps ≤ skipped → skipped < steps + n → ((k : ℕ) → k < skipped → has_system opened (behind system k) ≡ true) → has_system opened (behind system skipped) ≡ false → find (λ (s : ℕ). not (has_system opened s)) (in_turn system steps n) ≡ Some (behind system skipped)
first_free opened system steps skipped zero a b f e = absurd (omega arith)
first_free opened system steps skipped (suc n) a b f e = by_place (steps == skipped) refl (first_free opened system (steps + 1) skipped n) where
  by_place : (q : Bool) → (steps == skipped) ≡ q → (steps + 1 ≤ skipped → skipped < (steps + 1) + n → ((k : ℕ) → k < skipped → has_system opened (behind system k) ≡ true) → has_system opened (behind system skipped) ≡ false → find (λ (s : ℕ). not (has_system opened s)) (in_turn system (steps + 1) n) ≡ Some (behind system skipped)) → find (λ (s : ℕ). not (has_system opened s)) (in_turn system steps (suc n)) ≡ Some (behind system skipped)
  by_place true q rest =
      let same : steps ≡ skipped = grind (arith, nat_tests) in
      let free : has_system opened (behind system steps) ≡ false = ap (λ (k : ℕ). has_system opened (behind system k)) same ∙ e in
      rw free (ap (λ (k : ℕ). Some (behind system k)) same)
  by_place false q rest =
      let before : steps < skipped = grind (arith, nat_tests) in
      let taken : has_system opened (behind system steps) ≡ true = f steps before in
      rw taken (rest (omega arith) (omega arith) f e)

-- the system bytes that are drawn, where these are the first that are free
pub drawn-first : (table : Table) (skipped : ℕ) → length table.opened ≤ 16 → ((k : ℕ) → k < skipped → has_system table.opened (behind table.next k) ≡ true) → skipped ≤ length table.opened → has_system table.opened (behind table.next skipped) ≡ false → behind table.next skipped ≡ drawn table
drawn-first table skipped within f l e =
    let found = first_free table.opened table.next 0 skipped (suc (length table.opened)) (omega arith) (omega arith) f e in
    sym (ap (λ (o : Option ℕ). unwrap_or o table.next) found)

-- one more in turn that is open
pub one_more : (table : Table) (skipped : ℕ) → ((k : ℕ) → k < skipped → has_system table.opened (behind table.next k) ≡ true) → has_system table.opened (behind table.next skipped) ≡ true → (k : ℕ) → k < skipped + 1 → has_system table.opened (behind table.next k) ≡ true
one_more table skipped f e k l = by_place (k == skipped) refl where
  by_place : (q : Bool) → (k == skipped) ≡ q → has_system table.opened (behind table.next k) ≡ true
  by_place true q = let same : k ≡ skipped = grind (arith, nat_tests) in ap (λ (j : ℕ). has_system table.opened (behind table.next j)) same ∙ e
  by_place false q = let before : k < skipped = grind (arith, nat_tests) in f k before

-- so many are open at least
pub skipped_fits : (table : Table) (skipped : ℕ) → length table.opened ≤ 16 → skipped ≤ 16 → ((k : ℕ) → k < skipped → has_system table.opened (behind table.next k) ≡ true) → has_system table.opened (behind table.next skipped) ≡ true → skipped + 1 ≤ length table.opened
skipped_fits table skipped within m f e =
    let more = one_more table skipped f e in
    all_open table.opened table.next 0 (skipped + 1) (λ k a b. more k (omega arith)) (omega arith)
