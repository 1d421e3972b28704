-- Laws of tables of open transactions, for those who keep one: it stays a table, and gets shorter where one is taken out.
use Rattle.std.proofs.Common.{◌≡◌, ℕ, zero, suc, ◌<◌, ◌≤◌, ◌+◌, ◌==◌, not, Bool, true, false, List, [], ◌∷◌, ◌++◌, length, Option, Some, None, unwrap_or, slice_get, refl, sym, ◌∙◌, ap, arith, find, remove}
use Rattle.std.proofs.lemmas.Bool.Decides.{nat_tests}
use Rattle.std.proofs.lemmas.List.{length_push}
use Rattle.transactions.specs.declared.transaction.Open.{Open}
use Rattle.transactions.specs.declared.transaction.What.{What}
use Rattle.transactions.specs.Table.{Table, IsTable, AreDifferent, has_system, is_full, without, taken_out, limit}
use Rattle.transactions.specs.SystemBytes.{behind, in_turn, drawn, with_started}
use Rattle.transactions.specs.Endings.{latest}
use Rattle.transactions.proofs.Systems.{different-push, without-remove}
use Rattle.transactions.proofs.Drawing.{not_longer, shorter, all_open}

-- what isn't there isn't there after others were taken out
absent_stays : (opened : List Open) (taken system : ℕ) → has_system opened system ≡ false → has_system (without taken opened) system ≡ false
absent_stays [] taken system e = refl
absent_stays (one ∷ others) taken system e = by_test (one.system == taken) refl (absent_stays others taken system) where
  by_test : (b : Bool) → (one.system == taken) ≡ b → (has_system others system ≡ false → has_system (without taken others) system ≡ false) → has_system (without taken (one ∷ others)) system ≡ false
  by_test true q rest =
      let there : has_system others system ≡ false = grind (arith, nat_tests) in
      rw q (rest there)
  by_test false q rest =
      let here : (one.system == system) ≡ false = grind (arith, nat_tests) in
      let there : has_system others system ≡ false = grind (arith, nat_tests) in
      rw (q, here) (rest there)

-- they stay different where one is taken out
pub different-without : (opened : List Open) (taken : ℕ) → AreDifferent opened → AreDifferent (without taken opened)
different-without [] taken d = tt
different-without (one ∷ others) taken d = by_test (one.system == taken) refl (different-without others taken d.1) where
  by_test : (b : Bool) → (one.system == taken) ≡ b → AreDifferent (without taken others) → AreDifferent (without taken (one ∷ others))
  by_test true q rest = rw q rest
  by_test false q rest = rw q ((absent_stays others taken one.system d.0, rest))

-- a table stays one where a transaction is taken out
pub table-taken_out : (found : Option Open) (table : Table) → IsTable table → IsTable (taken_out found table)
table-taken_out None table h = h
table-taken_out (Some one) table h =
    let fewer = not_longer table.opened one.system in
    record { within = omega (arith, fewer, h.within); different = different-without table.opened one.system h.different }

-- of so many in turn one is free
some_free : (opened : List Open) (system steps n : ℕ) → find (λ (s : ℕ). not (has_system opened s)) (in_turn system steps n) ≡ None → (k : ℕ) → steps ≤ k → k < steps + n → has_system opened (behind system k) ≡ true
some_free opened system steps zero e k a b = absurd (omega arith)
some_free opened system steps (suc n) e k a b = by_test (has_system opened (behind system steps)) refl (some_free opened system (steps + 1) n) where
  by_test : (t : Bool) → has_system opened (behind system steps) ≡ t → (find (λ (s : ℕ). not (has_system opened s)) (in_turn system (steps + 1) n) ≡ None → (j : ℕ) → steps + 1 ≤ j → j < (steps + 1) + n → has_system opened (behind system j) ≡ true) → has_system opened (behind system k) ≡ true
  by_test false q rest = absurd (let none = rw q at e in cc)
  by_test true q rest = by_place (steps == k) refl where
    by_place : (p : Bool) → (steps == k) ≡ p → has_system opened (behind system k) ≡ true
    by_place true p = let same : steps ≡ k = grind (arith, nat_tests) in ap (λ (j : ℕ). has_system opened (behind system j)) (sym same) ∙ q
    by_place false p =
        let before : steps < k = grind (arith, nat_tests) in
        let none = rw q at e in
        rest none k (omega arith) (omega arith)

free_found : (opened : List Open) (candidates : List ℕ) (system : ℕ) → find (λ (s : ℕ). not (has_system opened s)) candidates ≡ Some system → has_system opened system ≡ false
free_found opened [] system e = absurd (cc)
free_found opened (s ∷ ss) system e = by_test (has_system opened s) refl (free_found opened ss system) where
  by_test : (t : Bool) → has_system opened s ≡ t → (find (λ (c : ℕ). not (has_system opened c)) ss ≡ Some system → has_system opened system ≡ false) → has_system opened system ≡ false
  by_test false q rest =
      let first : Some s ≡ Some system = rw q at e in
      let same : s ≡ system = cc in
      ap (has_system opened) (sym same) ∙ q
  by_test true q rest = let later = rw q at e in rest later

-- no open transaction has the system bytes that are drawn
pub drawn-free : (table : Table) → IsTable table → has_system table.opened (drawn table) ≡ false
drawn-free table h = by_found (find (λ (s : ℕ). not (has_system table.opened s)) (in_turn table.next 0 (suc (length table.opened)))) refl where
  by_found : (found : Option ℕ) → find (λ (s : ℕ). not (has_system table.opened s)) (in_turn table.next 0 (suc (length table.opened))) ≡ found → has_system table.opened (drawn table) ≡ false
  by_found None q =
      let all = some_free table.opened table.next 0 (suc (length table.opened)) q in
      let within = h.within in
      let many = all_open table.opened table.next 0 (suc (length table.opened)) all (omega arith) in
      absurd (omega arith)
  by_found (Some system) q =
      let is_drawn : drawn table ≡ system = ap (λ (o : Option ℕ). unwrap_or o table.next) q in
      ap (has_system table.opened) is_drawn ∙ free_found table.opened (in_turn table.next 0 (suc (length table.opened))) system q

-- a table stays one where a transaction is started
pub table-started : (stream function deadline : ℕ) (what : What) (table : Table) → is_full table ≡ false → IsTable table → IsTable (with_started stream function deadline what table)
table-started stream function deadline what table room h =
    let one : Open = record { system = drawn table; stream = stream; function = function; deadline = deadline; what = what } in
    let below : length table.opened < limit = grind (arith, nat_tests) in
    let longer = length_push table.opened one in
    record { within = omega (arith, longer, below); different = different-push table.opened one h.different (drawn-free table h) }

-- one that was found is there
pub found-there : (test : Open → Bool) (opened : List Open) (one : Open) → find test opened ≡ Some one → has_system opened one.system ≡ true
found-there test [] one e = absurd (cc)
found-there test (first ∷ others) one e = by_test (test first) refl (found-there test others one) where
  by_test : (b : Bool) → test first ≡ b → (find test others ≡ Some one → has_system others one.system ≡ true) → has_system (first ∷ others) one.system ≡ true
  by_test true q rest =
      let found : Some first ≡ Some one = rw q at e in
      let same : first ≡ one = cc in
      rw same (grind (arith, nat_tests))
  by_test false q rest =
      let found = rw q at e in
      rw (rest found) (grind (arith, nat_tests))

-- the table gets shorter where one is taken out that was found, by an answer, its deadline or its kind
pub found-shorter : (test : Open → Bool) (opened : List Open) (one : Open) → find test opened ≡ Some one → length (without one.system opened) < length opened
found-shorter test opened one e = shorter opened one.system (found-there test opened one e)

-- the latest stands last
pub latest-push : (opened : List Open) (one : Open) → latest (opened ++ one ∷ []) ≡ Some one
latest-push [] one = refl
latest-push (first ∷ []) one = refl
latest-push (first ∷ (second ∷ others)) one = latest-push (second ∷ others) one

stands_last : (opened : List Open) (one : Open) → slice_get (opened ++ one ∷ []) (length opened) ≡ Some one
stands_last [] one = refl
stands_last (first ∷ others) one = stands_last others one

remove_last : (opened : List Open) (one : Open) → remove (opened ++ one ∷ []) (length opened) ≡ opened
remove_last [] one = refl
remove_last (first ∷ others) one = ap (λ (os : List Open). first ∷ os) (remove_last others one)

-- where the latest is taken out, those before it stay
pub without-latest : (opened : List Open) (one : Open) → AreDifferent (opened ++ one ∷ []) → without one.system (opened ++ one ∷ []) ≡ opened
without-latest opened one d = without-remove (opened ++ one ∷ []) (length opened) one d (stands_last opened one) ∙ remove_last opened one
