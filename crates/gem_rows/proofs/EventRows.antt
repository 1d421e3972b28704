-- Laws of CEIDs and the lines of rows that have events.
use Rattle.std.proofs.Common.{◌≡◌, ℕ, zero, suc, ◌+◌, ◌-◌, ◌*◌, ◌/◌, ◌%◌, ◌<◌, ◌≤◌, ◌==◌, Bool, true, false, nat_lt, nat_le, ◌&&◌, List, [], ◌∷◌, Some, None, refl, ap, arith, cond}
use Rattle.std.specs.List.{list_any, list_all, flat_map}
use Rattle.std.proofs.lemmas.Bool.Decides.{nat_tests}
use Rattle.std.proofs.lemmas.List.Folds.{list_any-append}
use Rattle.gem_rows.specs.Events.{EventLine, event_lines, has_event, ceid_of, is_ceid, row_of, numbers_from, line_ceids}
use Rattle.gem_tables.specs.declared.firing.RowId.{RowId}

-- a number is in the list
abbrev is_in : List ℕ → ℕ → Bool
is_in numbers n = list_any (λ m. m == n) numbers

-- numbers that follow one another are those between the first and the last
pub among_numbers : (first count n : ℕ) → is_in (numbers_from first count) n ≡ (nat_le first n && nat_lt n (first + count))
among_numbers first zero n = grind (arith, nat_tests)
among_numbers first (suc count) n = rw (among_numbers (first + 1) count n) (grind (arith, nat_tests))

-- the row is one of the line's
abbrev has_row : ℕ → ℕ → EventLine → Bool
has_row table row l = (l.table == table) && nat_le l.first row && nat_le row l.last

-- the line's rows are below 100
abbrev is_line : EventLine → Bool
is_line l = nat_le l.first l.last && nat_lt l.last 100

-- the CEIDs of a line are those of its rows
among_line : (l : EventLine) (n : ℕ) → is_line l ≡ true → is_in (line_ceids l) n ≡ has_row (n / 100) (n % 100) l
among_line l n h =
    let first : l.first ≤ l.last = grind (arith, nat_tests) in
    let last : l.last < 100 = grind (arith, nat_tests) in
    rw (among_numbers (100 * l.table + l.first) (l.last + 1 - l.first) n) (grind (arith, nat_tests))

-- the CEIDs of lines are those of their rows
pub among_lines : (lines : List EventLine) (n : ℕ) → list_all is_line lines ≡ true → is_in (flat_map line_ceids lines) n ≡ list_any (has_row (n / 100) (n % 100)) lines
among_lines [] n h = refl
among_lines (l ∷ lines) n h =
    let here : is_line l ≡ true = grind (arith, nat_tests) in
    let rest : list_all is_line lines ≡ true = grind (arith, nat_tests) in
    rw (list_any-append (λ m. m == n) (line_ceids l) (flat_map line_ceids lines), among_line l n here, among_lines lines n rest) refl

-- a row of a line is below 100
row_of_line : (l : EventLine) (table row : ℕ) → is_line l ≡ true → has_row table row l ≡ true → row < 100
row_of_line l table row h e = grind (arith, nat_tests)

-- a row that has an event is below 100
row_below : (lines : List EventLine) (table row : ℕ) → list_all is_line lines ≡ true → list_any (has_row table row) lines ≡ true → row < 100
row_below [] table row h e = absurd (cc)
row_below (l ∷ lines) table row h e = by_test (has_row table row l) refl (row_below lines table row rest) where
  here : is_line l ≡ true
  here = grind (arith, nat_tests)

  rest : list_all is_line lines ≡ true
  rest = grind (arith, nat_tests)

  by_test : (b : Bool) → has_row table row l ≡ b → (list_any (has_row table row) lines ≡ true → row < 100) → row < 100
  by_test true q later = row_of_line l table row here q
  by_test false q later = later (rw q at e)

-- the row of a CEID is the row
pub row_again : (table row ceid : ℕ) → ceid_of table row ≡ Some ceid → row_of ceid ≡ Some (record { table = table; row = row })
row_again table row ceid e = by_test (has_event table row) refl e where
  by_test : (b : Bool) → has_event table row ≡ b → cond b (Some (100 * table + row)) None ≡ Some ceid → row_of ceid ≡ Some (record { table = table; row = row })
  by_test true q f =
      let below = row_below event_lines table row refl q in
      let same : 100 * table + row ≡ ceid = cc in
      let tables : ceid / 100 ≡ table = omega arith in
      let rows : ceid % 100 ≡ row = omega arith in
      rw (tables, rows, q) refl
  by_test false q f = absurd (cc)

-- the CEID of a CEID's row is the CEID
pub ceid_again : (ceid : ℕ) (r : RowId) → row_of ceid ≡ Some r → ceid_of r.table r.row ≡ Some ceid
ceid_again ceid r e = by_test (is_ceid ceid) refl e where
  by_test : (b : Bool) → is_ceid ceid ≡ b → cond b (Some (record { table = ceid / 100; row = ceid % 100 })) None ≡ Some r → ceid_of r.table r.row ≡ Some ceid
  by_test true q f =
      let same : (record { table = ceid / 100; row = ceid % 100 }) ≡ r = cc in
      let tables : ceid / 100 ≡ r.table = ap (λ (x : RowId). x.table) same in
      let rows : ceid % 100 ≡ r.row = ap (λ (x : RowId). x.row) same in
      let number : 100 * r.table + r.row ≡ ceid = omega arith in
      rw (← tables, ← rows, q) (ap (λ (n : ℕ). Some n) (omega arith))
  by_test false q f = absurd (cc)
