-- Laws of the numbers of status variables.
use Rattle.std.proofs.Common.{◌≡◌, ℕ, ◌+◌, ◌-◌, ◌==◌, Bool, true, false, ◌||◌, List, [], ◌∷◌, map, Option, Some, None, is_some, refl, arith, cond}
use Rattle.std.specs.List.{list_any}
use Rattle.std.specs.Option.{option_or}
use Rattle.std.proofs.lemmas.Bool.Decides.{nat_tests}
use Rattle.std.proofs.lemmas.List.Folds.{list_any-append}
use Rattle.gem_rows.specs.Events.{numbers_from}
use Rattle.gem_rows.specs.Lines.{is_behind, line_numbers, numbers_in}
use Rattle.gem_rows.specs.Variables.{StatusRow, of_tool, of_each, row_line, row_variable, variable_in}
use Rattle.gem_rows.proofs.EventRows.{among_numbers}

-- the numbers of a row are those to which it gives a variable
among_row : (r : StatusRow) (n : ℕ) → list_any (λ m. m == n) (line_numbers (row_line r)) ≡ is_some (row_variable n r)
among_row (of_tool vid name variable) n = by_test (n == vid) refl
  where
    by_test : (b : Bool) → (n == vid) ≡ b → list_any (λ m. m == n) (vid ∷ []) ≡ is_some (cond b (Some variable) None)
    by_test true is = grind (arith, nat_tests, is)
    by_test false is = grind (arith, nat_tests, is)
among_row (of_each base count name variable) n = by_test (is_behind base count n) refl
  where
    by_test : (b : Bool) → is_behind base count n ≡ b → list_any (λ m. m == n) (numbers_from (base + 1) count) ≡ is_some (cond b (Some (variable (n - base))) None)
    by_test true is = rw (among_numbers (base + 1) count n) (grind (arith, nat_tests, is))
    by_test false is = rw (among_numbers (base + 1) count n) (grind (arith, nat_tests, is))

some_either : {A : Type 0} (x y : Option A) → is_some (option_or x y) ≡ (is_some x || is_some y)
some_either None y = refl
some_either (Some a) y = refl

-- the numbers of rows are those to which one of them gives a variable
pub among_rows : (rows : List StatusRow) (n : ℕ) → list_any (λ m. m == n) (numbers_in (map row_line rows)) ≡ is_some (variable_in rows n)
among_rows [] n = refl
among_rows (r ∷ rows) n =
    rw (list_any-append (λ m. m == n) (line_numbers (row_line r)) (numbers_in (map row_line rows)), among_row r n, among_rows rows n, some_either (row_variable n r) (variable_in rows n)) refl
