-- What is true of each row of a table is true of the one that is looked for, that starts, or that is ready.
use Rattle.std.proofs.Common.{◌≡◌, ℕ, ◌==◌, Bool, true, false, ◌||◌, ◌&&◌, cond, List, [], ◌∷◌, Option, Some, None, refl, sym, subst, arith}
use Rattle.std.specs.List.{AllByRecursion}
use Rattle.std.proofs.lemmas.Bool.{true≢false, and_parts}
use Rattle.std.proofs.lemmas.Bool.Decides.{nat_tests}
use Rattle.gem_tables.specs.Table.{Row, is_itself, is_creation, is_among, is_one_of, row_of, found_starts, may_fire, first_itself}

pub both : (a b : Bool) → a ≡ true → b ≡ true → (a && b) ≡ true
both true b x y = y
both false b x y = absurd (true≢false (sym x))

or_second : (a b : Bool) → b ≡ true → (a || b) ≡ true
or_second true b e = refl
or_second false b e = e

-- what is true of each of these numbers is true of one of them
pub one_of_cases : (P : ℕ → Type 0) (ns : List ℕ) (n : ℕ) → AllByRecursion P ns → is_one_of ns n ≡ true → P n
one_of_cases P [] n all e = absurd (true≢false (sym e))
one_of_cases P (m ∷ ms) n all e = by_test (m == n) refl e (one_of_cases P ms n all.1) where
  by_test : (b : Bool) → (m == n) ≡ b → (b || is_one_of ms n) ≡ true → (is_one_of ms n ≡ true → P n) → P n
  by_test true t f later = let same : m ≡ n = grind (arith, nat_tests) in subst P same all.0
  by_test false t f later = later f

module _ {S W E : Type 0} where
  -- the row of a number has it
  pub found_row : (P : Row S W E → Type 0) (rows : List (Row S W E)) (row : ℕ) (r : Row S W E) → AllByRecursion P rows → row_of rows row ≡ Some r → P r × (r.number ≡ row)
  found_row P [] row r all e = absurd (cc)
  found_row P (q ∷ rows) row r all e = by_test (q.number == row) refl e (found_row P rows row r all.1) where
    by_test : (b : Bool) → (q.number == row) ≡ b → cond b (Some q) (row_of rows row) ≡ Some r → (row_of rows row ≡ Some r → P r × (r.number ≡ row)) → P r × (r.number ≡ row)
    by_test true t f later =
        let same : q ≡ r = cc in
        let number : q.number ≡ row = grind (arith, nat_tests) in
        subst (λ (one : Row S W E). P one × (one.number ≡ row)) same (all.0, number)
    by_test false t f later = later f

  -- what is true of none and of each row is true of what is looked for
  pub looked_for : (P : Option (Row S W E) → Type 0) (rows : List (Row S W E)) (row : ℕ) → P None → AllByRecursion (λ r. P (Some r)) rows → P (row_of rows row)
  looked_for P [] row none all = none
  looked_for P (q ∷ rows) row none all = by_test (q.number == row) (looked_for P rows row none all.1) where
    by_test : (b : Bool) → P (row_of rows row) → P (cond b (Some q) (row_of rows row))
    by_test true later = all.0
    by_test false later = later

  -- of a row that is ready
  pub ready_row : (P : ℕ → Type 0) (number : S → ℕ) (finds : W → Bool) (rows : List (Row S W E)) (row : ℕ) (state : S)
      → AllByRecursion (λ r. is_itself r.by ≡ true → is_among number r.from state ≡ true → finds r.wants ≡ true → P r.number) rows
      → first_itself number finds rows state ≡ Some row → P row
  ready_row P number finds [] row state all e = absurd (cc)
  ready_row P number finds (r ∷ rows) row state all e =
      by_test (is_itself r.by && (is_among number r.from state && finds r.wants)) refl e (ready_row P number finds rows row state all.1)
    where
      by_test : (b : Bool) → (is_itself r.by && (is_among number r.from state && finds r.wants)) ≡ b → cond b (Some r.number) (first_itself number finds rows state) ≡ Some row → (first_itself number finds rows state ≡ Some row → P row) → P row
      by_test true t f later =
          let same : r.number ≡ row = cc in
          let outer = and_parts (is_itself r.by) (is_among number r.from state && finds r.wants) t in
          let inner = and_parts (is_among number r.from state) (finds r.wants) outer.1 in
          subst P same (all.0 outer.0 inner.0 inner.1)
      by_test false t f later = later f

  -- a ready row may fire, in a table in which each row is found by its number
  ready_fires : (number : S → ℕ) (finds : W → Bool) (table rows : List (Row S W E)) (row : ℕ) (state : S)
      → AllByRecursion (λ r. row_of table r.number ≡ Some r) rows
      → first_itself number finds rows state ≡ Some row → may_fire number finds table row state ≡ true
  ready_fires number finds table [] row state apart e = absurd (cc)
  ready_fires number finds table (r ∷ rows) row state apart e =
      by_test (is_itself r.by && (is_among number r.from state && finds r.wants)) refl e (ready_fires number finds table rows row state apart.1)
    where
      by_test : (b : Bool) → (is_itself r.by && (is_among number r.from state && finds r.wants)) ≡ b → cond b (Some r.number) (first_itself number finds rows state) ≡ Some row → (first_itself number finds rows state ≡ Some row → may_fire number finds table row state ≡ true) → may_fire number finds table row state ≡ true
      by_test true t f later =
          let same : r.number ≡ row = cc in
          let outer = and_parts (is_itself r.by) (is_among number r.from state && finds r.wants) t in
          let inner = and_parts (is_among number r.from state) (finds r.wants) outer.1 in
          subst (λ (n : ℕ). may_fire number finds table n state ≡ true) same
          (subst (λ (o : Option (Row S W E)). found_starts number finds state o ≡ true) (sym apart.0)
          (both (is_creation r.by || is_among number r.from state) (finds r.wants) (or_second (is_creation r.by) (is_among number r.from state) inner.0) inner.1))
      by_test false t f later = later f

  pub ready_may_fire : (number : S → ℕ) (finds : W → Bool) (table : List (Row S W E)) (row : ℕ) (state : S)
      → AllByRecursion (λ r. row_of table r.number ≡ Some r) table
      → first_itself number finds table state ≡ Some row → may_fire number finds table row state ≡ true
  ready_may_fire number finds table row state apart e = ready_fires number finds table table row state apart e
