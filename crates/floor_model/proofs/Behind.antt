-- What a row of the table of moves leaves of a module.
use Rattle.std.proofs.Common.{◌≡◌, ℕ, zero, suc, ◌==◌, ◌<◌, Bool, true, false, ◌&&◌, if◌then◌else◌, List, [], ◌∷◌, length, Option, Some, None, slice_get, refl, sym, subst, ap, arith, ◌∙◌}
use Rattle.std.proofs.lemmas.Bool.Decides.{nat_tests}
use Rattle.gem_tables.specs.Table.{update_at}
use Rattle.robot_moves.specs.Modules.{module_at, change_module, closed, goes_down, comes_up}
use Rattle.robot_moves.specs.declared.module.Module.{Module}
use Rattle.robot_moves.specs.declared.module.Module.TheVariants.{Idle, Busy, Down}
use Rattle.robot_moves.specs.declared.module.ModuleState.TheVariants as state
use Rattle.floor_model.specs.Modules.{in_state, module_behind}
use Rattle.floor_model.specs.Signals.{open_number}

-- ---- the modules by their numbers

update_agree : (n : ℕ) (c d : Module → Module) (ms : List Module) → ((m : Module) → slice_get ms n ≡ Some m → c m ≡ d m) → update_at n c ms ≡ update_at n d ms
update_agree n c d [] agree = refl
update_agree zero c d (m ∷ ms) agree = ap (λ (x : Module). x ∷ ms) (agree m refl)
update_agree (suc n) c d (m ∷ ms) agree = ap (λ (xs : List Module). m ∷ xs) (update_agree n c d ms agree)

-- two changes that agree on the module of a number are the same change of it
pub change_agree : (n : ℕ) (c d : Module → Module) (ms : List Module) → ((m : Module) → module_at n ms ≡ Some m → c m ≡ d m) → change_module n c ms ≡ change_module n d ms
change_agree zero c d ms agree = refl
change_agree (suc n) c d ms agree = update_agree n c d ms agree

update_past : (n : ℕ) (c : Module → Module) (ms : List Module) → length ms < suc n → update_at n c ms ≡ ms
update_past n c [] past = refl
update_past zero c (m ∷ ms) past = absurd (omega (arith, past))
update_past (suc n) c (m ∷ ms) past = ap (λ (xs : List Module). m ∷ xs) (update_past n c ms (omega (arith, past)))

-- behind the last there is none to change
pub change_past : (n : ℕ) (c : Module → Module) (ms : List Module) → length ms < n → change_module n c ms ≡ ms
change_past zero c ms past = refl
change_past (suc n) c ms past = update_past n c ms past

get_past : (n : ℕ) (ms : List Module) → length ms < suc n → slice_get ms n ≡ None
get_past n [] past = refl
get_past zero (m ∷ ms) past = absurd (omega (arith, past))
get_past (suc n) (m ∷ ms) past = get_past n ms (omega (arith, past))

pub none_past : (n : ℕ) (ms : List Module) → length ms < n → module_at n ms ≡ None
none_past zero ms past = refl
none_past (suc n) ms past = get_past n ms past

-- ---- rows

own_number : (n : ℕ) → (n == n) ≡ true
own_number n = grind (arith, nat_tests)

-- rows 5 to 7
module _ (row : ℕ) (ends : (m : Module) → module_behind row m ≡ module_behind 5 m) where
  done_one : (m : Module) → closed (open_number (Some m)) Idle m ≡ module_behind row m
  done_one Idle = sym (ends Idle)
  done_one (Busy c f) = rw (own_number c.number.0) (sym (ends (Busy c f)))
  done_one Down = sym (ends Down)

pub done_behind : (row n : ℕ) (ms : List Module) → ((m : Module) → module_behind row m ≡ module_behind 5 m) → change_module n (closed (open_number (module_at n ms)) Idle) ms ≡ change_module n (module_behind row) ms
done_behind row n ms ends =
    change_agree n (closed (open_number (module_at n ms)) Idle) (module_behind row) ms
    (λ m at. rw at (done_one row ends m))

pub ends_5 : (row : ℕ) → row ≡ 5 → (m : Module) → module_behind row m ≡ module_behind 5 m
ends_5 row is m = ap (λ (r : ℕ). module_behind r m) is

pub ends_6 : (row : ℕ) → row ≡ 6 → (m : Module) → module_behind row m ≡ module_behind 5 m
ends_6 row is m = ap (λ (r : ℕ). module_behind r m) is ∙ of m where
  of : (m : Module) → module_behind 6 m ≡ module_behind 5 m
  of Idle = refl
  of (Busy c f) = refl
  of Down = refl

pub ends_7 : (row : ℕ) → row ≡ 7 → (m : Module) → module_behind row m ≡ module_behind 5 m
ends_7 row is m = ap (λ (r : ℕ). module_behind r m) is ∙ of m where
  of : (m : Module) → module_behind 7 m ≡ module_behind 5 m
  of Idle = refl
  of (Busy c f) = refl
  of Down = refl

-- row 8
failed_one : (m : Module) → closed (open_number (Some m)) Down m ≡ module_behind 8 m
failed_one Idle = refl
failed_one (Busy c f) = rw (own_number c.number.0) refl
failed_one Down = refl

pub failed_behind : (row n : ℕ) (ms : List Module) → row ≡ 8 → change_module n (closed (open_number (module_at n ms)) Down) ms ≡ change_module n (module_behind row) ms
failed_behind row n ms is =
    change_agree n (closed (open_number (module_at n ms)) Down) (module_behind row) ms
    (λ m at. rw at (failed_one m ∙ ap (λ (r : ℕ). module_behind r m) (sym is)))

-- a number that isn't another
pub is_other : (n k : ℕ) → (n ≡ k → ⊥) → (n == k) ≡ false
is_other n k other = of (n == k) refl where
  of : (b : Bool) → (n == k) ≡ b → b ≡ false
  of true is = absurd (other (grind (arith, nat_tests, is)))
  of false is = refl

-- the others leave it
module _ (row : ℕ) (not_5 : (row == 5) ≡ false) (not_6 : (row == 6) ≡ false) (not_7 : (row == 7) ≡ false) (not_8 : (row == 8) ≡ false) (not_9 : (row == 9) ≡ false) (not_10 : (row == 10) ≡ false) where
  turned : (k : ℕ) → (row == k) ≡ false → (k == row) ≡ false
  turned k is = grind (arith, nat_tests, is)

  no_and : (b : Bool) → (b && false) ≡ false
  no_and true = refl
  no_and false = refl

  stays_one : (m : Module) → module_behind row m ≡ m
  stays_one Idle = rw (turned 5 not_5, turned 6 not_6, turned 7 not_7, turned 8 not_8, turned 9 not_9, turned 10 not_10) (of (1 == row) (2 == row) (3 == row) (4 == row)) where
    of : (first second third fourth : Bool) → in_state (if first && true then state.Busy else (if second && true then state.Busy else (if third && true then state.Busy else (if fourth && true then state.Busy else state.Idle)))) Idle ≡ Idle
    of true second third fourth = refl
    of false true third fourth = refl
    of false false true fourth = refl
    of false false false true = refl
    of false false false false = refl
  stays_one (Busy c f) = rw (no_and (1 == row), no_and (2 == row), no_and (3 == row), no_and (4 == row), no_and (10 == row), turned 5 not_5, turned 6 not_6, turned 7 not_7, turned 8 not_8, turned 9 not_9) refl
  stays_one Down = rw (no_and (1 == row), no_and (2 == row), no_and (3 == row), no_and (4 == row), no_and (5 == row), no_and (6 == row), no_and (7 == row), no_and (8 == row), no_and (9 == row), turned 10 not_10) refl

  same_all : (n : ℕ) (ms : List Module) → update_at n (λ m. m) ms ≡ ms
  same_all n [] = refl
  same_all zero (m ∷ ms) = refl
  same_all (suc n) (m ∷ ms) = ap (λ (xs : List Module). m ∷ xs) (same_all n ms)

  same_change : (n : ℕ) (ms : List Module) → change_module n (λ m. m) ms ≡ ms
  same_change zero ms = refl
  same_change (suc n) ms = same_all n ms

  pub stays_behind : (n : ℕ) (ms : List Module) → ms ≡ change_module n (module_behind row) ms
  stays_behind n ms =
      sym (change_agree n (module_behind row) (λ m. m) ms (λ m at. stays_one m) ∙ same_change n ms)
