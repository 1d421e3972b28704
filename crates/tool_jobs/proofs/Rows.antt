-- What is true of each row of a table that can start is true behind one that starts.
use Rattle.std.proofs.Common.{◌≡◌, ℕ, ◌==◌, Bool, true, false, true≢false, cond, not, ◌&&◌, ◌||◌, List, [], ◌∷◌, Some, refl, sym, subst, arith}
use Rattle.std.specs.List.{list_all, AllByRecursion}
use Rattle.std.proofs.lemmas.Bool.Decides.{nat_tests}
use Rattle.gem_tables.specs.Table.{Row, is_itself, is_among, after, first_itself}
use Rattle.gem_tables.proofs.Rows.{ready_row}
use Rattle.records.proofs.Truth.{and_true}
use Rattle.control_job.specs.Record.{control_fired, is_active, is_completed}
use Rattle.control_job.specs.Tables.{control_table, states_number}
use Rattle.control_job.specs.declared.record.ControlState.{ControlState}
use Rattle.control_job.specs.declared.record.ControlState.TheVariants.{Queued, Selected, WaitingForStart, Executing, Paused, Completed}
use Rattle.control_job.specs.declared.record.Ending.{Ending}
use Rattle.control_job.specs.declared.record.Ending.TheVariants.{No, ByStop, ByAbort}
use Rattle.control_job.specs.declared.record.ControlJobRecord.{ControlJobRecord}

module _ {S W E : Type 0} where
  -- the state behind a row passes a test that the state before it passes, and the end of each row that can start there, but for
  -- rows of some numbers, of which it is none
  pub after_meets : (number : S → ℕ) (good : S → Bool) (skipped : ℕ → Bool) (row : ℕ) (state : S) (rows : List (Row S W E)) → skipped row ≡ false → good state ≡ true
      → list_all (λ (r : Row S W E). (skipped r.number || not (is_among number r.from state)) || good r.to) rows ≡ true → good (after number rows row state) ≡ true
  after_meets number good skipped row state [] s g h = g
  after_meets number good skipped row state (r ∷ rows) s g h =
      let parts = and_true ((skipped r.number || not (is_among number r.from state)) || good r.to) (list_all (λ (q : Row S W E). (skipped q.number || not (is_among number q.from state)) || good q.to) rows) h in
      by_test (r.number == row) (is_among number r.from state) refl parts.0 (after_meets number good skipped row state rows s g parts.1)
    where
      plain : (a b : Bool) → a ≡ false → ((a || false) || b) ≡ true → b ≡ true
      plain true b e f = absurd (true≢false e)
      plain false b e f = f

      by_test : (a b : Bool) → (r.number == row) ≡ a → ((skipped r.number || not b) || good r.to) ≡ true → good (after number rows row state) ≡ true → good (cond (a && b) r.to (after number rows row state)) ≡ true
      by_test true true t f later =
          let same : row ≡ r.number = grind (arith, nat_tests, t) in
          plain (skipped r.number) (good r.to) (subst (λ (n : ℕ). skipped n ≡ false) same s) f
      by_test true false t f later = later
      by_test false b t f later = later

  all_of : (number : S → ℕ) (finds : W → Bool) (good : ℕ → Bool) (state : S) (rows : List (Row S W E))
      → list_all (λ (r : Row S W E). not (is_itself r.by && is_among number r.from state) || good r.number) rows ≡ true
      → AllByRecursion (λ (r : Row S W E). is_itself r.by ≡ true → is_among number r.from state ≡ true → finds r.wants ≡ true → good r.number ≡ true) rows
  all_of number finds good state [] h = tt
  all_of number finds good state (r ∷ rows) h =
      let parts = and_true (not (is_itself r.by && is_among number r.from state) || good r.number) (list_all (λ (q : Row S W E). not (is_itself q.by && is_among number q.from state) || good q.number) rows) h in
      ((λ a b c. last (is_itself r.by) (is_among number r.from state) (good r.number) a b parts.0), all_of number finds good state rows parts.1)
    where
      last : (a b g : Bool) → a ≡ true → b ≡ true → (not (a && b) || g) ≡ true → g ≡ true
      last true true g x y f = f
      last true false g x y f = absurd (true≢false (sym y))
      last false b g x y f = absurd (true≢false (sym x))

  -- the number of a row that is ready passes a test that each passes that can start there by itself
  pub ready_meets : (number : S → ℕ) (finds : W → Bool) (good : ℕ → Bool) (rows : List (Row S W E)) (row : ℕ) (state : S)
      → list_all (λ (r : Row S W E). not (is_itself r.by && is_among number r.from state) || good r.number) rows ≡ true
      → first_itself number finds rows state ≡ Some row → good row ≡ true
  ready_meets number finds good rows row state h e = ready_row (λ n. good n ≡ true) number finds rows row state (all_of number finds good state rows h) e

-- ---- table 15

-- a control job that is COMPLETED stays so
pub stays_completed : (row : ℕ) (s : ControlJobRecord) → is_completed s.state ≡ true → is_completed (control_fired row s).state ≡ true
stays_completed row s e = by_state s.state s.ending e where
  by_state : (state : ControlState) (ending : Ending) → is_completed state ≡ true → is_completed (control_fired row (record { state = state; ending = ending })).state ≡ true
  by_state Completed No f = after_meets states_number (λ (t : ControlJobRecord). is_completed t.state) (λ n. false) row (record { state = Completed; ending = No }) control_table refl refl refl
  by_state Completed ByStop f = after_meets states_number (λ (t : ControlJobRecord). is_completed t.state) (λ n. false) row (record { state = Completed; ending = ByStop }) control_table refl refl refl
  by_state Completed ByAbort f = after_meets states_number (λ (t : ControlJobRecord). is_completed t.state) (λ n. false) row (record { state = Completed; ending = ByAbort }) control_table refl refl refl
  by_state Queued ending f = absurd (true≢false (sym f))
  by_state Selected ending f = absurd (true≢false (sym f))
  by_state WaitingForStart ending f = absurd (true≢false (sym f))
  by_state Executing ending f = absurd (true≢false (sym f))
  by_state Paused ending f = absurd (true≢false (sym f))

-- one becomes active by row 2 alone
pub stays_passive : (row : ℕ) (s : ControlJobRecord) → (row == 2) ≡ false → not (is_active s.state) ≡ true → not (is_active (control_fired row s).state) ≡ true
stays_passive row s two e = by_state s.state s.ending e where
  by_state : (state : ControlState) (ending : Ending) → not (is_active state) ≡ true → not (is_active (control_fired row (record { state = state; ending = ending })).state) ≡ true
  by_state Queued No f = after_meets states_number (λ (t : ControlJobRecord). not (is_active t.state)) (λ n. n == 2) row (record { state = Queued; ending = No }) control_table two refl refl
  by_state Queued ByStop f = after_meets states_number (λ (t : ControlJobRecord). not (is_active t.state)) (λ n. n == 2) row (record { state = Queued; ending = ByStop }) control_table two refl refl
  by_state Queued ByAbort f = after_meets states_number (λ (t : ControlJobRecord). not (is_active t.state)) (λ n. n == 2) row (record { state = Queued; ending = ByAbort }) control_table two refl refl
  by_state Completed No f = after_meets states_number (λ (t : ControlJobRecord). not (is_active t.state)) (λ n. n == 2) row (record { state = Completed; ending = No }) control_table two refl refl
  by_state Completed ByStop f = after_meets states_number (λ (t : ControlJobRecord). not (is_active t.state)) (λ n. n == 2) row (record { state = Completed; ending = ByStop }) control_table two refl refl
  by_state Completed ByAbort f = after_meets states_number (λ (t : ControlJobRecord). not (is_active t.state)) (λ n. n == 2) row (record { state = Completed; ending = ByAbort }) control_table two refl refl
  by_state Selected ending f = absurd (true≢false (sym f))
  by_state WaitingForStart ending f = absurd (true≢false (sym f))
  by_state Executing ending f = absurd (true≢false (sym f))
  by_state Paused ending f = absurd (true≢false (sym f))
