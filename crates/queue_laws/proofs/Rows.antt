-- What holds of the rows of tables 14 and 15 that start, by the states in which they start.
use Rattle.std.proofs.Common.{◌≡◌, ℕ, ◌==◌, Bool, true, false, true≢false, cond, not, ◌&&◌, ◌||◌, List, [], ◌∷◌, Some, None, refl, sym, ◌∙◌, subst, arith}
use Rattle.std.specs.List.{list_all}
use Rattle.std.proofs.lemmas.Bool.Decides.{nat_tests}
use Rattle.gem_tables.specs.Table.{Row, is_one_of, is_itself, is_creation, is_among, row_of, found_starts, after, first_itself}
use Rattle.gem_tables.proofs.Rows.{one_of_cases}
use Rattle.process_job.specs.Tables.{JobWant, job_number, job_table}
use Rattle.process_job.specs.Tables as want
use Rattle.process_job.specs.declared.record.JobState.{JobState}
use Rattle.process_job.specs.declared.record.JobState.TheVariants as state
use Rattle.control_job.specs.Tables.{ControlWant, control_table, states_number, state_number}
use Rattle.control_job.specs.Tables as control_want
use Rattle.control_job.specs.Record.{control_starts, control_fired, is_active, is_completed}
use Rattle.control_job.specs.declared.record.ControlState.{ControlState}
use Rattle.control_job.specs.declared.record.ControlState.TheVariants.{Queued, Selected, WaitingForStart, Executing, Paused, Completed}
use Rattle.control_job.specs.declared.record.Ending.{Ending}
use Rattle.control_job.specs.declared.record.Ending.TheVariants.{No, ByStop, ByAbort}
use Rattle.control_job.specs.declared.record.ControlJobRecord.{ControlJobRecord}
use Rattle.records.proofs.Truth.{and_true}
use Rattle.tool_jobs.specs.Wants.{is_ending}
use Rattle.tool_jobs.proofs.Rows.{after_meets}
use Rattle.queue_laws.specs.Started.{is_queued, is_begun}
use Rattle.queue_laws.specs.Steers.{goes_on}

-- ---- any table

module _ {S W E : Type 0} where
  -- of a row that starts: what is true of each row that can start in the state and wants nothing that is refused
  pub start_fits : (number : S → ℕ) (finds refused : W → Bool) (good : ℕ → Bool) (rows : List (Row S W E)) (row : ℕ) (state : S)
      → ((w : W) → refused w ≡ true → finds w ≡ false)
      → list_all (λ (r : Row S W E). (not (is_creation r.by || is_among number r.from state) || refused r.wants) || good r.number) rows ≡ true
      → found_starts number finds state (row_of rows row) ≡ true → good row ≡ true
  start_fits number finds refused good [] row state none h e = absurd (true≢false (sym e))
  start_fits number finds refused good (r ∷ rows) row state none h e =
      let parts = and_true ((not (is_creation r.by || is_among number r.from state) || refused r.wants) || good r.number) (list_all (λ (q : Row S W E). (not (is_creation q.by || is_among number q.from state) || refused q.wants) || good q.number) rows) h in
      by_test (r.number == row) refl parts.0 e (start_fits number finds refused good rows row state none parts.1)
    where
      here : (a b c : Bool) → refused r.wants ≡ b → (a && finds r.wants) ≡ true → ((not a || b) || c) ≡ true → c ≡ true
      here false b c p f g = absurd (true≢false (sym f))
      here true true c p f g = absurd (true≢false (sym f ∙ none r.wants p))
      here true false c p f g = g

      by_test : (b : Bool) → (r.number == row) ≡ b → ((not (is_creation r.by || is_among number r.from state) || refused r.wants) || good r.number) ≡ true
          → found_starts number finds state (cond b (Some r) (row_of rows row)) ≡ true → (found_starts number finds state (row_of rows row) ≡ true → good row ≡ true) → good row ≡ true
      by_test true t g f later =
          let same : r.number ≡ row = grind (arith, nat_tests, t) in
          subst (λ (n : ℕ). good n ≡ true) same (here (is_creation r.by || is_among number r.from state) (refused r.wants) (good r.number) refl f g)
      by_test false t g f later = later f

  -- and of one that is ready by itself
  pub ready_fits : (number : S → ℕ) (finds refused : W → Bool) (good : ℕ → Bool) (rows : List (Row S W E)) (row : ℕ) (state : S)
      → ((w : W) → refused w ≡ true → finds w ≡ false)
      → list_all (λ (r : Row S W E). (not (is_itself r.by && is_among number r.from state) || refused r.wants) || good r.number) rows ≡ true
      → first_itself number finds rows state ≡ Some row → good row ≡ true
  ready_fits number finds refused good [] row state none h e = absurd (cc)
  ready_fits number finds refused good (r ∷ rows) row state none h e =
      let parts = and_true ((not (is_itself r.by && is_among number r.from state) || refused r.wants) || good r.number) (list_all (λ (q : Row S W E). (not (is_itself q.by && is_among number q.from state) || refused q.wants) || good q.number) rows) h in
      by_test (is_itself r.by) (is_among number r.from state) (finds r.wants) refl parts.0 e (ready_fits number finds refused good rows row state none parts.1)
    where
      here : (b c : Bool) → refused r.wants ≡ b → finds r.wants ≡ true → (b || c) ≡ true → c ≡ true
      here true c p f g = absurd (true≢false (sym f ∙ none r.wants p))
      here false c p f g = g

      by_test : (a b f : Bool) → finds r.wants ≡ f → ((not (a && b) || refused r.wants) || good r.number) ≡ true
          → cond (a && (b && f)) (Some r.number) (first_itself number finds rows state) ≡ Some row → (first_itself number finds rows state ≡ Some row → good row ≡ true) → good row ≡ true
      by_test true true true p g t later =
          let same : r.number ≡ row = cc in
          subst (λ (n : ℕ). good n ≡ true) same (here (refused r.wants) (good r.number) refl p g)
      by_test true true false p g t later = later t
      by_test true false f p g t later = later t
      by_test false b f p g t later = later t

-- ---- table 14

-- a process job that is QUEUED stays so, but for row 2
pub stays_queued : (row : ℕ) (s : JobState) → (row == 2) ≡ false → is_queued s ≡ true → is_queued (after job_number job_table row s) ≡ true
stays_queued row state.Queued two e = after_meets job_number is_queued (λ n. n == 2) row state.Queued job_table two refl refl
stays_queued row _ two e = absurd (true≢false (sym e))

-- one goes on, but for the rows that start by hand, pause, stop or abort it
abbrev pub turns : ℕ → Bool
turns row = is_one_of (3 ∷ 8 ∷ 9 ∷ 11 ∷ 12 ∷ 17 ∷ 18 ∷ []) row

pub goes_on_behind : (row : ℕ) (s : JobState) → turns row ≡ false → goes_on s ≡ true → goes_on (after job_number job_table row s) ≡ true
goes_on_behind row state.Queued t e = after_meets job_number goes_on turns row state.Queued job_table t refl refl
goes_on_behind row state.SettingUp t e = after_meets job_number goes_on turns row state.SettingUp job_table t refl refl
goes_on_behind row state.Processing t e = after_meets job_number goes_on turns row state.Processing job_table t refl refl
goes_on_behind row state.Complete t e = after_meets job_number goes_on turns row state.Complete job_table t refl refl
goes_on_behind row _ t e = absurd (true≢false (sym e))

-- what isn't found for a process job that starts by itself, whose control job isn't ending
abbrev pub is_refused : JobWant → Bool
is_refused want.start_by_hand = true
is_refused want.control_job_ends = true
is_refused want.control_job_stops = true
is_refused want.control_job_aborts = true
is_refused _ = false

-- the rows that start at such a one that goes on: its creation, 2, 4, 6 and 7, and those that disturb it
abbrev pub going_rows : ℕ → Bool
going_rows row = is_one_of (1 ∷ 2 ∷ 4 ∷ 6 ∷ 7 ∷ 8 ∷ 11 ∷ 12 ∷ 15 ∷ []) row

pub starts_going : (finds : JobWant → Bool) (row : ℕ) (s : JobState) → ((w : JobWant) → is_refused w ≡ true → finds w ≡ false) → goes_on s ≡ true
    → found_starts job_number finds s (row_of job_table row) ≡ true → going_rows row ≡ true
starts_going finds row state.Queued none g e = start_fits job_number finds is_refused going_rows job_table row state.Queued none refl e
starts_going finds row state.SettingUp none g e = start_fits job_number finds is_refused going_rows job_table row state.SettingUp none refl e
starts_going finds row state.Processing none g e = start_fits job_number finds is_refused going_rows job_table row state.Processing none refl e
starts_going finds row state.Complete none g e = start_fits job_number finds is_refused going_rows job_table row state.Complete none refl e
starts_going finds row _ none g e = absurd (true≢false (sym g))

pub ready_going : (finds : JobWant → Bool) (row : ℕ) (s : JobState) → ((w : JobWant) → is_refused w ≡ true → finds w ≡ false) → goes_on s ≡ true
    → first_itself job_number finds job_table s ≡ Some row → is_one_of (2 ∷ 4 ∷ 6 ∷ 7 ∷ []) row ≡ true
ready_going finds row state.Queued none g e = ready_fits job_number finds is_refused (is_one_of (2 ∷ 4 ∷ 6 ∷ 7 ∷ [])) job_table row state.Queued none refl e
ready_going finds row state.SettingUp none g e = ready_fits job_number finds is_refused (is_one_of (2 ∷ 4 ∷ 6 ∷ 7 ∷ [])) job_table row state.SettingUp none refl e
ready_going finds row state.Processing none g e = ready_fits job_number finds is_refused (is_one_of (2 ∷ 4 ∷ 6 ∷ 7 ∷ [])) job_table row state.Processing none refl e
ready_going finds row state.Complete none g e = ready_fits job_number finds is_refused (is_one_of (2 ∷ 4 ∷ 6 ∷ 7 ∷ [])) job_table row state.Complete none refl e
ready_going finds row _ none g e = absurd (true≢false (sym g))

-- what isn't found for one that is QUEUED and isn't the first left in a control job that executes, whose control job isn't ending
abbrev pub is_refused_waiting : JobWant → Bool
is_refused_waiting want.first_left = true
is_refused_waiting want.control_job_ends = true
is_refused_waiting want.control_job_stops = true
is_refused_waiting want.control_job_aborts = true
is_refused_waiting _ = false

pub starts_waiting : (finds : JobWant → Bool) (row : ℕ) (s : JobState) → ((w : JobWant) → is_refused_waiting w ≡ true → finds w ≡ false) → is_queued s ≡ true
    → found_starts job_number finds s (row_of job_table row) ≡ true → is_one_of (1 ∷ 15 ∷ []) row ≡ true
starts_waiting finds row state.Queued none g e = start_fits job_number finds is_refused_waiting (is_one_of (1 ∷ 15 ∷ [])) job_table row state.Queued none refl e
starts_waiting finds row _ none g e = absurd (true≢false (sym g))

pub ready_waiting : (finds : JobWant → Bool) (row : ℕ) (s : JobState) → ((w : JobWant) → is_refused_waiting w ≡ true → finds w ≡ false) → is_queued s ≡ true
    → first_itself job_number finds job_table s ≡ Some row → ⊥
ready_waiting finds row state.Queued none g e = true≢false (sym (ready_fits job_number finds is_refused_waiting (λ n. false) job_table row state.Queued none refl e))
ready_waiting finds row _ none g e = absurd (true≢false (sym g))

-- ---- table 15

-- EXECUTING or PAUSED, ending or not, stays so, but for row 8
pub stays_begun : (row : ℕ) (s : ControlJobRecord) → (row == 8) ≡ false → is_begun s.state ≡ true → is_begun (control_fired row s).state ≡ true
stays_begun row s eight e = by_state s.state s.ending e where
  by_state : (a : ControlState) (b : Ending) → is_begun a ≡ true → is_begun (control_fired row (record { state = a; ending = b })).state ≡ true
  by_state Executing No f = after_meets states_number (λ (t : ControlJobRecord). is_begun t.state) (λ n. n == 8) row (record { state = Executing; ending = No }) control_table eight refl refl
  by_state Executing ByStop f = after_meets states_number (λ (t : ControlJobRecord). is_begun t.state) (λ n. n == 8) row (record { state = Executing; ending = ByStop }) control_table eight refl refl
  by_state Executing ByAbort f = after_meets states_number (λ (t : ControlJobRecord). is_begun t.state) (λ n. n == 8) row (record { state = Executing; ending = ByAbort }) control_table eight refl refl
  by_state Paused No f = after_meets states_number (λ (t : ControlJobRecord). is_begun t.state) (λ n. n == 8) row (record { state = Paused; ending = No }) control_table eight refl refl
  by_state Paused ByStop f = after_meets states_number (λ (t : ControlJobRecord). is_begun t.state) (λ n. n == 8) row (record { state = Paused; ending = ByStop }) control_table eight refl refl
  by_state Paused ByAbort f = after_meets states_number (λ (t : ControlJobRecord). is_begun t.state) (λ n. n == 8) row (record { state = Paused; ending = ByAbort }) control_table eight refl refl
  by_state _ b f = absurd (true≢false (sym f))

-- row 9 starts at none that is
pub keeps_left : (s : ControlJobRecord) → is_begun s.state ≡ true → control_starts 9 s ≡ false
keeps_left s e = by_state s.state s.ending e where
  by_state : (a : ControlState) (b : Ending) → is_begun a ≡ true → control_starts 9 (record { state = a; ending = b }) ≡ false
  by_state Executing No f = refl
  by_state Executing ByStop f = refl
  by_state Executing ByAbort f = refl
  by_state Paused No f = refl
  by_state Paused ByStop f = refl
  by_state Paused ByAbort f = refl
  by_state _ b f = absurd (true≢false (sym f))

-- one that is ending is EXECUTING, behind any row
abbrev pub ends_executing : ControlJobRecord → Bool
ends_executing s = not (is_ending s.ending) || (state_number s.state == 3)

module _ {S W E : Type 0} where
  -- the state behind a row passes a test that the state before it passes, and the end of each row
  after_good : (number : S → ℕ) (good : S → Bool) (row : ℕ) (state : S) (rows : List (Row S W E)) → good state ≡ true
      → list_all (λ (r : Row S W E). good r.to) rows ≡ true → good (after number rows row state) ≡ true
  after_good number good row state [] g h = g
  after_good number good row state (r ∷ rows) g h =
      let parts = and_true (good r.to) (list_all (λ (q : Row S W E). good q.to) rows) h in
      by_test ((r.number == row) && is_among number r.from state) parts.0 (after_good number good row state rows g parts.1)
    where
      by_test : (b : Bool) → good r.to ≡ true → good (after number rows row state) ≡ true → good (cond b r.to (after number rows row state)) ≡ true
      by_test true t later = t
      by_test false t later = later

pub stays_ending : (row : ℕ) (s : ControlJobRecord) → ends_executing s ≡ true → ends_executing (control_fired row s) ≡ true
stays_ending row s e = after_good states_number ends_executing row s control_table e refl

-- what is so of EXECUTING that isn't ending is so of the states that say so
pub by_executing : (P : ControlJobRecord → Type 0) → P (record { state = Executing; ending = No }) → (s : ControlJobRecord) → (states_number s == 3) ≡ true → P s
by_executing P is s three = of s.state s.ending three where
  of : (a : ControlState) (b : Ending) → (states_number (record { state = a; ending = b }) == 3) ≡ true → P (record { state = a; ending = b })
  of Executing No t = is
  of _ No t = absurd (true≢false (sym t))
  of Executing ByStop t = absurd (true≢false (sym t))
  of _ ByStop t = absurd (true≢false (sym t))
  of Executing ByAbort t = absurd (true≢false (sym t))
  of _ ByAbort t = absurd (true≢false (sym t))

-- the rows that start at one that is EXECUTING and isn't ending: its creation, 8, and those that disturb it
pub starts_executing : (finds : ControlWant → Bool) (row : ℕ) (s : ControlJobRecord) → (states_number s == 3) ≡ true
    → found_starts states_number finds s (row_of control_table row) ≡ true → is_one_of (1 ∷ 6 ∷ 8 ∷ 11 ∷ 12 ∷ []) row ≡ true
starts_executing finds row s three e = by_executing (λ (x : ControlJobRecord). found_starts states_number finds x (row_of control_table row) ≡ true → is_one_of (1 ∷ 6 ∷ 8 ∷ 11 ∷ 12 ∷ []) row ≡ true)
    (λ f. start_fits states_number finds (λ w. false) (is_one_of (1 ∷ 6 ∷ 8 ∷ 11 ∷ 12 ∷ [])) control_table row (record { state = Executing; ending = No }) (λ w g. absurd (true≢false (sym g))) refl f)
    s three e

-- at one that isn't active, where another is
abbrev pub is_refused_passive : ControlWant → Bool
is_refused_passive control_want.first_queued_and_none_active = true
is_refused_passive _ = false

pub starts_passive : (finds : ControlWant → Bool) (row : ℕ) (s : ControlJobRecord) → ((w : ControlWant) → is_refused_passive w ≡ true → finds w ≡ false) → is_active s.state ≡ false → ends_executing s ≡ true
    → found_starts states_number finds s (row_of control_table row) ≡ true → is_one_of (1 ∷ 9 ∷ []) row ≡ true
starts_passive finds row s none a e f = by_state s.state s.ending a e f where
  by_state : (a : ControlState) (b : Ending) → is_active a ≡ false → ends_executing (record { state = a; ending = b }) ≡ true
      → found_starts states_number finds (record { state = a; ending = b }) (row_of control_table row) ≡ true → is_one_of (1 ∷ 9 ∷ []) row ≡ true
  by_state Queued No t g f = start_fits states_number finds is_refused_passive (is_one_of (1 ∷ 9 ∷ [])) control_table row (record { state = Queued; ending = No }) none refl f
  by_state Completed No t g f = start_fits states_number finds is_refused_passive (is_one_of (1 ∷ 9 ∷ [])) control_table row (record { state = Completed; ending = No }) none refl f
  by_state Queued ByStop t g f = absurd (true≢false (sym g))
  by_state Queued ByAbort t g f = absurd (true≢false (sym g))
  by_state Completed ByStop t g f = absurd (true≢false (sym g))
  by_state Completed ByAbort t g f = absurd (true≢false (sym g))
  by_state _ b t g f = absurd (true≢false t)

-- none is ready there by itself
pub ready_passive : (finds : ControlWant → Bool) (row : ℕ) (s : ControlJobRecord) → ((w : ControlWant) → is_refused_passive w ≡ true → finds w ≡ false) → is_active s.state ≡ false → ends_executing s ≡ true
    → first_itself states_number finds control_table s ≡ Some row → ⊥
ready_passive finds row s none a e f = by_state s.state s.ending a e f where
  by_state : (a : ControlState) (b : Ending) → is_active a ≡ false → ends_executing (record { state = a; ending = b }) ≡ true
      → first_itself states_number finds control_table (record { state = a; ending = b }) ≡ Some row → ⊥
  by_state Queued No t g f = true≢false (sym (ready_fits states_number finds is_refused_passive (λ n. false) control_table row (record { state = Queued; ending = No }) none refl f))
  by_state Completed No t g f = true≢false (sym (ready_fits states_number finds is_refused_passive (λ n. false) control_table row (record { state = Completed; ending = No }) none refl f))
  by_state Queued ByStop t g f = absurd (true≢false (sym g))
  by_state Queued ByAbort t g f = absurd (true≢false (sym g))
  by_state Completed ByStop t g f = absurd (true≢false (sym g))
  by_state Completed ByAbort t g f = absurd (true≢false (sym g))
  by_state _ b t g f = absurd (true≢false t)

-- at one that is EXECUTING and isn't ending, row 8 is ready, where none is left
pub ready_executing : (finds : ControlWant → Bool) (s : ControlJobRecord) → (states_number s == 3) ≡ true
    → first_itself states_number finds control_table s ≡ cond (finds control_want.none_left) (Some 8) None
ready_executing finds s three = by_executing (λ (x : ControlJobRecord). first_itself states_number finds control_table x ≡ cond (finds control_want.none_left) (Some 8) None) refl s three

-- ---- what rows 4 and 5 of table 15 start at

-- it is active and not begun, and behind the row EXECUTING
pub record Starting (row : ℕ) (s : ControlJobRecord) : Type 0 where
  pub active : is_active s.state ≡ true
  pub not_begun : is_begun s.state ≡ false
  pub executing : states_number (control_fired row s) ≡ 3
  pub open_then : is_completed (control_fired row s).state ≡ false
  pub open_now : is_completed s.state ≡ false

pub starting : (finds : ControlWant → Bool) (row : ℕ) (s : ControlJobRecord) → is_one_of (4 ∷ 5 ∷ []) row ≡ true
    → found_starts states_number finds s (row_of control_table row) ≡ true → Starting row s
starting finds row s r e = one_of_cases (λ (n : ℕ). found_starts states_number finds s (row_of control_table n) ≡ true → Starting n s) (4 ∷ 5 ∷ []) row ((λ f. four s.state s.ending f), ((λ f. five s.state s.ending f), tt)) r e where
  four : (a : ControlState) (b : Ending) → found_starts states_number finds (record { state = a; ending = b }) (row_of control_table 4) ≡ true → Starting 4 (record { state = a; ending = b })
  four Selected No f = record { active = refl; not_begun = refl; executing = refl; open_then = refl; open_now = refl }
  four _ No f = absurd (true≢false (sym f))
  four Selected ByStop f = absurd (true≢false (sym f))
  four _ ByStop f = absurd (true≢false (sym f))
  four Selected ByAbort f = absurd (true≢false (sym f))
  four _ ByAbort f = absurd (true≢false (sym f))

  five : (a : ControlState) (b : Ending) → found_starts states_number finds (record { state = a; ending = b }) (row_of control_table 5) ≡ true → Starting 5 (record { state = a; ending = b })
  five WaitingForStart No f = record { active = refl; not_begun = refl; executing = refl; open_then = refl; open_now = refl }
  five _ No f = absurd (true≢false (sym f))
  five WaitingForStart ByStop f = absurd (true≢false (sym f))
  five _ ByStop f = absurd (true≢false (sym f))
  five WaitingForStart ByAbort f = absurd (true≢false (sym f))
  five _ ByAbort f = absurd (true≢false (sym f))

-- ---- what states say

pub begun_active : (s : ControlState) → is_begun s ≡ true → is_active s ≡ true
begun_active Executing e = refl
begun_active Paused e = refl
begun_active _ e = absurd (true≢false (sym e))

pub active_open : (s : ControlState) → is_active s ≡ true → is_completed s ≡ false
active_open Completed e = absurd (true≢false (sym e))
active_open Queued e = refl
active_open Selected e = refl
active_open WaitingForStart e = refl
active_open Executing e = refl
active_open Paused e = refl

-- EXECUTING and not ending
pub record Executed (s : ControlJobRecord) : Type 0 where
  pub active : is_active s.state ≡ true
  pub begun : is_begun s.state ≡ true
  pub not_ending : is_ending s.ending ≡ false

pub executed : (s : ControlJobRecord) → (states_number s == 3) ≡ true → Executed s
executed s three = by_executing Executed (record { active = refl; begun = refl; not_ending = refl }) s three

-- one that isn't active isn't ending
pub passive_not_ending : (s : ControlJobRecord) → is_active s.state ≡ false → ends_executing s ≡ true → is_ending s.ending ≡ false
passive_not_ending s a e = by_state s.state s.ending a e where
  by_state : (a : ControlState) (b : Ending) → is_active a ≡ false → ends_executing (record { state = a; ending = b }) ≡ true → is_ending b ≡ false
  by_state a No t f = refl
  by_state Queued ByStop t f = absurd (true≢false (sym f))
  by_state Queued ByAbort t f = absurd (true≢false (sym f))
  by_state Completed ByStop t f = absurd (true≢false (sym f))
  by_state Completed ByAbort t f = absurd (true≢false (sym f))
  by_state _ ByStop t f = absurd (true≢false t)
  by_state _ ByAbort t f = absurd (true≢false t)
