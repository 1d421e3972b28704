-- A control job stays at work behind each row that a word fires and where jobs are created, and as much is owed; or it is disturbed for
-- good.
use Rattle.std.proofs.Common.{◌≡◌, ℕ, ◌==◌, Bool, true, false, not, List, [], ◌∷◌, Option, Some, None, option_map, refl, sym, ◌∙◌, ap, subst, inl, inr}
use Rattle.std.proofs.lemmas.Bool.{true≢false}
use Rattle.std.proofs.lemmas.Bool.Decides.{Decides-eqb}
use Rattle.gem_tables.specs.Table.{is_one_of, row_of, found_starts, firing, after}
use Rattle.gem_tables.specs.declared.firing.Firing.{Firing}
use Rattle.floor_model.proofs.EachTable.{starts_cases}
use Rattle.gem_tables.proofs.Rows.{one_of_cases}
use Rattle.process_job.specs.Tables.{JobWant, job_number, job_table}
use Rattle.process_job.specs.Jobs.{job_numbered, without_numbered, fires_row}
use Rattle.process_job.specs.Creating.{create_fault}
use Rattle.process_job.specs.declared.job.JobSpec.{JobSpec}
use Rattle.process_job.specs.declared.record.JobState.{JobState}
use Rattle.process_job.specs.declared.record.JobState.TheVariants as state
use Rattle.process_job.specs.declared.job.ProcessJob.{ProcessJob}
use Rattle.control_job.specs.Record as states
use Rattle.control_job.specs.Record.{is_active}
use Rattle.control_job.specs.Jobs.{job_numbered as control_numbered, fired_at, headed}
use Rattle.control_job.specs.Jobs as control
use Rattle.control_job.specs.declared.job.ControlJob.{ControlJob}
use Rattle.control_job.specs.declared.record.ControlJobRecord.{ControlJobRecord}
use Rattle.records.proofs.Truth.{not_true}
use Rattle.tool_jobs.specs.Wants.{process_wants, control_wants, is_ending, ends_so}
use Rattle.tool_jobs.specs.Rows.{ended, process_starts, control_starts}
use Rattle.tool_jobs.specs.Together.{AreTogether}
use Rattle.tool_jobs.specs.Creating.{with_process, with_control, control_fault}
use Rattle.tool_jobs.proofs.Rows.{stays_passive, after_meets}
use Rattle.floor_model.specs.Floor.{ToolFloor, with_jobs}
use Rattle.floor_model.specs.Jobs.{freed, sight, found_sight, is_first_here}
use Rattle.floor_model.specs.Machines.{floor_starts, floor_fired}
use Rattle.place_laws.specs.Picture.{picture}
use Rattle.place_laws.specs.Sound.{Sound}
use Rattle.floor_laws.proofs.JobSight.{some_same}
use Rattle.floor_laws.proofs.JobLists.{job_number_is, fired_there}
use Rattle.floor_laws.proofs.JobFires.{fired_jobs}
use Rattle.floor_laws.proofs.JobEnds.{freed_alone}
use Rattle.owed_laws.specs.Owed.{owed_to}
use Rattle.queue_laws.specs.Started.{is_queued, is_left_in, AreStarted}
use Rattle.queue_laws.proofs.Lists.{gone_back}
use Rattle.queue_laws.proofs.Rows.{stays_queued, start_fits}
use Rattle.queue_laws.proofs.Owners.{same_number}
use Rattle.lot_laws.specs.Lot.{InOrder, breaks_off, AtWork, Disturbed, ends, loses, breaks, WorksOrIsDisturbed, is_word}
use Rattle.lot_laws.proofs.Steering.{Found, is_working, by_working, starts_working, found, passive, out_queued, state-works, other_left, other-works, own_there, row_names, own_left, own-works}
use Rattle.lot_laws.proofs.Going.{behind_owed, controls-work}
use Rattle.lot_laws.proofs.Processes.{state-work, ended-work, fifteen_is, queued_done}
use Rattle.lot_laws.proofs.Inputs.{created-work, added-work, headed-work}
use Rattle.lot_laws.proofs.Disturbs.{disturbed-fired, disturbed-ended, disturbed-created, disturbed-behind, disturbed-added, disturbed-headed}
use Rattle.std.proofs.Math.Bool.{or-false}

-- ---- states

-- rows that stop or abort a process job, or end it so
abbrev breaks_it : ℕ → Bool
breaks_it row = is_one_of (11 ∷ 12 ∷ 13 ∷ 14 ∷ 17 ∷ 18 ∷ []) row

-- behind another row one isn't STOPPING or ABORTING that wasn't
stays_whole : (row : ℕ) (s : JobState) → breaks_it row ≡ false → breaks_off s ≡ false → breaks_off (after job_number job_table row s) ≡ false
stays_whole row s other whole = not_true (breaks_off (after job_number job_table row s)) (of s (ap not whole)) where
  of : (x : JobState) → not (breaks_off x) ≡ true → not (breaks_off (after job_number job_table row x)) ≡ true
  of state.Queued e = after_meets job_number (λ y. not (breaks_off y)) breaks_it row state.Queued job_table other refl refl
  of state.SettingUp e = after_meets job_number (λ y. not (breaks_off y)) breaks_it row state.SettingUp job_table other refl refl
  of state.WaitingForStart e = after_meets job_number (λ y. not (breaks_off y)) breaks_it row state.WaitingForStart job_table other refl refl
  of state.Processing e = after_meets job_number (λ y. not (breaks_off y)) breaks_it row state.Processing job_table other refl refl
  of state.Complete e = after_meets job_number (λ y. not (breaks_off y)) breaks_it row state.Complete job_table other refl refl
  of state.Pausing e = after_meets job_number (λ y. not (breaks_off y)) breaks_it row state.Pausing job_table other refl refl
  of state.Paused e = after_meets job_number (λ y. not (breaks_off y)) breaks_it row state.Paused job_table other refl refl
  of state.Stopping e = absurd (true≢false (sym e))
  of state.Aborting e = absurd (true≢false (sym e))

module _ (finds : JobWant → Bool) where
  -- STOP and ABORT do so
  stop_breaks : (s : JobState) → found_starts job_number finds s (row_of job_table 11) ≡ true → breaks_off (after job_number job_table 11 s) ≡ true
  stop_breaks state.SettingUp e = refl
  stop_breaks state.WaitingForStart e = refl
  stop_breaks state.Processing e = refl
  stop_breaks state.Pausing e = refl
  stop_breaks state.Paused e = refl
  stop_breaks state.Stopping e = refl
  stop_breaks state.Aborting e = refl
  stop_breaks _ e = absurd (true≢false (sym e))

  abort_breaks : (s : JobState) → found_starts job_number finds s (row_of job_table 12) ≡ true → breaks_off (after job_number job_table 12 s) ≡ true
  abort_breaks state.SettingUp e = refl
  abort_breaks state.WaitingForStart e = refl
  abort_breaks state.Processing e = refl
  abort_breaks state.Pausing e = refl
  abort_breaks state.Paused e = refl
  abort_breaks state.Stopping e = refl
  abort_breaks state.Aborting e = refl
  abort_breaks _ e = absurd (true≢false (sym e))

  -- CANCEL starts at one that is QUEUED
  cancel_whole : (s : JobState) → found_starts job_number finds s (row_of job_table 15) ≡ true → breaks_off s ≡ false
  cancel_whole state.Queued e = refl
  cancel_whole state.SettingUp e = refl
  cancel_whole state.WaitingForStart e = refl
  cancel_whole state.Processing e = refl
  cancel_whole state.Complete e = refl
  cancel_whole state.Pausing e = refl
  cancel_whole state.Paused e = refl
  cancel_whole _ e = absurd (true≢false (sym e))

  -- what starts there are rows 1, 2, 15 and 16
  starts_queued : (row : ℕ) (s : JobState) → is_queued s ≡ true → found_starts job_number finds s (row_of job_table row) ≡ true → is_one_of (1 ∷ 2 ∷ 15 ∷ 16 ∷ []) row ≡ true
  starts_queued row state.Queued q e = start_fits job_number finds (λ w. false) (is_one_of (1 ∷ 2 ∷ 15 ∷ 16 ∷ [])) job_table row state.Queued (λ w g. absurd (true≢false (sym g))) refl e
  starts_queued row _ q e = absurd (true≢false (sym q))

-- the words of a process job, and those of a control job
abbrev pub process_words : List ℕ
process_words = 1 ∷ 5 ∷ 8 ∷ 10 ∷ 11 ∷ 12 ∷ 15 ∷ []

abbrev pub control_words : List ℕ
control_words = 1 ∷ 5 ∷ 6 ∷ 7 ∷ 9 ∷ 10 ∷ 11 ∷ 12 ∷ []

module _ (number : ℕ) (planned : ℕ → List (List ℕ)) (counted : ℕ → Bool) (before f : ToolFloor) (h : Sound f) (t : AreTogether f.jobs) (s : AreStarted f.jobs) where
  -- what is so behind a row
  abbrev Goes : ToolFloor → Type 0
  Goes g = WorksOrIsDisturbed number planned counted before g

  abbrev AsMuch : Type 0
  AsMuch = owed_to planned counted (picture f) ≡ owed_to planned counted (picture before)

  -- ---- words of process jobs

  module _ (n : ℕ) (j : ProcessJob) (known : job_numbered n f.jobs.process.kept ≡ Some j) where
    abbrev Starts : ℕ → Type 0
    Starts r = process_starts r (Some j) (sight j f) f.jobs ≡ true

    abbrev Behind : ℕ → Type 0
    Behind r = Goes (floor_fired (firing 14 n r) f)

    there : (row : ℕ) → job_numbered n (fired_jobs n row f.jobs).process.kept ≡ Some (fires_row row j)
    there row = fired_there n row f.jobs.process.kept ∙ ap (option_map (fires_row row)) known

    module _ (e : AtWork number planned counted before.jobs f) (owed : AsMuch) where
      stays_at : (row : ℕ) → (row == 2) ≡ false → (is_left_in number j.id f.jobs ≡ true → breaks_off (after job_number job_table row j.states.state) ≡ false)
          → (is_queued (after job_number job_table row j.states.state) ≡ false → is_left_in number j.id f.jobs ≡ true) → Goes (with_jobs (fired_jobs n row f.jobs) f)
      stays_at row two whole stays = inl (state-work number planned counted f h t s e n j known row two (state-works number before.jobs f.jobs t s e.steers row n j known whole stays), owed)

      -- of one that is left in it
      of_left : is_left_in number j.id f.jobs ≡ true → (row : ℕ) → is_one_of process_words row ≡ true → Starts row → Behind row
      of_left left row = one_of_cases (λ (r : ℕ). Starts r → Behind r) process_words row (
        (λ st. quiet 1 refl refl),
        ((λ st. quiet 5 refl refl), ((λ st. quiet 8 refl refl), ((λ st. quiet 10 refl refl), (broken 11 (stop_breaks finds j.states.state), (broken 12 (abort_breaks finds j.states.state), (gone, tt)))))),
      ) where
        finds : JobWant → Bool
        finds x = process_wants x j (sight j f) f.jobs

        quiet : (r : ℕ) → (r == 2) ≡ false → breaks_it r ≡ false → Goes (with_jobs (fired_jobs n r f.jobs) f)
        quiet r two other = stays_at r two (λ l. stays_whole r j.states.state other (e.steers.whole n j known left)) (λ q. left)

        broken : (r : ℕ) → (Starts r → breaks_off (after job_number job_table r j.states.state) ≡ true) → Starts r → Goes (with_jobs (fired_jobs n r f.jobs) f)
        broken r so st = inr (breaks n (fires_row r j) (e.steers.were n j known left) (there r) (so st))

        gone : Starts 15 → Behind 15
        gone st =
            subst Goes (sym (fifteen_is f n j known))
            (inr (loses n (e.steers.were n j known left) (job_number_is n 0 f.jobs.process.given f.jobs.process.kept j h.base.jobs.numbered known).2 (none (job_numbered n (without_numbered n f.jobs.process.kept)) refl)))
          where
            none : (o : Option ProcessJob) → job_numbered n (without_numbered n f.jobs.process.kept) ≡ o → o ≡ None
            none None q = refl
            none (Some k) q = absurd (true≢false (sym ((Decides-eqb n n).1 refl) ∙ (gone_back n n 0 f.jobs.process.given f.jobs.process.kept k h.base.jobs.numbered q).1))

      -- of another one
      of_other : is_left_in number j.id f.jobs ≡ false → (row : ℕ) → is_one_of process_words row ≡ true → Starts row → Behind row
      of_other out row = one_of_cases (λ (r : ℕ). Starts r → Behind r) process_words row (first, (never 5 refl, (never 8 refl, (never 10 refl, (never 11 refl, (never 12 refl, (cancelled, tt))))))) where
        queued : is_queued j.states.state ≡ true
        queued = out_queued number before.jobs f.jobs t s e.steers n j known out

        first : Starts 1 → Behind 1
        first st = stays_at 1 refl (λ l. absurd (true≢false (sym l ∙ out))) (λ q. absurd (true≢false (sym (stays_queued 1 j.states.state refl queued) ∙ q)))

        never : {P : Type 0} (r : ℕ) → is_one_of (1 ∷ 2 ∷ 15 ∷ 16 ∷ []) r ≡ false → Starts r → P
        never r none st = absurd (true≢false (sym (starts_queued (λ x. process_wants x j (sight j f) f.jobs) r j.states.state queued st) ∙ none))

        cancelled : Starts 15 → Behind 15
        cancelled st =
            subst Goes (sym (fifteen_is f n j known)) (inl (
              ended-work number planned counted f h t s e n j known (queued_done f n j known h queued) (λ q l. true≢false (sym l ∙ out)),
              behind_owed f (freed j.number) (freed_alone j.number) (ended n f.jobs) planned counted ∙ owed,
            ))

    -- where it is disturbed
    of_disturbed : Disturbed number counted before f → (row : ℕ) → is_one_of process_words row ≡ true → Starts row → Behind row
    of_disturbed d row = one_of_cases (λ (r : ℕ). Starts r → Behind r) process_words row (
      stays 1,
      (stays 5, (stays 8, (stays 10, (stays 11, (stays 12, (cancelled, tt)))))),
    ) where
      stays : (r : ℕ) → Starts r → Goes (with_jobs (fired_jobs n r f.jobs) f)
      stays r st = inr (disturbed-fired number counted before f r n d)

      cancelled : Starts 15 → Behind 15
      cancelled st =
          subst Goes (sym (fifteen_is f n j known)) (inr (disturbed-ended number counted before f h n j known (cancel_whole (λ x. process_wants x j (sight j f) f.jobs) j.states.state st) d))

    process_word : Goes f → (row : ℕ) → is_one_of process_words row ≡ true → Starts row → Behind row
    process_word (inr d) row one st = of_disturbed d row one st
    process_word (inl w) row one st = by_left (is_left_in number j.id f.jobs) refl where
      by_left : (b : Bool) → is_left_in number j.id f.jobs ≡ b → Behind row
      by_left true left = of_left w.0 w.1 left row one st
      by_left false out = of_other w.0 w.1 out row one st

  -- ---- words of control jobs

  module _ (m : ℕ) (d : ControlJob) (at : control_numbered m f.jobs.control.jobs ≡ Some d) where
    abbrev ControlStarts : ℕ → Type 0
    ControlStarts r = control_starts r (Some d) (is_first_here m f) f.jobs ≡ true

    abbrev ControlBehind : ℕ → ℕ → Type 0
    ControlBehind k r = Goes (floor_fired (firing 15 k r) f)

    -- no word is row 2 or 8
    other_words : (row : ℕ) → is_one_of control_words row ≡ true → ((row == 2) ≡ false) × ((row == 8) ≡ false)
    other_words row one =
        one_of_cases (λ (r : ℕ). ((r == 2) ≡ false) × ((r == 8) ≡ false)) control_words row
        ((refl, refl), ((refl, refl), ((refl, refl), ((refl, refl), ((refl, refl), ((refl, refl), ((refl, refl), ((refl, refl), tt)))))))) one

    module _ (e : AtWork number planned counted before.jobs f) (owed : AsMuch) where
      -- of another one
      control_other : (m == number) ≡ false → (row : ℕ) → is_one_of control_words row ≡ true → ControlBehind m row
      control_other other row one =
          inl (
            controls-work number planned counted f (fired_at m row f.jobs.control) (other_left number before.jobs f.jobs t s e.steers row m other)
                (row_names number before.jobs f.jobs t s e.steers row m) e
                (other-works number before.jobs f.jobs t s e.steers row m d at other still),
            owed,
          )
        where
          still : is_active (control.fires_row row d).states.state ≡ false
          still = not_true (is_active (control.fires_row row d).states.state) (stays_passive row d.states (other_words row one).0 (ap not (passive number before.jobs f.jobs t s e.steers m d at other)))

      -- of itself
      control_own : m ≡ number → (row : ℕ) → is_one_of control_words row ≡ true → ControlStarts row → ControlBehind number row
      control_own same row one st = one_of_cases (λ (r : ℕ). is_one_of control_words r ≡ true → ControlBehind number r) (1 ∷ 6 ∷ 7 ∷ 8 ∷ 11 ∷ 12 ∷ []) row (
        (λ w. quiet 1 refl),
        ((λ w. quiet 6 refl), ((λ w. quiet 7 refl), ((λ w. absurd (true≢false (sym w))), ((λ w. ending 11 (by_working (λ (x : ControlJobRecord). is_ending (states.control_fired 11 x).ending ≡ true) refl refl mine.job.states mine.working)), ((λ w. ending 12 (by_working (λ (x : ControlJobRecord). is_ending (states.control_fired 12 x).ending ≡ true) refl refl mine.job.states mine.working)), tt))))),
      ) (starts_working (λ x. control_wants x d (is_first_here m f) f.jobs.control) row d.states works st) one where
        mine : Found number f.jobs
        mine = found number before.jobs f.jobs t s e.steers

        works : is_working d.states ≡ true
        works = subst (λ (x : ControlJob). is_working x.states ≡ true) (some_same mine.job d (sym mine.at ∙ ap (λ (k : ℕ). control_numbered k f.jobs.control.jobs) (sym same) ∙ at)) mine.working

        quiet : (r : ℕ) → is_one_of (1 ∷ 6 ∷ 7 ∷ []) r ≡ true → ControlBehind number r
        quiet r o =
            inl (
              controls-work number planned counted f (fired_at number r f.jobs.control) (own_left number before.jobs f.jobs t s e.steers r o)
                  (row_names number before.jobs f.jobs t s e.steers r number) e
                  (own-works number before.jobs f.jobs t s e.steers r o),
              owed,
            )

        ending : (r : ℕ) → is_ending (states.control_fired r mine.job.states).ending ≡ true → ControlBehind number r
        ending r so = inr (ends (ap (ends_so is_ending) (own_there number before.jobs f.jobs t s e.steers r) ∙ so))

    control_word : Goes f → (row : ℕ) → is_one_of control_words row ≡ true → ControlStarts row → ControlBehind m row
    control_word (inr dist) row one st = inr (disturbed-behind number counted before f t s row m (other_words row one).1 dist)
    control_word (inl w) row one st = by_number (m == number) refl where
      by_number : (b : Bool) → (m == number) ≡ b → ControlBehind m row
      by_number true q = let same = same_number m number q in subst (λ (k : ℕ). ControlBehind k row) (sym same) (control_own w.0 w.1 same row one st)
      by_number false q = control_other w.0 w.1 q row one

  -- ---- all of them

  process_at : Goes f → (n row : ℕ) → is_one_of process_words row ≡ true → floor_starts (firing 14 n row) f ≡ true → Goes (floor_fired (firing 14 n row) f)
  process_at goes n row one starts = of (job_numbered n f.jobs.process.kept) refl starts where
    of : (o : Option ProcessJob) → job_numbered n f.jobs.process.kept ≡ o → process_starts row o (found_sight o f) f.jobs ≡ true → Goes (floor_fired (firing 14 n row) f)
    of None q st = absurd (true≢false (sym st))
    of (Some j) q st = process_word n j q goes row one st

  control_at : Goes f → (m row : ℕ) → is_one_of control_words row ≡ true → floor_starts (firing 15 m row) f ≡ true → Goes (floor_fired (firing 15 m row) f)
  control_at goes m row one starts = of (control_numbered m f.jobs.control.jobs) refl starts where
    of : (o : Option ControlJob) → control_numbered m f.jobs.control.jobs ≡ o → control_starts row o (is_first_here m f) f.jobs ≡ true → Goes (floor_fired (firing 15 m row) f)
    of None q st = absurd (true≢false (sym st))
    of (Some d) q st = control_word m d q goes row one st

  word_at : (x : Firing) → is_word x ≡ true → floor_starts x f ≡ true → Goes f → Goes (floor_fired x f)
  word_at x word starts goes = starts_cases (λ (y : Firing). is_word y ≡ true → Goes (floor_fired y f)) f x (record {
    transfer = λ st k. absurd (cc);
    access = λ st k. absurd (cc);
    reservation = λ st k. absurd (cc);
    association = λ st k. absurd (cc);
    id = λ st k. absurd (cc);
    map = λ st k. absurd (cc);
    accessing = λ st k. absurd (cc);
    location = λ st k. absurd (cc);
    transport = λ st k. absurd (cc);
    processing = λ st k. absurd (cc);
    process_job = λ st k. process_at goes x.object x.row.row (sym (or-false (is_one_of process_words x.row.row)) ∙ k) st;
    control_job = λ st k. control_at goes x.object x.row.row k st;
    move = λ st k. absurd (cc);
  }) starts word

-- ---- as laws

module _ (number : ℕ) (planned : ℕ → List (List ℕ)) (counted : ℕ → Bool) (before f : ToolFloor) (o : InOrder f) where
  -- behind a row that a word fires
  pub word-goes : (x : Firing) → is_word x ≡ true → floor_starts x f ≡ true → WorksOrIsDisturbed number planned counted before f → WorksOrIsDisturbed number planned counted before (floor_fired x f)
  word-goes x word starts goes = word_at number planned counted before f o.sound o.together o.started x word starts goes

  -- where a process job is created
  pub created-goes : (spec : JobSpec) → create_fault spec f.jobs.process ≡ None → WorksOrIsDisturbed number planned counted before f → WorksOrIsDisturbed number planned counted before (with_jobs (with_process spec f.jobs) f)
  created-goes spec free (inl w) = inl (created-work number planned counted f o.sound o.together o.started w.0 spec free, w.1)
  created-goes spec free (inr d) = inr (disturbed-created number counted before f spec o.sound d)

  -- where a control job is created
  pub added-goes : (name : List ℕ) (named : List (List ℕ)) (auto : Bool) → control_fault name named f.jobs ≡ None → WorksOrIsDisturbed number planned counted before f
      → WorksOrIsDisturbed number planned counted before (with_jobs (with_control name named auto f.jobs) f)
  added-goes name named auto free (inl w) = inl (added-work number planned counted f o.sound o.together o.started w.0 name named auto free, w.1)
  added-goes name named auto free (inr d) = inr (disturbed-added number counted before f o.together o.started name named auto free d)

  -- where the order of the queue changes
  pub headed-goes : (name : List ℕ) → WorksOrIsDisturbed number planned counted before f → WorksOrIsDisturbed number planned counted before (with_jobs (record f.jobs { control = headed name f.jobs.control }) f)
  headed-goes name (inl w) = inl (headed-work number planned counted f o.sound o.together o.started w.0 name, w.1)
  headed-goes name (inr d) = inr (disturbed-headed number counted before f name d)
