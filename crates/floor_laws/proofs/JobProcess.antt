-- What holds goes on where a row of a process job fires.
use Rattle.std.proofs.Common.{◌≡◌, ℕ, ◌==◌, Bool, true, false, ◌||◌, [], ◌∷◌, Option, Some, None, refl, sym, ◌∙◌, ap, subst}
use Rattle.std.specs.List.{AllByRecursion}
use Rattle.std.proofs.lemmas.Bool.{true≢false, and_parts}
use Rattle.std.proofs.lemmas.Bool.Decides.{Decides-eqb}
use Rattle.gem_tables.specs.Table.{firing, is_among, is_creation, row_of, found_starts}
use Rattle.gem_tables.proofs.Rows.{found_row}
use Rattle.process_job.specs.Tables.{JobRow, JobWant, job_table, job_number}
use Rattle.process_job.specs.Jobs.{job_numbered}
use Rattle.process_job.specs.declared.job.ProcessJob.{ProcessJob}
use Rattle.process_job.specs.declared.record.JobState.TheVariants.{Queued}
use Rattle.tool_jobs.specs.Jobs.{owner}
use Rattle.tool_jobs.specs.Wants.{process_wants, is_first_left}
use Rattle.tool_jobs.specs.Rows.{process_starts, found_does, process_fired}
use Rattle.floor_model.specs.declared.tracked.Substrate.{Substrate}
use Rattle.floor_model.specs.Floor.{ToolFloor, with_jobs, substrate_numbered, number_of}
use Rattle.floor_model.specs.Jobs.{with_members, without_members, marks, is_here, is_settled, sight, found_sight, found_job_does}
use Rattle.floor_model.specs.Machines.{floor_starts, floor_fired}
use Rattle.floor_moves.specs.Floor.{is_done}
use Rattle.place_laws.specs.Picture.{picture, is_complete}
use Rattle.place_laws.specs.Sound.{is_queued, IsOfJob, IsInItsJob, Sound}
use Rattle.place_laws.proofs.Holding.{true_of_found}
use Rattle.floor_laws.proofs.JobLists.{job_number_is}
use Rattle.floor_laws.proofs.JobStates.{queued_tells, complete_tells}
use Rattle.floor_laws.proofs.JobFires.{over_before, settled_done, fired_jobs, fired_sound}
use Rattle.floor_laws.proofs.JobEnds.{ended_jobs, ended_sound}
use Rattle.floor_laws.proofs.JobJoins.{joined_sound}

module _ (f : ToolFloor) (n row : ℕ) (j : ProcessJob) (known : job_numbered n f.jobs.process.kept ≡ Some j) (h : Sound f) where
  -- the number of the job
  number_is : j.number ≡ n
  number_is = (job_number_is n 0 f.jobs.process.given f.jobs.process.kept j h.base.jobs.numbered known).0

  -- what the row finds
  abbrev finds : JobWant → Bool
  finds want = process_wants want j (sight j f) f.jobs

  -- the floor behind a row that is found
  abbrev Goal : JobRow → Type 0
  Goal r = Sound (with_jobs (found_does (Some r) n (fired_jobs n row f.jobs)) (found_job_does (Some r) (Some j) f))

  -- of a row
  abbrev Case : JobRow → Type 0
  Case r = (r.number ≡ row) → (is_creation r.by || is_among job_number r.from j.states.state) ≡ true → finds r.wants ≡ true → Goal r

  -- ---- rows that change the state alone

  -- another row than that to PROCESS COMPLETE
  plain : (k : ℕ) → (k == 6) ≡ false → k ≡ row → Sound (with_jobs (fired_jobs n row f.jobs) f)
  plain k other is = fired_sound f n row h (λ six. absurd (true≢false (sym ((Decides-eqb k 6).1 (is ∙ six)) ∙ other)))

  -- the row to PROCESS COMPLETE, of a job that is settled
  to_complete : is_settled j.number f ≡ true → Sound (with_jobs (fired_jobs n row f.jobs) f)
  to_complete settled = fired_sound f n row h (λ six. subst (λ (k : ℕ). is_settled k f ≡ true) number_is settled)

  -- ---- the row that makes members

  -- the job is QUEUED, and its material is here
  joins : 2 ≡ row → is_among job_number (Queued ∷ []) j.states.state ≡ true → is_here j f.shop ≡ true → Sound (with_jobs (fired_jobs n row f.jobs) (with_members j f))
  joins is among here = subst (λ (r : ℕ). Sound (with_jobs (fired_jobs n r f.jobs) (with_members j f))) is (joined_sound f n j h known among here)

  -- ---- rows that end it

  -- the members of one that is settled are done
  all_settled : is_settled j.number f ≡ true → (k : ℕ) (s : Substrate) → substrate_numbered k f.substrates ≡ Some s → s.job ≡ n → is_done k (picture f) ≡ true
  all_settled settled k s found its = settled_done f h.base j.number settled k s found (its ∙ sym number_is)

  -- a member is in it
  its_job : (s : Substrate) → s.job ≡ n → job_numbered s.job f.jobs.process.kept ≡ Some j
  its_job s its = subst (λ (k : ℕ). job_numbered k f.jobs.process.kept ≡ Some j) (sym its) known

  -- so are those of one that is PROCESS COMPLETE
  all_complete : is_complete j.states.state ≡ true → (k : ℕ) (s : Substrate) → substrate_numbered k f.substrates ≡ Some s → s.job ≡ n → is_done k (picture f) ≡ true
  all_complete done k s found its = over_before f h.valid k s j found (its_job s its) done

  -- one that is QUEUED has none
  none_queued : is_among job_number (Queued ∷ []) j.states.state ≡ true → (k : ℕ) (s : Substrate) → substrate_numbered k f.substrates ≡ Some s → s.job ≡ n → is_done k (picture f) ≡ true
  none_queued among k s found its =
      let is : IsOfJob f.shop.carriers s j = true_of_found number_of k (IsInItsJob f.shop.carriers f.jobs) f.substrates s h.base.jobs.members found j (its_job s its) in
      absurd (true≢false (sym (ap is_queued (queued_tells j.states.state among)) ∙ is.begun))

  -- each member is done
  abbrev AreDone : Type 0
  AreDone = (k : ℕ) (s : Substrate) → substrate_numbered k f.substrates ≡ Some s → s.job ≡ n → is_done k (picture f) ≡ true

  -- so the job may end
  ends : AreDone → Sound (with_jobs (ended_jobs n row f.jobs) (without_members j.number f))
  ends done = subst (λ (k : ℕ). Sound (with_jobs (ended_jobs n row f.jobs) (without_members k f))) (sym number_is) (ended_sound f n row h [] done)

  -- and with its carriers marked stopped
  ends_stopped : AreDone → Sound (with_jobs (ended_jobs n row f.jobs) (marks j (without_members j.number f)))
  ends_stopped done = subst (λ (k : ℕ). Sound (with_jobs (ended_jobs n row f.jobs) (marks j (without_members k f)))) (sym number_is) (ended_sound f n row h j.material done)

  -- ---- all rows

  -- each row of the table keeps what holds
  all_rows : AllByRecursion Case job_table
  all_rows = (
    (λ is among wants. plain 1 refl is),
    (
      (λ is among wants. joins is among (and_parts (is_first_left j.id (owner j.id f.jobs)) (is_here j f.shop) wants).1),
      (
        (λ is among wants. plain 3 refl is),
        (
          (λ is among wants. plain 4 refl is),
          (
            (λ is among wants. plain 5 refl is),
            (
              (λ is among wants. to_complete wants),
              (
                (λ is among wants. ends (all_complete (complete_tells j.states.state among))),
                (
                  (λ is among wants. plain 8 refl is),
                  (
                    (λ is among wants. plain 9 refl is),
                    (
                      (λ is among wants. plain 10 refl is),
                      (
                        (λ is among wants. plain 11 refl is),
                        (
                          (λ is among wants. plain 12 refl is),
                          (
                            (λ is among wants. ends_stopped (all_settled wants)),
                            (
                              (λ is among wants. ends_stopped (all_settled wants)),
                              (
                                (λ is among wants. ends (none_queued among)),
                                (
                                  (λ is among wants. ends (none_queued among)),
                                  (
                                    (λ is among wants. plain 17 refl is),
                                    ((λ is among wants. plain 18 refl is), tt),
                                  ),
                                ),
                              ),
                            ),
                          ),
                        ),
                      ),
                    ),
                  ),
                ),
              ),
            ),
          ),
        ),
      ),
    ),
  )

  -- so does one that is looked for and starts
  found_sound : (o : Option JobRow) → row_of job_table row ≡ o → found_starts job_number finds j.states.state o ≡ true → Sound (with_jobs (found_does o n (fired_jobs n row f.jobs)) (found_job_does o (Some j) f))
  found_sound None q e = absurd (true≢false (sym e))
  found_sound (Some r) q e =
      let w = found_row Case job_table row r all_rows q in
      let parts = and_parts (is_creation r.by || is_among job_number r.from j.states.state) (finds r.wants) e in
      w.0 w.1 parts.0 parts.1

-- Table 14. The row of creation may fire at a job in any state, and leaves it.
pub process_sound : (f : ToolFloor) (n row : ℕ) → floor_starts (firing 14 n row) f ≡ true → Sound f → Sound (floor_fired (firing 14 n row) f)
process_sound f n row starts h = of (job_numbered n f.jobs.process.kept) refl starts where
  of : (o : Option ProcessJob) → job_numbered n f.jobs.process.kept ≡ o → process_starts row o (found_sight o f) f.jobs ≡ true → Sound (with_jobs (process_fired row n f.jobs) (found_job_does (row_of job_table row) (job_numbered n f.jobs.process.kept) f))
  of None q e = absurd (true≢false (sym e))
  of (Some j) q e =
      subst (λ (o : Option ProcessJob). Sound (with_jobs (process_fired row n f.jobs) (found_job_does (row_of job_table row) o f))) (sym q)
      (found_sound f n row j q h (row_of job_table row) refl e)
