-- The states of a process job behind the rows of its table.
use Rattle.std.proofs.Common.{◌≡◌, ℕ, ◌==◌, Bool, true, false, ◌&&◌, if◌then◌else◌, List, [], ◌∷◌, refl, sym, ◌∙◌, ap, ◌⊎◌, inl, inr}
use Rattle.std.specs.List.{AllByRecursion}
use Rattle.std.proofs.lemmas.Bool.{true≢false, and_parts}
use Rattle.std.proofs.lemmas.Bool.Decides.{Decides-eqb}
use Rattle.gem_tables.specs.Table.{Row, is_among, row_starts, after}
use Rattle.process_job.specs.Tables.{job_table, job_number}
use Rattle.process_job.specs.declared.record.JobState.{JobState}
use Rattle.process_job.specs.declared.record.JobState.TheVariants.{Queued, SettingUp, Complete}
use Rattle.place_laws.specs.Picture.{is_complete}
use Rattle.place_laws.specs.Sound.{is_queued}

-- what is so of the state, and of the end of each row of the number that starts in it, is so of the state behind
pub after_so : {S W E : Type 0} (P : S → Type 0) (number : S → ℕ) (rows : List (Row S W E)) (row : ℕ) (state : S) → P state
    → AllByRecursion (λ r. r.number ≡ row → is_among number r.from state ≡ true → P r.to) rows → P (after number rows row state)
after_so P number [] row state stays all = stays
after_so P number (r ∷ rows) row state stays all = of (row_starts number r row state) refl (after_so P number rows row state stays all.1) where
  of : (b : Bool) → ((r.number == row) && is_among number r.from state) ≡ b → P (after number rows row state) → P (if b then r.to else after number rows row state)
  of true e rest = let parts = and_parts (r.number == row) (is_among number r.from state) e in all.0 ((Decides-eqb r.number row).0 parts.0) parts.1
  of false e rest = rest

-- who starts where a job is QUEUED
pub queued_tells : (s : JobState) → is_among job_number (Queued ∷ []) s ≡ true → s ≡ Queued
queued_tells Queued e = refl
queued_tells _ e = absurd (true≢false (sym e))

-- who starts where it is PROCESS COMPLETE
pub complete_tells : (s : JobState) → is_among job_number (Complete ∷ []) s ≡ true → is_complete s ≡ true
complete_tells Complete e = refl
complete_tells _ e = absurd (true≢false (sym e))

-- one that is begun isn't QUEUED behind any row
pub after_begun : (row : ℕ) (s : JobState) → is_queued s ≡ false → is_queued (after job_number job_table row s) ≡ false
after_begun row s begun =
    after_so (λ (x : JobState). is_queued x ≡ false) job_number job_table row s begun (
      (λ number among. absurd (true≢false (sym among))),
      (
        (λ number among. refl),
        (
          (λ number among. refl),
          (
            (λ number among. refl),
            (
              (λ number among. refl),
              (
                (λ number among. refl),
                (
                  (λ number among. refl),
                  (
                    (λ number among. refl),
                    (
                      (λ number among. refl),
                      (
                        (λ number among. refl),
                        (
                          (λ number among. refl),
                          (
                            (λ number among. refl),
                            (
                              (λ number among. refl),
                              (
                                (λ number among. refl),
                                ((λ number among. not_queued among), ((λ number among. not_queued among), ((λ number among. refl), ((λ number among. refl), tt)))),
                              ),
                            ),
                          ),
                        ),
                      ),
                    ),
                  ),
                ),
              ),
            ),
          ),
        ),
      ),
    )
  where
    not_queued : is_among job_number (Queued ∷ []) s ≡ true → is_queued Queued ≡ false
    not_queued among = absurd (true≢false (sym (ap is_queued (queued_tells s among)) ∙ begun))

-- one that is PROCESS COMPLETE behind a row was so before, or the row is the one by which it becomes so
pub after_complete : (row : ℕ) (s : JobState) → is_complete (after job_number job_table row s) ≡ true → (is_complete s ≡ true) ⊎ (row ≡ 6)
after_complete row s =
    after_so (λ (x : JobState). is_complete x ≡ true → (is_complete s ≡ true) ⊎ (row ≡ 6)) job_number job_table row s inl (
      (λ number among e. absurd (true≢false (sym e))),
      (
        (λ number among e. absurd (true≢false (sym e))),
        (
          (λ number among e. absurd (true≢false (sym e))),
          (
            (λ number among e. absurd (true≢false (sym e))),
            (
              (λ number among e. absurd (true≢false (sym e))),
              (
                (λ number among e. inr (sym number)),
                (
                  (λ number among e. inl (complete_tells s among)),
                  ((λ number among e. absurd (true≢false (sym e))), ((λ number among e. absurd (true≢false (sym e))), ((λ number among e. absurd (true≢false (sym e))), ((λ number among e. absurd (true≢false (sym e))), ((λ number among e. absurd (true≢false (sym e))), ((λ number among e. absurd (true≢false (sym e))), ((λ number among e. absurd (true≢false (sym e))), ((λ number among e. absurd (true≢false (sym e))), ((λ number among e. absurd (true≢false (sym e))), ((λ number among e. absurd (true≢false (sym e))), ((λ number among e. absurd (true≢false (sym e))), tt))))))))))),
                ),
              ),
            ),
          ),
        ),
      ),
    )

-- one that is QUEUED is set up behind the row that makes members
pub after_set_up : (s : JobState) → is_among job_number (Queued ∷ []) s ≡ true → after job_number job_table 2 s ≡ SettingUp
after_set_up s among = ap (λ (x : JobState). after job_number job_table 2 x) (queued_tells s among)
