-- Done of an open command takes one off what is owed, and the control job executes on.
use Rattle.std.proofs.Common.{◌≡◌, ℕ, ◌==◌, Bool, true, false, if◌then◌else◌, not, ◌&&◌, map, List, Some, refl, sym, ◌∙◌, ap}
use Rattle.std.proofs.lemmas.Bool.{true≢false, and_parts}
use Rattle.std.proofs.lemmas.Bool.Decides.{Decides-eqb}
use Rattle.gem_tables.specs.Table.{is_one_of, after}
use Rattle.gem_tables.proofs.Rows.{both}
use Rattle.substrate.specs.Tables.{processing_number, processing_table}
use Rattle.substrate.specs.Record.{is_at_source, is_needing}
use Rattle.substrate.specs.declared.record.Processing.{Processing}
use Rattle.substrate.specs.declared.record.Processing.TheVariants as processing
use Rattle.process_job.specs.declared.job.ProcessJob.{ProcessJob}
use Rattle.tool_jobs.proofs.Rows.{after_meets}
use Rattle.floor_model.specs.declared.tracked.Substrate.{Substrate}
use Rattle.floor_model.specs.Floor.{ToolFloor, substrate_numbered, number_of}
use Rattle.floor_model.specs.Jobs.{can_join}
use Rattle.floor_model.specs.Machines.{substrate_moves, with_moved}
use Rattle.floor_moves.specs.Floor as law
use Rattle.floor_moves.specs.Floor.{is_done}
use Rattle.floor_moves.specs.Effects.{worked}
use Rattle.floor_moves.specs.Agree.{Agree}
use Rattle.floor_moves.specs.Valid.{Valid}
use Rattle.place_laws.specs.Picture.{picture}
use Rattle.place_laws.specs.Sound.{Base}
use Rattle.picture_laws.proofs.Rows.{processing_agrees}
use Rattle.owed_laws.specs.Owed.{owed_to}
use Rattle.owed_laws.specs.Undisturbed.{Undisturbed}
use Rattle.owed_laws.proofs.Agreeing.{agree-undisturbed, agree-owed}
use Rattle.lot_laws.specs.Lot.{is_in_named_slot, Executes}
use Rattle.lot_laws.proofs.Standing.{joins_tell}
use Rattle.lot_laws.proofs.Planned.{waits_free}
use Rattle.lot_laws.proofs.Substrates.{change-executes}

-- the number of the state of processing behind a row
abbrev pub state_behind : ℕ → Substrate → ℕ
state_behind row s = processing_number (after processing_number processing_table row s.states.processing)

not_both : (b : Bool) → not b ≡ true → b ≡ true → ⊥
not_both true p q = true≢false (sym p)
not_both false p q = true≢false (sym q)

-- what doesn't NEED PROCESSING doesn't behind a row
needing_before : (row : ℕ) (p : Processing) → is_needing (after processing_number processing_table row p) ≡ true → is_needing p ≡ true
needing_before row processing.NeedsProcessing e = refl
needing_before row processing.InProcess e = absurd (not_both (is_needing (after processing_number processing_table row processing.InProcess)) (after_meets processing_number (λ (x : Processing). not (is_needing x)) (λ n. false) row processing.InProcess processing_table refl refl refl) e)
needing_before row processing.Processed e = absurd (not_both (is_needing (after processing_number processing_table row processing.Processed)) (after_meets processing_number (λ (x : Processing). not (is_needing x)) (λ n. false) row processing.Processed processing_table refl refl refl) e)
needing_before row processing.Aborted e = absurd (not_both (is_needing (after processing_number processing_table row processing.Aborted)) (after_meets processing_number (λ (x : Processing). not (is_needing x)) (λ n. false) row processing.Aborted processing_table refl refl refl) e)
needing_before row processing.Stopped e = absurd (not_both (is_needing (after processing_number processing_table row processing.Stopped)) (after_meets processing_number (λ (x : Processing). not (is_needing x)) (λ n. false) row processing.Stopped processing_table refl refl refl) e)
needing_before row processing.Rejected e = absurd (not_both (is_needing (after processing_number processing_table row processing.Rejected)) (after_meets processing_number (λ (x : Processing). not (is_needing x)) (λ n. false) row processing.Rejected processing_table refl refl refl) e)
needing_before row processing.Lost e = absurd (not_both (is_needing (after processing_number processing_table row processing.Lost)) (after_meets processing_number (λ (x : Processing). not (is_needing x)) (λ n. false) row processing.Lost processing_table refl refl refl) e)
needing_before row processing.Skipped e = absurd (not_both (is_needing (after processing_number processing_table row processing.Skipped)) (after_meets processing_number (λ (x : Processing). not (is_needing x)) (λ n. false) row processing.Skipped processing_table refl refl refl) e)

module _ (number : ℕ) (planned : ℕ → List (List ℕ)) (counted : ℕ → Bool) (f : ToolFloor) (b : Base f) (e : Executes number planned counted f) where
  -- ---- a row of table 13 of a member that isn't finished yet

  module _ (n row : ℕ) (s : Substrate) (at : substrate_numbered n f.substrates ≡ Some s) (ends : (row == 3) ≡ true → law.is_finished (state_behind row s) ≡ true) (member : (picture f).jobs.is_member n ≡ true) (unfinished : law.is_finished ((picture f).processing n) ≡ false)
      (valid : Valid (worked n (state_behind row s) (picture f))) (stands_then : Undisturbed counted (worked n (state_behind row s) (picture f)))
    where
      agrees : Agree (worked n (state_behind row s) (picture f)) (picture (with_moved 13 row n f))
      agrees = processing_agrees f n row s at ends

      pub worked_owed : owed_to planned counted (picture (with_moved 13 row n f)) ≡ owed_to planned counted (worked n (state_behind row s) (picture f))
      worked_owed = agree-owed (worked n (state_behind row s) (picture f)) (picture (with_moved 13 row n f)) agrees planned counted

      -- one that is done stays so, and isn't the one of the row
      done_on : (k : ℕ) → is_one_of (map number_of f.substrates) k ≡ true → is_done k (picture f) ≡ true → is_done k (picture (with_moved 13 row n f)) ≡ true
      done_on k kept done = ap (λ (p : ℕ). law.is_finished p && not (law.is_outside ((picture f).place_of k))) (agrees.processing k kept ∙ of (k == n) refl) ∙ done where
        of : (c : Bool) → (k == n) ≡ c → (if c then state_behind row s else (picture f).processing k) ≡ (picture f).processing k
        of false q = refl
        of true q =
            let finished = (and_parts (law.is_finished ((picture f).processing k)) (not (law.is_outside ((picture f).place_of k))) done).0 in
            absurd (true≢false (sym finished ∙ ap (λ (i : ℕ). law.is_finished ((picture f).processing i)) ((Decides-eqb k n).0 q) ∙ unfinished))

      takes : (j : ProcessJob) (x : Substrate) → can_join j f.shop (substrate_moves 13 row x) ≡ true → can_join j f.shop x ≡ true
      takes j x can =
          let tells = joins_tell j f (substrate_moves 13 row x) can in
          both (is_at_source x.states.transport && is_needing x.states.processing) ((x.job == 0) && is_in_named_slot j f.shop x)
          (both (is_at_source x.states.transport) (is_needing x.states.processing) tells.source (needing_before row x.states.processing tells.needs))
          (both (x.job == 0) (is_in_named_slot j f.shop x) tells.free tells.named)

      pub worked-executes : Executes number planned counted (with_moved 13 row n f)
      worked-executes =
          change-executes number planned counted f e n (substrate_moves 13 row) (λ x. refl) (λ x. refl) (λ x. (refl, refl)) f.modules agrees.jobs.is_member done_on (λ x found route w. absurd (waits_free number route f b n x found w member)) takes
          (agree-undisturbed (worked n (state_behind row s) (picture f)) (picture (with_moved 13 row n f)) agrees counted valid stands_then).substrates
