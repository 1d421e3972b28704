-- A control job executes on behind the row of table 13 that is ready by itself: row 2, of a substrate that an open Process names.
use Rattle.std.proofs.Common.{◌≡◌, ℕ, Bool, true, false, not, ◌&&◌, ◌||◌, List, [], ◌∷◌, Option, Some, None, refl, sym, ◌∙◌, ap, subst}
use Rattle.std.specs.List.{list_any}
use Rattle.std.proofs.lemmas.Bool.{true≢false, and_parts}
use Rattle.gem_tables.specs.Table.{is_among, firing, after}
use Rattle.gem_tables.proofs.Rows.{ready_row}
use Rattle.substrate.specs.Tables.{processing_number, processing_table}
use Rattle.substrate.specs.declared.record.Processing.{Processing}
use Rattle.substrate.specs.declared.record.Processing.TheVariants as processing
use Rattle.process_job.specs.declared.record.JobState.{JobState}
use Rattle.floor_model.specs.declared.tracked.Substrate.{Substrate}
use Rattle.floor_model.specs.Floor.{ToolFloor, substrate_numbered}
use Rattle.floor_model.specs.Jobs.{job_of, is_job_so, is_stopping, is_aborting}
use Rattle.floor_model.specs.Substrates.{is_outside, is_in_slot}
use Rattle.floor_model.specs.Naming.{module_names, processes}
use Rattle.floor_model.specs.Wants.{is_between, is_outside_of, substrate_wants}
use Rattle.floor_model.specs.Machines.{substrate_ready, with_moved, processing_machine, floor_fired}
use Rattle.floor_moves.specs.Floor as law
use Rattle.floor_moves.specs.Floor.{named}
use Rattle.floor_moves.specs.Effects.{worked}
use Rattle.floor_moves.specs.Valid.{Valid}
use Rattle.floor_moves.proofs.Columns.{MayWork, worked-keeps}
use Rattle.place_laws.specs.Picture.{picture, of_one}
use Rattle.place_laws.specs.Sound.{Sound}
use Rattle.floor_laws.proofs.EndOpen.{processes_busy}
use Rattle.owed_laws.specs.Owed.{owed_to}
use Rattle.owed_laws.specs.Undisturbed.{Undisturbed}
use Rattle.owed_laws.proofs.Columns.{worked-stays}
use Rattle.lot_laws.specs.Lot.{Executes}
use Rattle.lot_laws.proofs.Standing.{on_base, job_said, undisturbed}
use Rattle.lot_laws.proofs.Done.{state_behind, worked-executes, worked_owed}
use Rattle.floor_laws.proofs.EndRows.{is_needing, may_begin}

module _ (number : ℕ) (planned : ℕ → List (List ℕ)) (counted : ℕ → Bool) (f : ToolFloor) (sound : Sound f) (e : Executes number planned counted f) (n : ℕ) where
  abbrev Keeps : ToolFloor → Type 0
  Keeps g = Executes number planned counted g × (owed_to planned counted (picture g) ≡ owed_to planned counted (picture f))

  u : Undisturbed counted (picture f)
  u = undisturbed number planned counted f (on_base f sound.base) e

  module _ (s : Substrate) (known : substrate_numbered n f.substrates ≡ Some s) where
    not_stopping : is_job_so is_stopping (job_of s f.jobs) ≡ true → ⊥
    not_stopping is = true≢false (sym is ∙ job_said f n s known is_stopping ∙ u.jobs.not_stopping n)

    not_aborting : is_job_so is_aborting (job_of s f.jobs) ≡ true → ⊥
    not_aborting is = true≢false (sym is ∙ job_said f n s known is_aborting ∙ u.jobs.not_aborting n)

    neither : (is_job_so is_stopping (job_of s f.jobs) || is_job_so is_aborting (job_of s f.jobs)) ≡ true → ⊥
    neither is = of (is_job_so is_stopping (job_of s f.jobs)) (is_job_so is_aborting (job_of s f.jobs)) not_stopping not_aborting is where
      of : (a b : Bool) → (a ≡ true → ⊥) → (b ≡ true → ⊥) → (a || b) ≡ true → ⊥
      of true b p q r = p refl
      of false b p q r = q r

    -- its job is so, where it is outside with such a job
    of_its : (test : JobState → Bool) → is_outside_of test s f ≡ true → is_job_so test (job_of s f.jobs) ≡ true
    of_its test w = (and_parts (is_outside s f.places) (is_job_so test (job_of s f.jobs)) (and_parts (is_outside s f.places && is_job_so test (job_of s f.jobs)) (is_between s f) w).0).1

    two : is_among processing_number (processing.NeedsProcessing ∷ []) s.states.processing ≡ true → list_any (processes s.sub) f.modules ≡ true → Keeps (with_moved 13 2 n f)
    two among names =
        let needs = is_needing s.states.processing among in
        let goes : state_behind 2 s ≡ 1 = ap (λ (p : Processing). processing_number (after processing_number processing_table 2 p)) needs in
        let unfinished : law.is_finished ((picture f).processing n) ≡ false = ap (λ (o : Option Substrate). law.is_finished (of_one 0 (λ (x : Substrate). processing_number x.states.processing) o)) known ∙ ap (λ (p : Processing). law.is_finished (processing_number p)) needs in
        let its = processes_busy f sound.base sound.valid.commands n s known names in
        let member : (picture f).jobs.is_member n ≡ true = subst (λ (k : ℕ). (picture f).jobs.is_member k ≡ true) (ap named its.3) (sound.valid.members.named its.0 its.1 its.2) in
        let may : MayWork n 1 (picture f) = may_begin f n sound s known needs names in
        let valid : Valid (worked n (state_behind 2 s) (picture f)) = worked-keeps (picture f) n (state_behind 2 s) (subst (λ (k : ℕ). MayWork n k (picture f)) (sym goes) may) sound.valid in
        let stays = worked-stays planned counted (picture f) u n (state_behind 2 s) (ap law.is_finished goes ∙ sym unfinished) in
        (worked-executes number planned counted f sound.base e n 2 s known (λ q. absurd (true≢false (sym q))) member unfinished valid stays.0, worked_owed number planned counted f sound.base e n 2 s known (λ q. absurd (true≢false (sym q))) member unfinished valid stays.0 ∙ stays.1)

    ready : (row : ℕ) → substrate_ready processing_number processing_table (λ x. x.processing) (Some s) f ≡ Some row → Keeps (floor_fired (firing 13 n row) f)
    ready row e =
        ready_row (λ (r : ℕ). Keeps (floor_fired (firing 13 n r) f)) processing_number (λ want. substrate_wants want s f) processing_table row s.states.processing (
          (λ i a w. absurd (cc)),
          (
            (λ i a w. two a w),
            (
              (λ i a w. absurd (cc)),
              (
                (λ i a w. absurd (cc)),
                (
                  (λ i a w. absurd (neither (and_parts (is_job_so is_stopping (job_of s f.jobs) || is_job_so is_aborting (job_of s f.jobs)) (is_in_slot s f.places && not (list_any (module_names s.sub) f.modules)) w).0)),
                  (
                    (λ i a w. absurd (not_stopping (of_its is_stopping w))),
                    ((λ i a w. absurd (not_aborting (of_its is_aborting w))), ((λ i a w. absurd (cc)), tt)),
                  ),
                ),
              ),
            ),
          ),
        ) e

  pub processing-executes : (row : ℕ) → processing_machine.ready n f ≡ Some row → Executes number planned counted (floor_fired (firing 13 n row) f) × (owed_to planned counted (picture (floor_fired (firing 13 n row) f)) ≡ owed_to planned counted (picture f))
  processing-executes row e = of (substrate_numbered n f.substrates) refl e where
    of : (o : Option Substrate) → substrate_numbered n f.substrates ≡ o → substrate_ready processing_number processing_table (λ x. x.processing) o f ≡ Some row → Executes number planned counted (floor_fired (firing 13 n row) f) × (owed_to planned counted (picture (floor_fired (firing 13 n row) f)) ≡ owed_to planned counted (picture f))
    of None q g = absurd (cc)
    of (Some s) q g = ready s q row g
