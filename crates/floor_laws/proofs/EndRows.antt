-- The rows of a substrate keep what holds: those of transport, and those of processing that are not of an answer or of `lost`.
use Rattle.std.proofs.Common.{◌≡◌, ℕ, ◌==◌, Bool, true, false, not, ◌&&◌, ◌||◌, [], ◌∷◌, Option, Some, None, refl, sym, ◌∙◌, ap, subst}
use Rattle.std.specs.List.{list_any}
use Rattle.std.proofs.lemmas.Bool.{and_parts, not-true, true≢false}
use Rattle.gem_tables.specs.Table.{firing, after, is_one_of, is_among, may_fire, first_itself}
use Rattle.gem_tables.proofs.Rows.{one_of_cases, ready_row, ready_may_fire}
use Rattle.gem_ids.specs.declared.numbers.LocId.{LocId}
use Rattle.gem_ids.specs.declared.numbers.LocId.TheVariants.{Slot, Aligner, Arm, Chamber}
use Rattle.substrate.specs.Locations.{is_work_place}
use Rattle.substrate.specs.Places.{substrate_named}
use Rattle.substrate.specs.Record.{is_in_process}
use Rattle.substrate.specs.Tables.{processing_number, processing_table}
use Rattle.substrate.specs.declared.record.Processing.{Processing}
use Rattle.substrate.specs.declared.record.Processing.TheVariants as processing
use Rattle.substrate.specs.declared.registered.Registered.{Registered}
use Rattle.process_job.specs.declared.record.JobState.{JobState}
use Rattle.floor_model.specs.declared.tracked.Substrate.{Substrate}
use Rattle.floor_model.specs.Floor.{ToolFloor, substrate_numbered}
use Rattle.floor_model.specs.Jobs.{job_of, is_job_so, is_stopping, is_aborting}
use Rattle.floor_model.specs.Machines.{substrate_starts, substrate_ready, substrate_moves, with_moved, processing_machine, floor_starts, floor_fired}
use Rattle.floor_model.specs.Naming.{module_names, processes}
use Rattle.floor_model.specs.Substrates.{is_outside, is_at_work, is_in_slot}
use Rattle.floor_model.specs.Wants.{is_between, is_outside_of, substrate_wants}
use Rattle.floor_model.proofs.Keeping.{creation_same}
use Rattle.floor_moves.specs.Floor.{slot, chamber, is_finished, named}
use Rattle.floor_moves.proofs.Agreeing.{agree-keeps}
use Rattle.floor_moves.proofs.Columns.{MayWork, worked-keeps}
use Rattle.place_laws.specs.Picture.{picture, loc_of, place_in, of_one}
use Rattle.place_laws.specs.Sound.{Sound}
use Rattle.picture_laws.proofs.Rows.{transport-keeps, processing_agrees}
use Rattle.floor_laws.proofs.EndBase.{Leaves, changed_base}
use Rattle.floor_laws.proofs.EndNames.{number_is, place_is}
use Rattle.floor_laws.proofs.EndOpen.{busy_names, busy_processes, processes_busy}

-- a row of a substrate leaves what it is of
pub moves_leaves : (table row : ℕ) → Leaves (substrate_moves table row)
moves_leaves table row = record { number = λ s. refl; sub = λ s. refl; carrier = λ s. refl; slot = λ s. refl; job = λ s. refl }

-- ---- table 12

-- each row, whether it starts or not
pub transport_sound : (f : ToolFloor) (n row : ℕ) → Sound f → Sound (floor_fired (firing 12 n row) f)
transport_sound f n row s = record { base = changed_base n (substrate_moves 12 row) (moves_leaves 12 row) f s.base; ports = s.ports; unloading = s.unloading; valid = transport-keeps f n row s.valid }

-- ---- table 13

-- the rows from NEEDS PROCESSING start there
pub is_needing : (p : Processing) → is_among processing_number (processing.NeedsProcessing ∷ []) p ≡ true → p ≡ processing.NeedsProcessing
is_needing processing.NeedsProcessing e = refl
is_needing _ e = absurd (cc)

-- the substrate goes to a state that may be, by a row that does no step
worked_sound : (f : ToolFloor) (n row : ℕ) (s : Substrate) (state : ℕ) → substrate_numbered n f.substrates ≡ Some s → (row == 3) ≡ false → processing_number (after processing_number processing_table row s.states.processing) ≡ state → MayWork n state (picture f) → Sound f
    → Sound (with_moved 13 row n f)
worked_sound f n row s state known other goes may sound = record {
  base = changed_base n (substrate_moves 13 row) (moves_leaves 13 row) f sound.base;
  ports = sound.ports;
  unloading = sound.unloading;
  valid = agree-keeps _ _ (processing_agrees f n row s known (λ is. absurd (true≢false (sym is ∙ other)))) (worked-keeps (picture f) n _ (subst (λ (k : ℕ). MayWork n k (picture f)) (sym goes) may) sound.valid);
}

module _ (f : ToolFloor) (n : ℕ) (sound : Sound f) (s : Substrate) (known : substrate_numbered n f.substrates ≡ Some s) (needs : s.states.processing ≡ processing.NeedsProcessing) where
  -- it isn't finished
  unfinished : is_finished ((picture f).processing n) ≡ false
  unfinished = ap (λ (o : Option Substrate). is_finished (of_one 0 (λ (x : Substrate). processing_number x.states.processing) o)) known ∙ ap (λ (p : Processing). is_finished (processing_number p)) needs

  -- where it ends behind a row
  goes_to : (row : ℕ) → processing_number (after processing_number processing_table row s.states.processing) ≡ processing_number (after processing_number processing_table row processing.NeedsProcessing)
  goes_to row = ap (λ (p : Processing). processing_number (after processing_number processing_table row p)) needs

  -- where an open Process names it, it stands in a chamber, and may be IN PROCESS
  pub may_begin : list_any (processes s.sub) f.modules ≡ true → MayWork n 1 (picture f)
  may_begin processed_now = record {
    stays = λ t. absurd (let u = unfinished in cc);
    picked = λ m p k c i t. refl;
    processed = λ m c i t. refl;
    in_slot = λ p k at u. absurd (in_chamber p k at);
    needed = λ z. absurd (cc);
  } where
    in_chamber : (p k : ℕ) → (picture f).place_of n ≡ Some (slot p k) → ⊥
    in_chamber p k at =
        let w = processes_busy f sound.base sound.valid.commands n s known processed_now in
        let there = sound.valid.commands.processes w.0 n w.1 w.2 w.3 in
        let two : Some (slot p k) ≡ Some (chamber there.0) = sym at ∙ there.2 in
        cc

  -- row 2
  begins : list_any (processes s.sub) f.modules ≡ true → Sound (with_moved 13 2 n f)
  begins processed_now = worked_sound f n 2 s 1 known refl (goes_to 2) (may_begin processed_now) sound

  -- row 5
  skips : list_any (module_names s.sub) f.modules ≡ false → Sound (with_moved 13 5 n f)
  skips none =
      worked_sound f n 5 s 7 known refl (goes_to 5) (record {
        stays = λ t. refl;
        picked = λ m p k c i t. absurd (let b = busy_names f sound.base sound.valid.commands n s known m c i (ap named t) in cc);
        processed = λ m c i t. absurd (let b = busy_names f sound.base sound.valid.commands n s known m c i (ap named t) in cc);
        in_slot = λ p k at u. absurd (cc);
        needed = λ z. absurd (cc);
      }) sound

-- ---- rows 6 and 7, of one that is outside

-- they start where it isn't finished
abbrev is_unfinished : Processing → Bool
is_unfinished p = is_among processing_number (processing.NeedsProcessing ∷ processing.InProcess ∷ []) p

-- where it ends behind a row that goes from both states to one
goes_from_both : (row state : ℕ) → processing_number (after processing_number processing_table row processing.NeedsProcessing) ≡ state → processing_number (after processing_number processing_table row processing.InProcess) ≡ state
    → (p : Processing) → is_unfinished p ≡ true → processing_number (after processing_number processing_table row p) ≡ state
goes_from_both row state needing running processing.NeedsProcessing e = needing
goes_from_both row state needing running processing.InProcess e = running
goes_from_both row state needing running _ e = absurd (cc)

module _ (f : ToolFloor) (n : ℕ) (sound : Sound f) (s : Substrate) (known : substrate_numbered n f.substrates ≡ Some s) where
  -- one that is outside has no place in a slot
  not_in_slot : is_outside s f.places ≡ true → (p k : ℕ) → (picture f).place_of n ≡ Some (slot p k) → ⊥
  not_in_slot out p k at = of (substrate_named s.sub f.places.held) refl out where
    by : (l : LocId) → is_work_place l ≡ true → Some (loc_of l) ≡ Some (slot p k) → ⊥
    by (Slot q j) work e = cc
    by Aligner work e = cc
    by Arm work e = cc
    by (Chamber c) work e = cc

    of : (o : Option Registered) → substrate_named s.sub f.places.held ≡ o → is_at_work o ≡ true → ⊥
    of None q w = cc
    of (Some r) q w = by r.at w (sym (place_is f sound.base s.sub r q) ∙ ap (place_in f.places) (number_is f sound.base n s r known q) ∙ at)

  -- it ends where no open Process names it
  ends : (row state : ℕ) → (row == 3) ≡ false → processing_number (after processing_number processing_table row s.states.processing) ≡ state → is_finished state ≡ true → is_outside s f.places ≡ true → list_any (processes s.sub) f.modules ≡ false → Sound (with_moved 13 row n f)
  ends row state other goes finished out none =
      worked_sound f n row s state known other goes (record {
        stays = λ t. finished;
        picked = λ m p k c i t. absurd (not_in_slot out p k (sound.valid.commands.picks m n (slot p k) c i t).stands);
        processed = λ m c i t. absurd (let b = busy_processes f sound.base sound.valid.commands n s known m c i t in cc);
        in_slot = λ p k at u. absurd (cc);
        needed = λ z. absurd (let needs = ap is_finished z in cc);
      }) sound

  -- Where one of them starts none does: row 2, which is the lesser, would start where it NEEDS PROCESSING, and IN PROCESS it is between two
  -- steps.
  none_processes : (p : Processing) → s.states.processing ≡ p → is_unfinished p ≡ true → is_between s f ≡ true → floor_starts (firing 13 n 2) f ≡ false → list_any (processes s.sub) f.modules ≡ false
  none_processes processing.NeedsProcessing q among between e =
      sym (ap (λ (o : Option Substrate). substrate_starts processing_number processing_table (λ s. s.processing) 2 o f) known ∙ ap (λ (p : Processing). may_fire processing_number (λ want. substrate_wants want s f) processing_table 2 p) q) ∙ e
  none_processes processing.InProcess q among between e =
      not-true (list_any (processes s.sub) f.modules) (sym (ap (λ (p : Processing). not (is_in_process p && list_any (processes s.sub) f.modules)) q) ∙ between)
  none_processes _ q among between e = absurd (cc)

  -- so each of them keeps what holds
  stops : (row state : ℕ) (test : JobState → Bool) → (row == 3) ≡ false → processing_number (after processing_number processing_table row processing.NeedsProcessing) ≡ state → processing_number (after processing_number processing_table row processing.InProcess) ≡ state
      → is_finished state ≡ true → (is_unfinished s.states.processing && is_outside_of test s f) ≡ true → floor_starts (firing 13 n 2) f ≡ false → Sound (with_moved 13 row n f)
  stops row state test other needing running finished starts none =
      let w = and_parts (is_unfinished s.states.processing) (is_outside_of test s f) starts in
      let u = and_parts (is_outside s f.places && is_job_so test (job_of s f.jobs)) (is_between s f) w.1 in
      let out = and_parts (is_outside s f.places) (is_job_so test (job_of s f.jobs)) u.0 in
      ends row state other (goes_from_both row state needing running s.states.processing w.0) finished out.0 (none_processes s.states.processing refl w.0 u.1 none)

-- Row 1 in any state; the others where they start: 6 and 7 where row 2, which is the lesser, doesn't.
pub processing_sound : (f : ToolFloor) (n row : ℕ) → floor_starts (firing 13 n row) f ≡ true → is_one_of (1 ∷ 2 ∷ 5 ∷ 6 ∷ 7 ∷ []) row ≡ true
    → (is_one_of (6 ∷ 7 ∷ []) row ≡ true → floor_starts (firing 13 n 2) f ≡ false) → Sound f → Sound (floor_fired (firing 13 n row) f)
processing_sound f n row starts one first sound =
    one_of_cases (λ (r : ℕ). floor_starts (firing 13 n r) f ≡ true → (is_one_of (6 ∷ 7 ∷ []) r ≡ true → floor_starts (firing 13 n 2) f ≡ false) → Sound (floor_fired (firing 13 n r) f)) (1 ∷ 2 ∷ 5 ∷ 6 ∷ 7 ∷ []) row (
      (λ st fi. subst Sound (sym (creation_same f (firing 13 n 1) refl)) sound),
      ((λ st fi. row_2 (substrate_numbered n f.substrates) refl st), ((λ st fi. row_5 (substrate_numbered n f.substrates) refl st), ((λ st fi. row_6 (substrate_numbered n f.substrates) refl st (fi refl)), ((λ st fi. row_7 (substrate_numbered n f.substrates) refl st (fi refl)), tt)))),
    )
    one starts first
  where
    row_2 : (o : Option Substrate) → substrate_numbered n f.substrates ≡ o → substrate_starts processing_number processing_table (λ s. s.processing) 2 o f ≡ true → Sound (with_moved 13 2 n f)
    row_2 None q e = absurd (cc)
    row_2 (Some s) q e =
        let w = and_parts (is_among processing_number (processing.NeedsProcessing ∷ []) s.states.processing) (list_any (processes s.sub) f.modules) e in
        begins f n sound s q (is_needing s.states.processing w.0) w.1

    row_5 : (o : Option Substrate) → substrate_numbered n f.substrates ≡ o → substrate_starts processing_number processing_table (λ s. s.processing) 5 o f ≡ true → Sound (with_moved 13 5 n f)
    row_5 None q e = absurd (cc)
    row_5 (Some s) q e =
        let jobs = is_job_so is_stopping (job_of s f.jobs) || is_job_so is_aborting (job_of s f.jobs) in
        let w = and_parts (is_among processing_number (processing.NeedsProcessing ∷ []) s.states.processing) (jobs && (is_in_slot s f.places && not (list_any (module_names s.sub) f.modules))) e in
        let u = and_parts jobs (is_in_slot s f.places && not (list_any (module_names s.sub) f.modules)) w.1 in
        let x = and_parts (is_in_slot s f.places) (not (list_any (module_names s.sub) f.modules)) u.1 in
        skips f n sound s q (is_needing s.states.processing w.0) (not-true (list_any (module_names s.sub) f.modules) x.1)

    row_6 : (o : Option Substrate) → substrate_numbered n f.substrates ≡ o → substrate_starts processing_number processing_table (λ s. s.processing) 6 o f ≡ true → floor_starts (firing 13 n 2) f ≡ false → Sound (with_moved 13 6 n f)
    row_6 None q e none = absurd (cc)
    row_6 (Some s) q e none = stops f n sound s q 6 4 is_stopping refl refl refl refl e none

    row_7 : (o : Option Substrate) → substrate_numbered n f.substrates ≡ o → substrate_starts processing_number processing_table (λ s. s.processing) 7 o f ≡ true → floor_starts (firing 13 n 2) f ≡ false → Sound (with_moved 13 7 n f)
    row_7 None q e none = absurd (cc)
    row_7 (Some s) q e none = stops f n sound s q 7 3 is_aborting refl refl refl refl e none

-- the row that is ready by itself at a substrate
pub processing_ready_sound : (f : ToolFloor) (n row : ℕ) → processing_machine.ready n f ≡ Some row → Sound f → Sound (floor_fired (firing 13 n row) f)
processing_ready_sound f n row ready sound = of (substrate_numbered n f.substrates) refl ready where
  of : (o : Option Substrate) → substrate_numbered n f.substrates ≡ o → substrate_ready processing_number processing_table (λ s. s.processing) o f ≡ Some row → Sound (floor_fired (firing 13 n row) f)
  of None q e = absurd (cc)
  of (Some s) q e = processing_sound f n row starts among less sound where
    starts : floor_starts (firing 13 n row) f ≡ true
    starts =
        ap (λ (o : Option Substrate). substrate_starts processing_number processing_table (λ s. s.processing) row o f) q
        ∙ ready_may_fire processing_number (λ want. substrate_wants want s f) processing_table row s.states.processing (refl, (refl, (refl, (refl, (refl, (refl, (refl, (refl, tt)))))))) e

    among : is_one_of (1 ∷ 2 ∷ 5 ∷ 6 ∷ 7 ∷ []) row ≡ true
    among =
        ready_row (λ (r : ℕ). is_one_of (1 ∷ 2 ∷ 5 ∷ 6 ∷ 7 ∷ []) r ≡ true) processing_number (λ want. substrate_wants want s f) processing_table row s.states.processing
        ((λ i a w. refl), ((λ i a w. refl), ((λ i a w. absurd (cc)), ((λ i a w. absurd (cc)), ((λ i a w. refl), ((λ i a w. refl), ((λ i a w. refl), ((λ i a w. absurd (cc)), tt)))))))) e

    starts_first : may_fire processing_number (λ want. substrate_wants want s f) processing_table 2 s.states.processing ≡ true → first_itself processing_number (λ want. substrate_wants want s f) processing_table s.states.processing ≡ Some 2
    starts_first t = rw t refl

    -- where row 2 starts it is the one
    by : (b : Bool) → may_fire processing_number (λ want. substrate_wants want s f) processing_table 2 s.states.processing ≡ b → is_one_of (6 ∷ 7 ∷ []) row ≡ true → b ≡ false
    by true t six =
        let first : first_itself processing_number (λ want. substrate_wants want s f) processing_table s.states.processing ≡ Some 2 = starts_first t in
        let two : 2 ≡ row = (let both : Some 2 ≡ Some row = sym first ∙ e in cc) in
        absurd (let clash : false ≡ true = ap (λ (r : ℕ). is_one_of (6 ∷ 7 ∷ []) r) two ∙ six in cc)
    by false t six = refl

    less : is_one_of (6 ∷ 7 ∷ []) row ≡ true → floor_starts (firing 13 n 2) f ≡ false
    less six =
        ap (λ (o : Option Substrate). substrate_starts processing_number processing_table (λ s. s.processing) 2 o f) q
        ∙ by (may_fire processing_number (λ want. substrate_wants want s f) processing_table 2 s.states.processing) refl six
