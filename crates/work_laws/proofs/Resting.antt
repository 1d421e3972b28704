-- Where no row of the floor is ready by itself and each module is Idle, the floor by numbers is at rest.
use Rattle.std.proofs.Common.{◌≡◌, ◌≤◌, ℕ, ◌+◌, ◌-◌, ◌==◌, Bool, true, false, ◌||◌, ◌&&◌, not, if◌then◌else◌, length, Option, Some, None, is_some, refl, sym, ◌∙◌, ap, subst, arith}
use Rattle.std.specs.List.{list_any}
use Rattle.std.proofs.lemmas.Bool.{and_from, false_from_ne_true}
use Rattle.std.proofs.lemmas.Bool.Decides.{Decides-eqb}
use Rattle.gem_tables.specs.Table.{first_itself, is_one_of}
use Rattle.gem_ids.specs.declared.numbers.LocId.{LocId}
use Rattle.gem_ids.specs.declared.numbers.LocId.TheVariants.{Aligner, Arm, Chamber}
use Rattle.tool_tasks.specs.declared.task.Task.TheVariants as task
use Rattle.robot_moves.specs.Modules.{module_at, is_idle, chamber_module}
use Rattle.robot_moves.specs.Moves.{holder, free_target, is_useful, best_pick, move_by, place_move, pick_move, arm_move, robot_move, align_move, aligner_move, is_next, process_move, chamber_move, module_move, next_move}
use Rattle.robot_moves.specs.declared.view.PlaceView.{PlaceView}
use Rattle.robot_moves.proofs.Best.{none_is}
use Rattle.substrate.specs.Locations.{is_same}
use Rattle.substrate.specs.Tables.{processing_number, processing_table}
use Rattle.substrate.specs.declared.record.Processing.{Processing}
use Rattle.substrate.specs.declared.record.Processing.TheVariants as processing
use Rattle.process_job.specs.declared.job.ProcessJob.{ProcessJob}
use Rattle.process_job.specs.declared.record.JobState.{JobState}
use Rattle.floor_model.specs.declared.tracked.Substrate.{Substrate}
use Rattle.floor_model.specs.Floor.{ToolFloor, substrate_numbered, number_of}
use Rattle.floor_model.specs.Jobs.{job_of, is_job_so, is_stopping, is_aborting}
use Rattle.floor_model.specs.Naming.{module_names}
use Rattle.floor_model.specs.Substrates.{is_in_slot}
use Rattle.floor_model.specs.Views.{views, planned}
use Rattle.floor_model.specs.Wants.{substrate_wants, is_skipped}
use Rattle.floor_moves.specs.Floor as law
use Rattle.floor_moves.specs.Floor.{Loc, aligner, arm, chamber, own}
use Rattle.floor_moves.specs.Valid.{Empty, IsUnnamed, Valid}
use Rattle.floor_moves.specs.Rest.{HasTarget, MayLeave, AtRest}
use Rattle.place_laws.proofs.Holding.{one_found}
use Rattle.place_laws.specs.Picture.{picture, loc_of, of_one, of_job}
use Rattle.place_laws.specs.Sound.{Base}
use Rattle.floor_laws.proofs.IssueHeld.{found_so}
use Rattle.floor_laws.proofs.JobSight.{in_slot_from}
use Rattle.floor_laws.proofs.JobNamed.{named_from}
use Rattle.work_laws.proofs.Lists.{where_none, none_of}
use Rattle.work_laws.proofs.Standing.{within, shown, none_held, place_named, target_there, useful_there}
use Rattle.shop_floor.proofs.AtRest.{mapped_none}
use Rattle.place_laws.proofs.QuietPorts.{no_row}

-- ---- table 13

-- the first state of table 13 is NEEDS PROCESSING
is_needing_state : (p : Processing) → (processing_number p == 0) ≡ true → p ≡ processing.NeedsProcessing
is_needing_state processing.NeedsProcessing e = refl
is_needing_state _ e = absurd (cc)

-- where no row of table 13 is ready, one that NEEDS PROCESSING isn't skipped
none_skipped : (f : ToolFloor) (s : Substrate) (p : Processing) → p ≡ processing.NeedsProcessing → first_itself processing_number (λ w. substrate_wants w s f) processing_table p ≡ None → is_skipped s f ≡ false
none_skipped f s p is e =
    let here : first_itself processing_number (λ w. substrate_wants w s f) processing_table processing.NeedsProcessing ≡ None = subst (λ (x : Processing). first_itself processing_number (λ w. substrate_wants w s f) processing_table x ≡ None) is e in
    (no_row processing_number (λ w. substrate_wants w s f) processing_table processing.NeedsProcessing here).1.1.1.1.0

-- what its job says by numbers
said : (f : ToolFloor) (n : ℕ) (s : Substrate) → substrate_numbered n f.substrates ≡ Some s → (test : JobState → Bool) → of_one false (of_job false (λ j. test j.states.state) f.jobs) (substrate_numbered n f.substrates) ≡ is_job_so test (job_of s f.jobs)
said f n s found test = ap (of_one false (of_job false (λ j. test j.states.state) f.jobs)) found ∙ of (job_of s f.jobs) where
  of : (o : Option ProcessJob) → of_one false (λ (j : ProcessJob). test j.states.state) o ≡ is_job_so test o
  of None = refl
  of (Some j) = refl

-- ---- table 16

-- where a move is planned for none of the modules, none is for the module of a number
pub none_planned : (f : ToolFloor) → next_move (views f) f.modules ≡ None → (m : ℕ) → 1 ≤ m → m ≤ length f.modules → planned m f ≡ None
none_planned f e m least most = none_of (λ (n : ℕ). module_move n (views f) f.modules) 1 (length f.modules) m e least (omega (arith, most))

module _ (f : ToolFloor) (b : Base f) (v : Valid (picture f)) (many : length f.modules ≡ 2 + f.places.chambers)
    (idles : (m : ℕ) → 1 ≤ m → m ≤ length f.modules → is_idle (module_at m f.modules) ≡ true)
    (none : (m : ℕ) → 1 ≤ m → m ≤ length f.modules → planned m f ≡ None)
    (rests : (n : ℕ) (s : Substrate) → substrate_numbered n f.substrates ≡ Some s → first_itself processing_number (λ w. substrate_wants w s f) processing_table s.states.processing ≡ None) where
  -- ---- the robot

  no_arm_move : arm_move (views f) f.modules (holder Arm (views f)) ≡ None
  no_arm_move = where_none (is_idle (module_at 1 f.modules)) (arm_move (views f) f.modules (holder Arm (views f))) (none 1 (omega arith) (omega (arith, many))) (idles 1 (omega arith) (omega (arith, many)))

  -- row 1
  no_place : (n : ℕ) → (picture f).place_of n ≡ Some arm → HasTarget n (picture f) → ⊥
  no_place n at has =
      let w = shown f b v many idles n Arm at in
      let some : is_some (free_target (views f) f.modules w.0) ≡ true = target_there f b v many idles n w.0 w.1.seen has in
      let nothing : place_move (views f) f.modules w.0 ≡ None = sym (ap (arm_move (views f) f.modules) w.1.held) ∙ no_arm_move in
      let no_target : free_target (views f) f.modules w.0 ≡ None = mapped_none (λ (loc : LocId). move_by 1 1 (task.Place w.0.sub loc)) (free_target (views f) f.modules w.0) nothing in
      let not_some : is_some (free_target (views f) f.modules w.0) ≡ false = ap (λ (o : Option LocId). is_some o) no_target in
      cc

  -- row 2
  no_pick : (n : ℕ) (l : Loc) → (picture f).place_of n ≡ Some l → MayLeave n l (picture f) → Empty arm (picture f) → HasTarget n (picture f) → ⊥
  no_pick n l at may free has =
      let loc = place_named f b v many idles n l at in
      of loc.0 (at ∙ ap (λ (x : Loc). Some x) (sym loc.1)) (subst (λ (x : Loc). MayLeave n x (picture f)) (sym loc.1) may)
    where
      no_best : best_pick (views f) f.modules ≡ None
      no_best = mapped_none pick_move (best_pick (views f) f.modules) (sym (ap (arm_move (views f) f.modules) (none_held f b v many idles Arm free)) ∙ no_arm_move)

      of : (loc : LocId) → (picture f).place_of n ≡ Some (loc_of loc) → MayLeave n (loc_of loc) (picture f) → ⊥
      of loc at may =
          let w = shown f b v many idles n loc at in
          let some : is_useful (views f) f.modules w.0 ≡ true = useful_there f b v many idles n w.0 w.1.seen loc w.1.at at may has in
          let not_some : is_useful (views f) f.modules w.0 ≡ false = (found_so (λ (x : PlaceView). is_useful (views f) f.modules x ≡ false) (λ (x : PlaceView). is_same x.at loc) (views f) w.0 (none_is (views f) f.modules no_best) w.1.held).0 in
          cc

  -- ---- the aligner

  -- row 3
  no_align : (n : ℕ) → (picture f).place_of n ≡ Some aligner → law.is_finished ((picture f).processing n) ≡ false → (picture f).is_aligned n ≡ false → ⊥
  no_align n at unfinished unaligned =
      let nothing : align_move (holder Aligner (views f)) ≡ None = where_none (is_idle (module_at 2 f.modules)) (align_move (holder Aligner (views f))) (none 2 (omega arith) (omega (arith, many))) (idles 2 (omega arith) (omega (arith, many))) in
      let w = shown f b v many idles n Aligner at in
      let neither : (not w.0.finished && not w.0.aligned) ≡ true = and_from (not w.0.finished) (not w.0.aligned) (ap (λ (x : Bool). not x) (sym w.1.seen.finished ∙ unfinished)) (ap (λ (x : Bool). not x) (sym w.1.seen.aligned ∙ unaligned)) in
      let here : align_move (Some w.0) ≡ None = sym (ap align_move w.1.held) ∙ nothing in
      let no_move : Some (move_by 2 3 (task.Align w.0.sub)) ≡ None = where_none (not w.0.finished && not w.0.aligned) (Some (move_by 2 3 (task.Align w.0.sub))) here neither in
      cc

  -- ---- the chambers

  -- what is planned for the module of a chamber
  chamber_planned : (c : ℕ) → 1 ≤ c → planned (chamber_module c) f ≡ chamber_move (chamber_module c) (views f) f.modules
  chamber_planned c least =
      ap (λ (t : Bool). if t then robot_move (views f) f.modules else (if chamber_module c == 2 then aligner_move (views f) f.modules else chamber_move (chamber_module c) (views f) f.modules)) not_first
      ∙ ap (λ (t : Bool). if t then aligner_move (views f) f.modules else chamber_move (chamber_module c) (views f) f.modules) not_second
    where
      not_first : (chamber_module c == 1) ≡ false
      not_first = false_from_ne_true (chamber_module c == 1) (λ e. let same = (Decides-eqb (chamber_module c) 1).0 e in absurd (omega (arith, same, least)))

      not_second : (chamber_module c == 2) ≡ false
      not_second = false_from_ne_true (chamber_module c == 2) (λ e. let same = (Decides-eqb (chamber_module c) 2).0 e in absurd (omega (arith, same, least)))

  -- row 4
  no_process : (n c : ℕ) → (picture f).place_of n ≡ Some (chamber c) → law.is_finished ((picture f).processing n) ≡ false → is_one_of (law.next_step n (picture f)) c ≡ true → ⊥
  no_process n c at unfinished due =
      let known = within 1 f.places.chambers c (v.places.chambers n c at) in
      let least = known.0 in
      let more = known.1 in
      let most : chamber_module c ≤ length f.modules = omega (arith, more, many) in
      let w = shown f b v many idles n (Chamber c) at in
      let number : chamber_module c - 2 ≡ c = omega arith in
      let next : is_next w.0 (chamber_module c - 2) ≡ true = ap (is_next w.0) number ∙ sym (w.1.seen.next (v.members.outside n (ap law.is_outside at)) c) ∙ due in
      let both : (not w.0.finished && is_next w.0 (chamber_module c - 2)) ≡ true = and_from (not w.0.finished) (is_next w.0 (chamber_module c - 2)) (ap (λ (x : Bool). not x) (sym w.1.seen.finished ∙ unfinished)) next in
      let nothing : chamber_move (chamber_module c) (views f) f.modules ≡ None = sym (chamber_planned c least) ∙ none (chamber_module c) (omega arith) most in
      let behind : process_move (chamber_module c) (holder (Chamber (chamber_module c - 2)) (views f)) ≡ None = where_none (is_idle (module_at (chamber_module c) f.modules)) (process_move (chamber_module c) (holder (Chamber (chamber_module c - 2)) (views f))) nothing (idles (chamber_module c) (omega arith) most) in
      let here : process_move (chamber_module c) (Some w.0) ≡ None = sym (ap (λ (d : ℕ). process_move (chamber_module c) (holder (Chamber d) (views f))) number ∙ ap (process_move (chamber_module c)) w.1.held) ∙ behind in
      let no_move : Some (move_by (chamber_module c) 4 (task.Process w.0.sub w.0.recipe)) ≡ None = where_none (not w.0.finished && is_next w.0 (chamber_module c - 2)) (Some (move_by (chamber_module c) 4 (task.Process w.0.sub w.0.recipe))) here both in
      cc

  -- ---- table 13

  -- row 5
  no_skip : (n : ℕ) → (picture f).place_of n ≡ Some (own n (picture f)) → ((picture f).processing n == 0) ≡ true → ((picture f).jobs.is_stopping n || (picture f).jobs.is_aborting n) ≡ true → IsUnnamed n (picture f) → ⊥
  no_skip n at e ends unnamed = let s = one_found number_of n f.substrates (v.places.kept n (own n (picture f)) at) in of s.0 s.1 where
    of : (s : Substrate) → substrate_numbered n f.substrates ≡ Some s → ⊥
    of s found =
        let none : is_skipped s f ≡ false = none_skipped f s s.states.processing (is_needing_state s.states.processing (sym (ap (λ (o : Option Substrate). of_one 0 (λ (x : Substrate). processing_number x.states.processing) o == 0) found) ∙ e)) (rests n s found) in
        let said_so : (is_job_so is_stopping (job_of s f.jobs) || is_job_so is_aborting (job_of s f.jobs)) ≡ true =
        ap (λ (x : Bool). x || is_job_so is_aborting (job_of s f.jobs)) (sym (said f n s found is_stopping)) ∙ ap (λ (x : Bool). (picture f).jobs.is_stopping n || x) (sym (said f n s found is_aborting)) ∙ ends in
        let home : is_in_slot s f.places ≡ true = in_slot_from f b n s found at in
        let free : list_any (module_names s.sub) f.modules ≡ false = false_from_ne_true (list_any (module_names s.sub) f.modules) (λ t. let w = named_from f b n s found v.members t in unnamed w.0 w.1 w.2 w.3) in
        let some : is_skipped s f ≡ true =
        and_from (is_job_so is_stopping (job_of s f.jobs) || is_job_so is_aborting (job_of s f.jobs)) (is_in_slot s f.places && not (list_any (module_names s.sub) f.modules)) said_so
        (and_from (is_in_slot s f.places) (not (list_any (module_names s.sub) f.modules)) home (ap (λ (x : Bool). not x) free)) in
        cc

  -- the floor by numbers is at rest
  pub at_rest : AtRest (picture f)
  at_rest = record { placed = no_place; picked = no_pick; aligned = no_align; processed = no_process; skipped = no_skip }
