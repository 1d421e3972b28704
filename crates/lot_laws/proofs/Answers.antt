-- Done of an open command takes one off what is owed, and the control job executes on.
use Rattle.std.proofs.Common.{◌≡◌, ◌<◌, nat_lt, length, arith, ℕ, ◌+◌, ◌==◌, Bool, true, false, if◌then◌else◌, not, ◌&&◌, List, [], ◌∷◌, Option, Some, None, option_map, refl, sym, ◌∙◌, ap, subst, ◌⊎◌, inl, inr}
use Rattle.std.proofs.lemmas.Bool.{true≢false, and_parts}
use Rattle.std.proofs.lemmas.Bool.Decides.{nat_tests}
use Rattle.gem_tables.specs.Table.{is_one_of, is_among, firing, after}
use Rattle.gem_tables.proofs.Rows.{one_of_cases}
use Rattle.gem_ids.specs.declared.numbers.LocId.{LocId}
use Rattle.gem_ids.specs.declared.numbers.LocId.TheVariants.{Arm}
use Rattle.tool_tasks.specs.Routes.{most_steps}
use Rattle.tool_tasks.specs.declared.task.Command.{Command as ToolCommand}
use Rattle.tool_tasks.specs.declared.task.Task.{Task as ToolTask}
use Rattle.tool_tasks.specs.declared.task.Task.TheVariants as task
use Rattle.robot_moves.specs.declared.module.Module.{Module as ToolModule}
use Rattle.robot_moves.specs.declared.module.Module.TheVariants.{Busy}
use Rattle.robot_moves.specs.Modules.{module_at, change_module}
use Rattle.substrate.specs.Places.{PlaceMap, moved as moved_to}
use Rattle.substrate.specs.Tables.{processing_number, processing_table}
use Rattle.substrate.specs.declared.record.Processing.{Processing}
use Rattle.substrate.specs.declared.record.Processing.TheVariants as processing
use Rattle.substrate.specs.declared.registered.Registered.{Registered}
use Rattle.floor_model.specs.declared.tracked.Substrate.{Substrate}
use Rattle.floor_model.specs.Floor.{ToolFloor, substrate_numbered, with_module, change_numbered}
use Rattle.floor_model.specs.Modules.{module_behind, open_task, aligned, aligned_numbered, aligned_by, stepped, number_named}
use Rattle.floor_model.specs.Signals.{done_row}
use Rattle.floor_model.specs.Jobs.{job_of, is_job_so, is_aborting}
use Rattle.floor_model.specs.Views.{route_for, goes_on}
use Rattle.floor_model.specs.Machines.{substrate_starts, with_moved, floor_starts, floor_fired}
use Rattle.floor_moves.specs.Floor as law
use Rattle.floor_moves.specs.Floor.{Loc, Command, aligner, pick, place, align, process, busy, idle, step_at, next_step, is_done}
use Rattle.floor_moves.specs.Effects.{moved, aligned as aligned_by_numbers, turned, worked, stepped as stepped_by_numbers}
use Rattle.floor_moves.specs.Agree.{Agree}
use Rattle.floor_moves.specs.Valid.{IsUnnamed, Valid}
use Rattle.floor_moves.proofs.Facts.{outside_not_done, picked_not_done}
use Rattle.floor_moves.proofs.Done.{done_align-keeps, finished-keeps, stepped-keeps}
use Rattle.floor_moves.proofs.Moving.{idle_not_busy}
use Rattle.place_laws.specs.Picture.{picture, loc_of, numbered, task_of, of_one}
use Rattle.place_laws.specs.Sound.{Sound}
use Rattle.place_laws.proofs.Routes.{its_job, more_is}
use Rattle.picture_laws.proofs.Columns.{says_same}
use Rattle.picture_laws.proofs.Closing.{modules_behind, aligning_agrees}
use Rattle.floor_laws.proofs.EndNames.{named_place, number_there, named_kept}
use Rattle.floor_laws.proofs.EndOpen.{command_of, busy_at}
use Rattle.owed_laws.specs.Owed.{owed_to}
use Rattle.owed_laws.specs.Undisturbed.{ArePlanned, Undisturbed, SubstratesStand, OneLess}
use Rattle.owed_laws.proofs.Agreeing.{agree-undisturbed, agree-owed}
use Rattle.owed_laws.proofs.Decreasing as owes
use Rattle.lot_laws.specs.Lot.{HaveRoutes, IsInJob, Waits, Executes}
use Rattle.lot_laws.proofs.Planned.{are_planned}
use Rattle.lot_laws.proofs.Standing.{on_base, undisturbed}
use Rattle.lot_laws.proofs.Substrates.{change-executes}
use Rattle.lot_laws.proofs.Done.{state_behind, worked-executes, worked_owed}
use Rattle.floor_laws.proofs.EndProcess.{is_running, done_closes, done_steps, done_agrees}
use Rattle.floor_laws.proofs.EndRunning.{process_numbered, IsRunning}
use Rattle.floor_laws.proofs.EndMoves.{Written, behind, pick_written, place_written}
use Rattle.floor_moves.proofs.Maps.{set_else}

module _ (number : ℕ) (planned : ℕ → List (List ℕ)) (counted : ℕ → Bool) (f : ToolFloor) (e : Executes number planned counted f) where
  -- it executes on where no more than places and modules change, who is done stays so, and the substrates stand
  pub places-executes : (p : PlaceMap) (ms : List ToolModule) → ((k : ℕ) → is_done k (picture f) ≡ true → is_done k (picture (record f { places = p; modules = ms })) ≡ true)
      → SubstratesStand counted (picture (record f { places = p; modules = ms })) → Executes number planned counted (record f { places = p; modules = ms })
  places-executes p ms done stand = record {
    steers = e.steers;
    here = e.here;
    members = e.members;
    stands = λ n x found is. by n x (e.stands n x found is);
    all = e.all;
    substrates = stand;
  } where
    by : (n : ℕ) (x : Substrate) → (is_done n (picture f) ≡ true) ⊎ (IsInJob number (planned n) x f ⊎ Waits number (planned n) x f) → (is_done n (picture (record f { places = p; modules = ms })) ≡ true) ⊎ (IsInJob number (planned n) x (record f { places = p; modules = ms }) ⊎ Waits number (planned n) x (record f { places = p; modules = ms }))
    by n x (inl is) = inl (done n is)
    by n x (inr (inl its)) = inr (inl its)
    by n x (inr (inr w)) = inr (inr (record { at = w.at; job = w.job; kept = w.kept; left = w.left; first = w.first; goes_by = w.goes_by; queued = w.queued; joins = w.joins }))

module _ (number : ℕ) (planned : ℕ → List (List ℕ)) (counted : ℕ → Bool) (f : ToolFloor) (sound : Sound f) (e : Executes number planned counted f) (m : ℕ) (c : ToolCommand) (fetched : Bool) (here : module_at m f.modules ≡ Some (Busy c fetched)) where
  -- it executes on, and one less is owed
  abbrev Falls : ToolFloor → Type 0
  Falls g = Executes number planned counted g × (owed_to planned counted (picture g) + 1 ≡ owed_to planned counted (picture f))

  u : Undisturbed counted (picture f)
  u = undisturbed number planned counted f (on_base f sound.base) e

  fits : ArePlanned planned (picture f)
  fits = are_planned number planned counted f sound.base e

  is_busy : (picture f).equipment m ≡ busy (command_of c f.places)
  is_busy = busy_at f m c fetched here

  -- ---- Done of Pick and of Place

  transfer-falls : (sub : List ℕ) (from to : LocId) → Written f sound m c fetched here sub from to → is_done (numbered sub f.places) (picture f) ≡ false → OneLess planned counted (picture f) (moved (numbered sub f.places) (loc_of to) m (picture f)) → Falls (floor_fired (firing 16 m 5) f)
  transfer-falls sub from to w left less = subst Falls (sym w.fires) (
    places-executes number planned counted f e (record f.places { held = moved_to sub to f.places.held }) (change_module m (module_behind 5) f.modules) done (agree-undisturbed _ _ w.agrees counted w.valid less.0).substrates,
    ap (λ (k : ℕ). k + 1) (agree-owed _ _ w.agrees planned counted) ∙ less.1,
  ) where
    done : (k : ℕ) → is_done k (picture f) ≡ true → is_done k (picture (behind f sound m c fetched here (record f.places { held = moved_to sub to f.places.held }))) ≡ true
    done k is = ap (λ (l : Option Loc). law.is_finished ((picture f).processing k) && not (law.is_outside l)) (w.agrees.place_of k ∙ set_else (numbered sub f.places) k (Some (loc_of to)) (picture f).place_of apart) ∙ is where
      apart : k ≡ numbered sub f.places → ⊥
      apart same = true≢false (sym is ∙ ap (λ (i : ℕ). is_done i (picture f)) same ∙ left)

  pub pick-falls : (sub : List ℕ) (from : LocId) → c.task ≡ task.Pick sub from → Falls (floor_fired (firing 16 m 5) f)
  pick-falls sub from q =
      let t : task_of c.task f.places ≡ pick (numbered sub f.places) (loc_of from) = ap (λ (x : ToolTask). task_of x f.places) q in
      let s = sound.valid.commands.picks m (numbered sub f.places) (loc_of from) (command_of c f.places) is_busy t in
      transfer-falls sub from Arm (pick_written f sound m c fetched here sub from q) (picked_not_done (picture f) m (numbered sub f.places) (loc_of from) s)
      (owes.pick-falls planned counted (picture f) sound.valid u fits m (numbered sub f.places) (loc_of from) (command_of c f.places) is_busy t)

  pub place-falls : (sub : List ℕ) (to : LocId) → c.task ≡ task.Place sub to → Falls (floor_fired (firing 16 m 5) f)
  place-falls sub to q =
      let t : task_of c.task f.places ≡ place (numbered sub f.places) (loc_of to) = ap (λ (x : ToolTask). task_of x f.places) q in
      let s = sound.valid.commands.places m (numbered sub f.places) (loc_of to) (command_of c f.places) is_busy t in
      transfer-falls sub Arm to (place_written f sound m c fetched here sub to q) (outside_not_done (picture f) (numbered sub f.places) (ap law.is_outside s.stands))
      (owes.place-falls planned counted (picture f) sound.valid u fits m (numbered sub f.places) (loc_of to) (command_of c f.places) is_busy t)

  -- ---- Done of Align

  aligned-executes : (n : ℕ) (s : Substrate) → substrate_numbered n f.substrates ≡ Some s → Valid (aligned_by_numbers n m (picture f)) → OneLess planned counted (picture f) (aligned_by_numbers n m (picture f))
      → Falls (with_module m (module_behind 6) (record f { substrates = change_numbered n aligned f.substrates }))
  aligned-executes n s found valid less = (
    change-executes number planned counted f e n aligned (λ x. refl) (λ x. refl) (λ x. (refl, refl)) (change_module m (module_behind 6) f.modules) agrees.jobs.is_member (λ k kept is. done k ∙ is) (λ x there route w. w.joins) (λ j x can. can) (agree-undisturbed _ _ agrees counted valid less.0).substrates,
    ap (λ (k : ℕ). k + 1) (agree-owed _ _ agrees planned counted) ∙ less.1,
  ) where
    agrees : Agree (aligned_by_numbers n m (picture f)) (picture (with_module m (module_behind 6) (record f { substrates = change_numbered n aligned f.substrates })))
    agrees = aligning_agrees m (module_behind 6) (Busy c fetched) idle f n s found here refl

    done : (k : ℕ) → is_done k (picture (with_module m (module_behind 6) (record f { substrates = change_numbered n aligned f.substrates }))) ≡ is_done k (picture f)
    done k = ap (λ (p : ℕ). law.is_finished p && not (law.is_outside ((picture f).place_of k))) (says_same n aligned (λ s. refl) 0 (λ (s : Substrate). processing_number s.states.processing) (λ s. refl) k f.substrates)

  pub align-falls : (sub : List ℕ) → c.task ≡ task.Align sub → Falls (floor_fired (firing 16 m 6) f)
  align-falls sub q =
      let t : task_of c.task f.places ≡ align (numbered sub f.places) = ap (λ (x : ToolTask). task_of x f.places) q in
      let s = sound.valid.commands.aligns m (numbered sub f.places) (command_of c f.places) is_busy t in
      let at = named_place f.places sound.base.places sub aligner s.stands in
      let kept = named_kept f sound.base sub at.0 at.1 in
      let its = number_there f.places sub at.0 at.1 in
      let valid : Valid (aligned_by_numbers at.0.number m (picture f)) = subst (λ (n : ℕ). Valid (aligned_by_numbers n m (picture f))) its (done_align-keeps (picture f) m (numbered sub f.places) (command_of c f.places) is_busy t sound.valid) in
      let less : OneLess planned counted (picture f) (aligned_by_numbers at.0.number m (picture f)) = subst (λ (n : ℕ). OneLess planned counted (picture f) (aligned_by_numbers n m (picture f))) its (owes.done_align-falls planned counted (picture f) sound.valid u m (numbered sub f.places) (command_of c f.places) is_busy t) in
      subst (λ (o : Option ToolModule). Falls (with_module m (module_behind 6) (aligned_by (open_task o) f))) (sym here)
      (subst (λ (x : ToolTask). Falls (with_module m (module_behind 6) (aligned_by (Some x) f))) (sym q)
      (subst (λ (o : Option Registered). Falls (with_module m (module_behind 6) (record f { substrates = aligned_numbered (option_map (λ (r : Registered). r.number) o) f.substrates }))) (sym at.1)
      (aligned-executes at.0.number kept.0 kept.1 valid less)))

  -- the one row of a command that is no Process
  pub done_moved-falls : (t : ToolTask) → c.task ≡ t → ((sub recipe : List ℕ) → t ≡ task.Process sub recipe → ⊥)
      → Executes number planned counted (floor_fired (firing 16 m (done_row t)) f) × (owed_to planned counted (picture (floor_fired (firing 16 m (done_row t)) f)) + 1 ≡ owed_to planned counted (picture f))
  done_moved-falls (task.Pick sub from) q other = pick-falls sub from q
  done_moved-falls (task.Place sub to) q other = place-falls sub to q
  done_moved-falls (task.Align sub) q other = align-falls sub q
  done_moved-falls (task.Process sub recipe) q other = absurd (other sub recipe refl)

  -- ---- Done of Process: its first row closes the command

  module _ (sub recipe : List ℕ) (q : c.task ≡ task.Process sub recipe) (n : ℕ) (names : number_named sub f.places ≡ Some n) where
    -- where the substrate goes on, its step is done
    pub stepped-falls : HaveRoutes f → IsRunning f n → goes_on (substrate_numbered n f.substrates) f ≡ true
        → Executes number planned counted (floor_fired (firing 16 m 7) f) × (owed_to planned counted (picture (floor_fired (firing 16 m 7) f)) + 1 ≡ owed_to planned counted (picture f))
    stepped-falls routes r goes = subst Falls (sym (done_steps f m c fetched here sub recipe q n names goes)) (
      change-executes number planned counted f e n stepped (λ x. refl) (λ x. refl) (λ x. (refl, refl)) (change_module m (module_behind 7) f.modules) agrees.jobs.is_member (λ k kept is. done k ∙ is) (λ x there route w. w.joins) (λ j x can. can) (agree-undisturbed _ _ agrees counted valid less.0).substrates,
      ap (λ (k : ℕ). k + 1) (agree-owed _ _ agrees planned counted) ∙ less.1,
    ) where
      t : task_of c.task f.places ≡ process n
      t = process_numbered f c sub recipe q n names

      begun : (picture f).processing n ≡ 1
      begun = ap (of_one 0 (λ (s : Substrate). processing_number s.states.processing)) r.known ∙ ap processing_number r.running

      more : (picture f).steps_of n + 1 < length ((picture f).jobs.route_of n)
      more =
          let j = its_job f n r.one r.known r.member in
          more_is f n r.one r.known j.0 j.1
          (and_parts (not (is_job_so is_aborting (job_of r.one f.jobs))) (nat_lt (r.one.steps + 1) (length (route_for r.one f.jobs))) (sym (ap (λ (o : Option Substrate). goes_on o f) r.known) ∙ goes)).1

      -- its route has six steps at the most
      below : nat_lt r.one.steps most_steps ≡ true
      below =
          let most = routes.few n r.member in
          let steps : (picture f).steps_of n ≡ r.one.steps = ap (of_one 0 (λ (s : Substrate). s.steps)) r.known in
          let less : r.one.steps < 6 = omega (arith, most, more, steps) in
          grind (arith, nat_tests, less)

      agrees : Agree (stepped_by_numbers n m (picture f)) (picture (with_module m (module_behind 7) (record f { substrates = change_numbered n stepped f.substrates })))
      agrees = done_agrees f m c fetched here sub recipe q n names r below

      valid : Valid (stepped_by_numbers n m (picture f))
      valid = stepped-keeps (picture f) m n (command_of c f.places) is_busy t begun more sound.valid

      less : OneLess planned counted (picture f) (stepped_by_numbers n m (picture f))
      less = owes.stepped-falls planned counted (picture f) sound.valid u fits m n (command_of c f.places) is_busy t routes.chambers

      done : (k : ℕ) → is_done k (picture (with_module m (module_behind 7) (record f { substrates = change_numbered n stepped f.substrates }))) ≡ is_done k (picture f)
      done k = ap (λ (p : ℕ). law.is_finished p && not (law.is_outside ((picture f).place_of k))) (says_same n stepped (λ s. refl) 0 (λ (s : Substrate). processing_number s.states.processing) (λ s. refl) k f.substrates)

    -- where it doesn't, no more is done, and as much is owed
    pub closed-executes : goes_on (substrate_numbered n f.substrates) f ≡ false
        → Executes number planned counted (floor_fired (firing 16 m 7) f) × (owed_to planned counted (picture (floor_fired (firing 16 m 7) f)) ≡ owed_to planned counted (picture f))
    closed-executes stays = subst (λ (g : ToolFloor). Executes number planned counted g × (owed_to planned counted (picture g) ≡ owed_to planned counted (picture f))) (sym (done_closes f m c fetched here sub recipe q n names stays)) (
      places-executes number planned counted f e f.places (change_module m (module_behind 7) f.modules) (λ k is. is) (record {
        here = e.substrates.here;
        finished = e.substrates.finished;
        in_slot = e.substrates.in_slot;
        to_chamber = λ k i d x g t. was k i d x (sym (same_equipment k) ∙ g) t;
        not_given = e.substrates.not_given;
      }),
      refl,
    ) where
      same_equipment : (k : ℕ) → (picture (with_module m (module_behind 7) f)).equipment k ≡ (turned m idle (picture f)).equipment k
      same_equipment k = modules_behind m (module_behind 7) (Busy c fetched) idle f here refl k

      was : (k i d : ℕ) (x : Command) → (turned m idle (picture f)).equipment k ≡ busy x → x.task ≡ place i (law.chamber d) → law.is_finished ((picture f).processing i) ≡ false
      was k i d x g t = of (k == m) refl g where
        of : (b : Bool) → (k == m) ≡ b → (if b then idle else (picture f).equipment k) ≡ busy x → law.is_finished ((picture f).processing i) ≡ false
        of true q r = absurd (idle_not_busy x r)
        of false q r = e.substrates.to_chamber k i d x r t

-- ---- its second row, of the substrate

module _ (number : ℕ) (planned : ℕ → List (List ℕ)) (counted : ℕ → Bool) (f : ToolFloor) (e : Executes number planned counted f) (n : ℕ) (sound : Sound f) (unnamed : IsUnnamed n (picture f)) where
  abbrev FallsBehind : ℕ → Type 0
  FallsBehind row =
      Executes number planned counted (floor_fired (firing 13 n row) f) × (owed_to planned counted (picture (floor_fired (firing 13 n row) f)) + 1 ≡ owed_to planned counted (picture f))

  -- row 3 or 4 of table 13 of a substrate that is in a job, with no open command any more, in a chamber of the last step of its route
  pub processed-falls : (row d : ℕ) → is_one_of (3 ∷ 4 ∷ []) row ≡ true → floor_starts (firing 13 n row) f ≡ true → (picture f).place_of n ≡ Some (law.chamber d) → is_one_of (next_step n (picture f)) d ≡ true
      → (picture f).steps_of n + 1 ≡ length ((picture f).jobs.route_of n) → (picture f).jobs.is_member n ≡ true
      → Executes number planned counted (floor_fired (firing 13 n row) f) × (owed_to planned counted (picture (floor_fired (firing 13 n row) f)) + 1 ≡ owed_to planned counted (picture f))
  processed-falls row d one starts at due last member =
      one_of_cases (λ (r : ℕ). floor_starts (firing 13 n r) f ≡ true → FallsBehind r) (3 ∷ 4 ∷ []) row
      ((λ s. row_3 (substrate_numbered n f.substrates) refl s), ((λ s. row_4 (substrate_numbered n f.substrates) refl s), tt)) one starts
    where
      running : (s : Substrate) → substrate_numbered n f.substrates ≡ Some s → s.states.processing ≡ processing.InProcess → law.is_finished ((picture f).processing n) ≡ false
      running s found is = ap (λ (o : Option Substrate). law.is_finished (of_one 0 (λ (x : Substrate). processing_number x.states.processing) o)) found ∙ ap (λ (p : Processing). law.is_finished (processing_number p)) is

      -- one less is owed where it is finished
      less : (state : ℕ) → law.is_finished ((picture f).processing n) ≡ false → law.is_finished state ≡ true → OneLess planned counted (picture f) (worked n state (picture f))
      less state unfinished ends =
          let same = are_planned number planned counted f sound.base e n member unfinished in
          owes.finished-falls planned counted (picture f) n d state unnamed sound.valid (undisturbed number planned counted f (on_base f sound.base) e) at unfinished
          (ap (λ (route : List (List ℕ)). is_one_of (step_at ((picture f).steps_of n) route) d) (sym same) ∙ due)
          (ap (λ (route : List (List ℕ)). length route) (sym same) ∙ sym last) ends

      behind_row : (r : ℕ) (s : Substrate) → substrate_numbered n f.substrates ≡ Some s → s.states.processing ≡ processing.InProcess → law.is_finished (state_behind r s) ≡ true
          → Executes number planned counted (with_moved 13 r n f) × (owed_to planned counted (picture (with_moved 13 r n f)) + 1 ≡ owed_to planned counted (picture f))
      behind_row r s found is ends =
          let unfinished = running s found is in
          let falls = less (state_behind r s) unfinished ends in
          let valid = finished-keeps (picture f) n (state_behind r s) ends unnamed sound.valid in (
            worked-executes number planned counted f sound.base e n r s found (λ q. ends) member unfinished valid falls.0,
            ap (λ (k : ℕ). k + 1) (worked_owed number planned counted f sound.base e n r s found (λ q. ends) member unfinished valid falls.0) ∙ falls.1,
          )

      row_3 : (o : Option Substrate) → substrate_numbered n f.substrates ≡ o → substrate_starts processing_number processing_table (λ s. s.processing) 3 o f ≡ true → FallsBehind 3
      row_3 None q s = absurd (cc)
      row_3 (Some x) q s =
          let is = is_running x.states.processing (and_parts (is_among processing_number (processing.InProcess ∷ []) x.states.processing) true s).0 in
          behind_row 3 x q is (ap (λ (p : Processing). law.is_finished (processing_number (after processing_number processing_table 3 p))) is)

      row_4 : (o : Option Substrate) → substrate_numbered n f.substrates ≡ o → substrate_starts processing_number processing_table (λ s. s.processing) 4 o f ≡ true → FallsBehind 4
      row_4 None q s = absurd (cc)
      row_4 (Some x) q s =
          let is = is_running x.states.processing (and_parts (is_among processing_number (processing.InProcess ∷ []) x.states.processing) true s).0 in
          behind_row 4 x q is (ap (λ (p : Processing). law.is_finished (processing_number (after processing_number processing_table 4 p))) is)
