-- Done of a Process, and behind a Process that ended the row of its substrate; and a command that is fetched, which stays open.
use Rattle.std.proofs.Common.{◌≡◌, ◌<◌, ℕ, ◌+◌, ◌==◌, nat_lt, Bool, true, false, not, if◌then◌else◌, List, [], ◌∷◌, length, Option, Some, None, option_map, refl, sym, ◌∙◌, ap, subst}
use Rattle.std.proofs.lemmas.Bool.{and_parts}
use Rattle.std.proofs.lemmas.Bool.Decides.{Decides-eqb}
use Rattle.gem_tables.specs.Table.{firing, after, is_one_of, is_among}
use Rattle.gem_tables.proofs.Rows.{one_of_cases}
use Rattle.tool_tasks.specs.Routes.{most_steps}
use Rattle.tool_tasks.specs.declared.task.Command.{Command as ToolCommand}
use Rattle.tool_tasks.specs.declared.task.Task.{Task as ToolTask}
use Rattle.tool_tasks.specs.declared.task.Task.TheVariants as task
use Rattle.robot_moves.specs.declared.module.Module.{Module as ToolModule}
use Rattle.robot_moves.specs.declared.module.Module.TheVariants.{Idle, Busy, Down}
use Rattle.robot_moves.specs.Modules.{module_at, change_module, taken}
use Rattle.substrate.specs.Tables.{processing_number, processing_table}
use Rattle.substrate.specs.declared.record.Processing.{Processing}
use Rattle.substrate.specs.declared.record.Processing.TheVariants as processing
use Rattle.floor_model.specs.declared.tracked.Substrate.{Substrate}
use Rattle.floor_model.specs.Floor.{ToolFloor, with_module, fetched, substrate_numbered, change_numbered}
use Rattle.floor_model.specs.Machines.{substrate_starts, substrate_moves, with_moved, floor_starts, floor_fired}
use Rattle.floor_model.specs.Modules.{number_named, module_behind, open_task, stepped, stepped_numbered, stepped_by}
use Rattle.floor_model.specs.Jobs.{job_of, is_job_so, is_aborting}
use Rattle.floor_model.specs.Views.{route_for, goes_on}
use Rattle.floor_moves.specs.Floor.{idle, is_finished}
use Rattle.floor_moves.specs.Effects.{stepped as stepped_by_numbers}
use Rattle.floor_moves.specs.Valid.{IsUnnamed}
use Rattle.floor_moves.specs.Agree.{Agree}
use Rattle.floor_moves.proofs.Agreeing.{alike_same, agree-keeps}
use Rattle.floor_moves.proofs.Done.{stepped-keeps, finished-keeps}
use Rattle.floor_moves.proofs.Moving.{idle_not_busy}
use Rattle.place_laws.specs.Picture.{picture, module_of, of_one}
use Rattle.place_laws.specs.Sound.{Sound}
use Rattle.place_laws.proofs.Routes.{its_job, more_is}
use Rattle.picture_laws.proofs.Closing.{stepping_agrees}
use Rattle.picture_laws.proofs.Issuing.{changed_there, changed_else}
use Rattle.picture_laws.proofs.Rows.{processing_agrees}
use Rattle.floor_laws.proofs.EndAnswers.{turned_sound, process_unnamed}
use Rattle.floor_laws.proofs.EndBase.{Leaves, changed_base}
use Rattle.floor_laws.proofs.EndOpen.{command_of, busy_at}
use Rattle.floor_laws.proofs.EndPlaces.{module_base}
use Rattle.floor_laws.proofs.EndRows.{moves_leaves}
use Rattle.floor_laws.proofs.EndRunning.{IsRunning, process_numbered}

-- ---- row 7 of table 16

-- a change that leaves the substrate of a number as it is leaves all as they are
unchanged : (n : ℕ) (change : Substrate → Substrate) (ss : List Substrate) (s : Substrate) → substrate_numbered n ss ≡ Some s → change s ≡ s → change_numbered n change ss ≡ ss
unchanged n change [] s e same = refl
unchanged n change (x ∷ xs) s e same = of (x.number == n) e (unchanged n change xs s) where
  of : (b : Bool) → (if b then Some x else substrate_numbered n xs) ≡ Some s → (substrate_numbered n xs ≡ Some s → change s ≡ s → change_numbered n change xs ≡ xs) → (if b then change x ∷ xs else x ∷ change_numbered n change xs) ≡ x ∷ xs
  of true e rest = let it : x ≡ s = cc in ap (λ (y : Substrate). y ∷ xs) (subst (λ (y : Substrate). change y ≡ y) (sym it) same)
  of false e rest = ap (λ (ys : List Substrate). x ∷ ys) (rest e same)

-- a substrate of which as many steps are done as a route has stays as it is
at_most : (s : Substrate) → nat_lt s.steps most_steps ≡ false → stepped s ≡ s
at_most s e = ap (λ (b : Bool). record s { steps = if b then s.steps + 1 else s.steps }) e

-- a substrate of which a step is done is of what it was of
pub stepped_leaves : Leaves stepped
stepped_leaves = record { number = λ s. refl; sub = λ s. refl; carrier = λ s. refl; slot = λ s. refl; job = λ s. refl }

module _ (f : ToolFloor) (m : ℕ) (c : ToolCommand) (fetched : Bool) (here : module_at m f.modules ≡ Some (Busy c fetched)) where
  -- the floor behind it, with these substrates
  abbrev pub behind_done : List Substrate → ToolFloor
  behind_done ss = with_module m (module_behind 7) (record f { substrates = ss })

  -- what it does to substrates leaves the modules and the places as they are
  stepped_unnamed : (n : ℕ) (o : Option ToolTask) → IsUnnamed n (picture (with_module m (module_behind 7) f)) → IsUnnamed n (picture (with_module m (module_behind 7) (stepped_by o f)))
  stepped_unnamed n None unnamed = unnamed
  stepped_unnamed n (Some (task.Pick sub from)) unnamed = unnamed
  stepped_unnamed n (Some (task.Place sub to)) unnamed = unnamed
  stepped_unnamed n (Some (task.Align sub)) unnamed = unnamed
  stepped_unnamed n (Some (task.Process sub recipe)) unnamed = unnamed

  -- no open command names the substrate then
  pub done_unnamed : Sound f → (sub recipe : List ℕ) → c.task ≡ task.Process sub recipe → (n : ℕ) × (number_named sub f.places ≡ Some n) × IsUnnamed n (picture (floor_fired (firing 16 m 7) f))
  done_unnamed sound sub recipe q =
      let w = process_unnamed f sound m 7 c fetched here idle idle_not_busy refl sub recipe q in
      (w.0, w.1, stepped_unnamed w.0 (open_task (module_at m f.modules)) w.2)

  module _ (sub recipe : List ℕ) (q : c.task ≡ task.Process sub recipe) (n : ℕ) (names : number_named sub f.places ≡ Some n) where
    -- what it does
    done_fires : floor_fired (firing 16 m 7) f ≡ behind_done (stepped_numbered (Some n) f)
    done_fires =
        ap (λ (o : Option ToolModule). with_module m (module_behind 7) (stepped_by (open_task o) f)) here
        ∙ ap (λ (u : ToolTask). with_module m (module_behind 7) (stepped_by (Some u) f)) q
        ∙ ap (λ (o : Option ℕ). behind_done (stepped_numbered o f)) names

    -- the command is closed, and where the substrate goes on its step is done
    pub done_closes : goes_on (substrate_numbered n f.substrates) f ≡ false → floor_fired (firing 16 m 7) f ≡ with_module m (module_behind 7) f
    done_closes e = done_fires ∙ ap (λ (b : Bool). behind_done (if b then change_numbered n stepped f.substrates else f.substrates)) e

    pub done_steps : goes_on (substrate_numbered n f.substrates) f ≡ true → floor_fired (firing 16 m 7) f ≡ behind_done (change_numbered n stepped f.substrates)
    done_steps e = done_fires ∙ ap (λ (b : Bool). behind_done (if b then change_numbered n stepped f.substrates else f.substrates)) e

    -- by numbers too, where its route may have that many steps
    pub done_agrees : (r : IsRunning f n) → nat_lt r.one.steps most_steps ≡ true → Agree (stepped_by_numbers n m (picture f)) (picture (behind_done (change_numbered n stepped f.substrates)))
    done_agrees r less = stepping_agrees m (module_behind 7) (Busy c fetched) idle f n r.one r.known less here refl

    -- where its substrate is IN PROCESS all that holds is kept
    pub process_sound : Sound f → IsRunning f n → Sound (floor_fired (firing 16 m 7) f)
    process_sound sound r = by (goes_on (substrate_numbered n f.substrates) f) refl where
      closed : Sound (with_module m (module_behind 7) f)
      closed = turned_sound f sound m 7 (Busy c fetched) here idle idle_not_busy refl

      begun : (picture f).processing n ≡ 1
      begun = ap (of_one 0 (λ (x : Substrate). processing_number x.states.processing)) r.known ∙ ap processing_number r.running

      more : goes_on (substrate_numbered n f.substrates) f ≡ true → (picture f).steps_of n + 1 < length ((picture f).jobs.route_of n)
      more e =
          let aborts = is_job_so is_aborting (job_of r.one f.jobs) in
          let further = nat_lt (r.one.steps + 1) (length (route_for r.one f.jobs)) in
          let j = its_job f n r.one r.known r.member in
          more_is f n r.one r.known j.0 j.1 (and_parts (not aborts) further (sym (ap (λ (o : Option Substrate). goes_on o f) r.known) ∙ e)).1

      goes : goes_on (substrate_numbered n f.substrates) f ≡ true → (b : Bool) → nat_lt r.one.steps most_steps ≡ b → Sound (behind_done (change_numbered n stepped f.substrates))
      goes e false most = subst (λ (ss : List Substrate). Sound (behind_done ss)) (sym (unchanged n stepped f.substrates r.one r.known (at_most r.one most))) closed
      goes e true less = record {
        base = module_base m (module_behind 7) (record f { substrates = change_numbered n stepped f.substrates }) (changed_base n stepped stepped_leaves f sound.base);
        ports = sound.ports;
        unloading = sound.unloading;
        valid = agree-keeps _ _ (done_agrees r less)
            (stepped-keeps (picture f) m n (command_of c f.places) (busy_at f m c fetched here) (process_numbered f c sub recipe q n names) begun (more e) sound.valid);
      }

      by : (b : Bool) → goes_on (substrate_numbered n f.substrates) f ≡ b → Sound (floor_fired (firing 16 m 7) f)
      by true e = subst Sound (sym (done_steps e)) (goes e (nat_lt r.one.steps most_steps) refl)
      by false e = subst Sound (sym (done_closes e)) closed

-- ---- rows 3 and 4 of table 13

-- they start IN PROCESS
pub is_running : (p : Processing) → is_among processing_number (processing.InProcess ∷ []) p ≡ true → p ≡ processing.InProcess
is_running processing.InProcess e = refl
is_running _ e = absurd (cc)

-- a row that finishes one that no open command names
finish : (f : ToolFloor) (n row : ℕ) (s : Substrate) → substrate_numbered n f.substrates ≡ Some s → is_finished (processing_number (after processing_number processing_table row s.states.processing)) ≡ true → IsUnnamed n (picture f) → Sound f → Sound (with_moved 13 row n f)
finish f n row s known finished unnamed sound = record {
  base = changed_base n (substrate_moves 13 row) (moves_leaves 13 row) f sound.base;
  ports = sound.ports;
  unloading = sound.unloading;
  valid = agree-keeps _ _ (processing_agrees f n row s known (λ is. finished)) (finished-keeps (picture f) n _ finished unnamed sound.valid);
}

-- so do these, where they start
pub finish_sound : (f : ToolFloor) (n row : ℕ) → is_one_of (3 ∷ 4 ∷ []) row ≡ true → floor_starts (firing 13 n row) f ≡ true → IsUnnamed n (picture f) → Sound f → Sound (floor_fired (firing 13 n row) f)
finish_sound f n row one starts unnamed sound =
    one_of_cases (λ (r : ℕ). floor_starts (firing 13 n r) f ≡ true → Sound (floor_fired (firing 13 n r) f)) (3 ∷ 4 ∷ []) row
    ((λ s. at 3 three (substrate_numbered n f.substrates) refl s), ((λ s. at 4 four (substrate_numbered n f.substrates) refl s), tt)) one starts
  where
    at : (r : ℕ) → ((s : Substrate) → substrate_starts processing_number processing_table (λ s. s.processing) r (Some s) f ≡ true → is_finished (processing_number (after processing_number processing_table r s.states.processing)) ≡ true)
        → (o : Option Substrate) → substrate_numbered n f.substrates ≡ o → substrate_starts processing_number processing_table (λ s. s.processing) r o f ≡ true → Sound (with_moved 13 r n f)
    at r ends None q e = absurd (cc)
    at r ends (Some s) q e = finish f n r s q (ends s e) unnamed sound

    three : (s : Substrate) → substrate_starts processing_number processing_table (λ s. s.processing) 3 (Some s) f ≡ true → is_finished (processing_number (after processing_number processing_table 3 s.states.processing)) ≡ true
    three s e = ap (λ (p : Processing). is_finished (processing_number (after processing_number processing_table 3 p))) (is_running s.states.processing (and_parts (is_among processing_number (processing.InProcess ∷ []) s.states.processing) true e).0)

    four : (s : Substrate) → substrate_starts processing_number processing_table (λ s. s.processing) 4 (Some s) f ≡ true → is_finished (processing_number (after processing_number processing_table 4 s.states.processing)) ≡ true
    four s e = ap (λ (p : Processing). is_finished (processing_number (after processing_number processing_table 4 p))) (is_running s.states.processing (and_parts (is_among processing_number (processing.InProcess ∷ []) s.states.processing) true e).0)

-- ---- a command is fetched

module _ (number : ℕ) (f : ToolFloor) where
  -- a module is by numbers what it was
  same_taken : (o : Option ToolModule) → module_of (option_map taken o) f.places ≡ module_of o f.places
  same_taken None = refl
  same_taken (Some Idle) = refl
  same_taken (Some (Busy c x)) = refl
  same_taken (Some Down) = refl

  -- so is that of each number
  same_module : (k : ℕ) → module_of (module_at k (change_module number taken f.modules)) f.places ≡ module_of (module_at k f.modules) f.places
  same_module k = by (k == number) refl where
    by : (b : Bool) → (k == number) ≡ b → module_of (module_at k (change_module number taken f.modules)) f.places ≡ module_of (module_at k f.modules) f.places
    by true e =
        let same : number ≡ k = sym ((Decides-eqb k number).0 e) in
        subst (λ (i : ℕ). module_of (module_at i (change_module number taken f.modules)) f.places ≡ module_of (module_at i f.modules) f.places) same
        (ap (λ (o : Option ToolModule). module_of o f.places) (changed_there number taken f.modules) ∙ same_taken (module_at number f.modules))
    by false e = ap (λ (o : Option ToolModule). module_of o f.places) (changed_else number k (λ is. let t = (Decides-eqb k number).1 is in cc) taken f.modules)

  -- the floor by numbers says the same
  fetched_agrees : Agree (picture f) (picture (fetched number f))
  fetched_agrees = record {
    substrates = refl;
    next_substrate = refl;
    carrier_of = λ k _. refl;
    port_of = λ k _. refl;
    slot_of = λ k _. refl;
    place_of = λ k. refl;
    processing = λ k _. refl;
    is_aligned = λ k _. refl;
    steps_of = λ k _ _. refl;
    carriers = refl;
    present_at = λ c. refl;
    is_verified = λ c _. refl;
    access = λ c _. refl;
    jobs = alike_same _ _;
    chambers = refl;
    equipment = same_module;
    next_command = refl;
  }

  -- all that holds is kept
  pub fetched_sound : Sound f → Sound (fetched number f)
  fetched_sound s = record { base = module_base number taken f s.base; ports = s.ports; unloading = s.unloading; valid = agree-keeps _ _ fetched_agrees s.valid }
