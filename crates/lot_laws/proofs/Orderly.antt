-- What holds of the floor at every moment holds as it begins, and is kept by each row and by what the host and the equipment do.
use Rattle.std.proofs.Common.{◌≡◌, ◌≤◌, ℕ, ◌+◌, ◌==◌, Bool, true, false, if◌then◌else◌, not, ◌&&◌, ◌||◌, List, [], ◌∷◌, ◌++◌, find, filter, map, Option, Some, None, option_map, refl, sym, ◌∙◌, ap, subst}
use Rattle.std.proofs.lemmas.Bool.{true≢false, and_parts, not-true, not-false}
use Rattle.std.proofs.lemmas.Bool.Decides.{Decides-eqb}
use Rattle.gem_tables.specs.Table.{firing, is_one_of, is_among, row_of}
use Rattle.gem_tables.specs.declared.firing.Firing.{Firing}
use Rattle.gem_tables.proofs.Rows.{ready_row, one_of_cases, found_row}
use Rattle.floor_model.proofs.EachTable.{starts_cases, least_cases}
use Rattle.gem_ids.specs.declared.numbers.LocId.{LocId}
use Rattle.tool_tasks.specs.declared.recipes.Recipe.{Recipe}
use Rattle.tool_tasks.specs.declared.task.Command.{Command as ToolCommand}
use Rattle.tool_tasks.specs.declared.task.Task.{Task as ToolTask}
use Rattle.tool_tasks.specs.declared.task.Task.TheVariants as task
use Rattle.load_port.specs.Ports.{most_ports, port_numbered}
use Rattle.load_port.specs.Caack.{is_done_code}
use Rattle.load_port.specs.Tables.{association_number, association_table}
use Rattle.carrier.specs.declared.action.CarrierAction.{CarrierAction}
use Rattle.carrier.specs.declared.carrier.Carrier.{Carrier}
use Rattle.carrier.specs.Carriers.{carrier_numbered}
use Rattle.shop_floor.specs.Floor.{arrival_of}
use Rattle.shop_floor.specs.Owning.{owner_number}
use Rattle.shop_floor.specs.Rows.{owner}
use Rattle.shop_floor.specs.Requests.{came, carrier_code, carrier_written}
use Rattle.shop_floor.specs.Machines as shop
use Rattle.shop_floor.proofs.Cases.{ready_at_port}
use Rattle.substrate.specs.Tables.{SubstrateRow, processing_number, processing_table}
use Rattle.substrate.specs.declared.record.Processing.{Processing}
use Rattle.substrate.specs.declared.registered.Registered.{Registered}
use Rattle.robot_moves.specs.declared.module.Module.{Module}
use Rattle.robot_moves.specs.declared.module.Module.TheVariants.{Idle, Busy, Down}
use Rattle.robot_moves.specs.declared.view.Move.{Move}
use Rattle.robot_moves.specs.Tables.{move_table, state_number}
use Rattle.robot_moves.specs.Modules.{module_at, state_of, is_open, is_up}
use Rattle.process_job.specs.Tables as effect
use Rattle.process_job.specs.Tables.{JobRow, JobEffect, job_table}
use Rattle.process_job.specs.Jobs.{job_numbered, created, fired as process_state}
use Rattle.process_job.specs.Creating.{create_fault}
use Rattle.process_job.specs.declared.job.JobSpec.{JobSpec}
use Rattle.process_job.specs.declared.job.ProcessJob.{ProcessJob}
use Rattle.control_job.specs.Jobs.{job_numbered as control_numbered, is_any_active, first_waiting, headed}
use Rattle.control_job.specs.Tables.{states_number, not_ending}
use Rattle.control_job.specs.declared.record.ControlState.TheVariants.{Queued}
use Rattle.control_job.specs.declared.job.ControlJob.{ControlJob}
use Rattle.tool_jobs.specs.Jobs.{Jobs}
use Rattle.tool_jobs.specs.Rows.{process_starts, process_does, found_does, process_fired, control_starts, control_fired}
use Rattle.tool_jobs.specs.Wants.{is_that}
use Rattle.tool_jobs.specs.Creating.{with_process, with_control, control_fault}
use Rattle.tool_jobs.specs.Together.{AreTogether}
use Rattle.tool_jobs.proofs.Together.{together_none, together_fired, together_ended, together_row, together_created, together_added, together_headed}
use Rattle.floor_model.specs.declared.tracked.Substrate.{Substrate}
use Rattle.floor_model.specs.Floor.{ToolFloor, opening, with_shop, with_jobs, with_module, fetched, substrate_numbered, change_numbered, number_of}
use Rattle.floor_model.specs.Jobs.{found_sight, is_first_here, joined, freed, job_does, found_job_does, is_any_of_carrier}
use Rattle.floor_model.specs.Modules.{move_wants, move_ready, module_behind, issued, open_task, aligned, aligned_numbered, aligned_by, stepped, stepped_numbered, stepped_by, number_named}
use Rattle.floor_model.specs.Signals.{at_module, done_row, at_processed, processed_rows, done_processing, at_done, done_processed, done_at, done_rows, closing_at, closing_rows, can_be_lost, lost_at, lost_rows}
use Rattle.floor_model.specs.Substrates.{is_of, reaches_verified, registers_found, removed_of, without_carrier, removed_where, substrate_does}
use Rattle.floor_model.specs.Substrates as substrates
use Rattle.floor_model.specs.Views.{goes_on, planned}
use Rattle.floor_model.specs.Wants.{substrate_wants}
use Rattle.floor_model.specs.Machines.{substrate_ready, substrate_moves, with_moved, floor_starts, floor_fired, floor_least}
use Rattle.floor_model.proofs.Keeping.{least_starts}
use Rattle.floor_moves.specs.Floor.{Loc, slot, arm, aligner, is_finished, align}
use Rattle.floor_moves.specs.Valid.{IsDistinct, PlaceStands}
use Rattle.place_laws.specs.Picture.{picture, loc_of, place_in, numbered, number_or_none, task_of, of_one}
use Rattle.place_laws.specs.Sound.{Base, Sound}
use Rattle.place_laws.proofs.Holding.{found_among, rising_distinct}
use Rattle.place_laws.proofs.Stays.{NonePresent}
use Rattle.picture_laws.proofs.Columns.{found_else}
use Rattle.floor_laws.specs.Rows.{is_common, one_listed, listed}
use Rattle.floor_laws.proofs.EndProcess.{fetched_sound}
use Rattle.floor_laws.proofs.EndOpen.{command_of, busy_at}
use Rattle.floor_laws.proofs.FloorInputs.{listed_either, listed_starts, done_starts, failed_starts, down_starts, done_one, done_sound, failed_sound, down_sound, lost_rows_sound}
use Rattle.floor_laws.proofs.FloorRemoved.{removed_sound}
use Rattle.floor_laws.proofs.FloorRows.{row_sound, least_sound, opening_sound}
use Rattle.floor_laws.proofs.GrowTransfer.{Transfers, pick_places, place_places}
use Rattle.floor_laws.proofs.JobCreated.{created_sound, control_changes_sound}
use Rattle.floor_laws.proofs.JobEnds.{freed_alone}
use Rattle.floor_laws.proofs.JobJoins.{joined_alone}
use Rattle.floor_laws.proofs.JobSight.{none_some, some_same}
use Rattle.floor_laws.proofs.RemLists.{held_distinct}
use Rattle.floor_laws.proofs.RemPlaces.{stays, removed_held}
use Rattle.floor_laws.proofs.RemSound.{vacated_kept, removal_left_sound}
use Rattle.floor_laws.proofs.ShopHost.{written_sound, unbinding_sound, placing_sound}
use Rattle.floor_laws.proofs.ShopTables.{cancel_sound}
use Rattle.queue_laws.proofs.Starting.{none-started, process-started, control-started, created-started, added-started, headed-started}
use Rattle.lot_laws.specs.Lot.{InOrder}
use Rattle.lot_laws.proofs.InJobs.{changed-in_jobs, process-in_jobs}
use Rattle.lot_laws.proofs.Ordered.{UnalignedIn, Ordered, OrderedAt, to_ordered, in_order, transport_mild, stepped_mild, processing_mild, changed-ordered, mapped-unaligned, registers-ordered}
use Rattle.floor_laws.proofs.EndLost.{lost_places}

-- ---- the rows of jobs

-- the jobs behind a row of table 14 are together
process-together : (row n : ℕ) (w : Jobs) → AreTogether w → AreTogether (process_fired row n w)
process-together row n w t = of (row_of job_table row) where
  by : (does : JobEffect) → AreTogether (process_does does n (record w { process = process_state n row w.process }))
  by effect.no_more = together_fired n row w t
  by effect.makes_members = together_fired n row w t
  by effect.ends = together_ended n (record w { process = process_state n row w.process }) (together_fired n row w t)
  by effect.ends_stopped = together_ended n (record w { process = process_state n row w.process }) (together_fired n row w t)

  of : (o : Option JobRow) → AreTogether (found_does o n (record w { process = process_state n row w.process }))
  of None = together_fired n row w t
  of (Some r) = by r.does

-- and those behind a row of table 15 that starts
control-together : (row n : ℕ) (here : Bool) (w : Jobs) → control_starts row (control_numbered n w.control.jobs) here w ≡ true → AreTogether w → AreTogether (control_fired row n w)
control-together row n here w starts t = together_row row n w (λ two. none (control_numbered n w.control.jobs) (subst (λ (r : ℕ). control_starts r (control_numbered n w.control.jobs) here w ≡ true) two starts)) t where
  none : (o : Option ControlJob) → control_starts 2 o here w ≡ true → is_any_active w.control.jobs ≡ false
  none None e = absurd (true≢false (sym e))
  none (Some c) e =
      let wants = and_parts (is_among states_number (not_ending Queued ∷ []) c.states) (is_that c.number (first_waiting w.control) && not (is_any_active w.control.jobs)) e in
      not-true (is_any_active w.control.jobs) (and_parts (is_that c.number (first_waiting w.control)) (not (is_any_active w.control.jobs)) wants.1).1

-- what a row of table 14 does to substrates
job-unaligned : (f : ToolFloor) → UnalignedIn f.places f.substrates → (r : Option JobRow) (o : Option ProcessJob) → UnalignedIn (found_job_does r o f).places (found_job_does r o f).substrates
job-unaligned f u None o = u
job-unaligned f u (Some r) o = by r.does o where
  by : (does : JobEffect) (j : Option ProcessJob) → UnalignedIn (job_does does j f).places (job_does does j f).substrates
  by effect.no_more j = u
  by effect.makes_members None = u
  by effect.makes_members (Some j) = mapped-unaligned (joined j f.shop) (joined_alone f j) f.places f.substrates u
  by effect.ends None = u
  by effect.ends (Some j) = mapped-unaligned (freed j.number) (freed_alone j.number) f.places f.substrates u
  by effect.ends_stopped None = u
  by effect.ends_stopped (Some j) = mapped-unaligned (freed j.number) (freed_alone j.number) f.places f.substrates u

-- ---- rows of a substrate and of a module

-- table 13, but for row 8
pub processing-ordered : (f : ToolFloor) → OrderedAt f → (n row : ℕ) → (row == 8) ≡ false → OrderedAt (floor_fired (firing 13 n row) f)
processing-ordered f o n row other = of (row_of processing_table row) refl where
  same : OrderedAt (with_moved 13 row n f)
  same = changed-ordered (substrate_moves 13 row) (processing_mild row) n f o

  of : (r : Option (SubstrateRow Processing)) → row_of processing_table row ≡ r → OrderedAt (with_moved 13 row n (substrates.found_does r (substrate_numbered n f.substrates) f))
  of None is = same
  of (Some r) is =
      let here = found_row (λ (x : SubstrateRow Processing). (x.number == 8) ≡ false → OrderedAt (with_moved 13 row n (substrate_does x.does (substrate_numbered n f.substrates) f))) processing_table row r
      ((λ k. same), ((λ k. same), ((λ k. same), ((λ k. same), ((λ k. same), ((λ k. same), ((λ k. same), ((λ k. absurd (true≢false k)), tt)))))))) is in
      here.0 (ap (λ (i : ℕ). i == 8) here.1 ∙ other)

-- rows 1 to 4 and 10 of table 16
pub module-ordered : (f : ToolFloor) → OrderedAt f → (m row : ℕ) → is_one_of (1 ∷ 2 ∷ 3 ∷ 4 ∷ 10 ∷ []) row ≡ true → OrderedAt (floor_fired (firing 16 m row) f)
module-ordered f o m row one =
    one_of_cases (λ (r : ℕ). OrderedAt (floor_fired (firing 16 m r) f)) (1 ∷ 2 ∷ 3 ∷ 4 ∷ 10 ∷ []) row
    (gives (planned m f), (gives (planned m f), (gives (planned m f), (gives (planned m f), (o, tt))))) one
  where
    gives : (plan : Option Move) → OrderedAt (issued m plan f)
    gives None = o
    gives (Some move) = o

-- ---- each row that leaves places and registers nothing but where a map is VERIFIED

-- not row 6 of table 7, 8 of table 13 and 5 to 9 of table 16
abbrev pub is_mild_row : Firing → Bool
is_mild_row x =
    not ((x.row.table == 7) && (x.row.row == 6) || ((x.row.table == 13) && (x.row.row == 8) || (x.row.table == 16) && not (is_one_of (1 ∷ 2 ∷ 3 ∷ 4 ∷ 10 ∷ []) x.row.row)))

-- no row is said to be one that it isn't
not_itself : {P : Type 0} → false ≡ true → P
not_itself e = absurd (true≢false (sym e))

not_or : (b : Bool) → not (b || false) ≡ true → b ≡ false
not_or true e = sym e
not_or false e = refl

module _ (f : ToolFloor) (sound : Sound f) (o : OrderedAt f) where
  association : (port row : ℕ) → (row == 6) ≡ false → OrderedAt (floor_fired (firing 7 port row) f)
  association port row other = of (row == 6) other where
    of : (b : Bool) → b ≡ false → OrderedAt (with_shop (shop.floor_fired (firing 7 port row) f.shop) (if b then without_carrier (owner_number port f.shop) f else f))
    of true e = absurd (true≢false e)
    of false e = o

  slots : (carrier row : ℕ) → OrderedAt (floor_fired (firing 9 carrier row) f)
  slots carrier row = of (reaches_verified row) where
    of : (b : Bool) → OrderedAt (with_shop (shop.floor_fired (firing 9 carrier row) f.shop) (if b then registers_found (carrier_numbered carrier f.shop.carriers) f else f))
    of true = registers-ordered (carrier_numbered carrier f.shop.carriers) f o sound.base.rising
    of false = o

  process : (n row : ℕ) → floor_starts (firing 14 n row) f ≡ true → OrderedAt (floor_fired (firing 14 n row) f)
  process n row starts = of (job_numbered n f.jobs.process.kept) refl where
    of : (j : Option ProcessJob) → job_numbered n f.jobs.process.kept ≡ j → OrderedAt (floor_fired (firing 14 n row) f)
    of None known = not_itself (sym (ap (λ (j : Option ProcessJob). process_starts row j (found_sight (job_numbered n f.jobs.process.kept) f) f.jobs) known) ∙ starts)
    of (Some j) known = record {
      together = process-together row n f.jobs o.together;
      started = process-started f.jobs o.together o.started row n (found_sight (job_numbered n f.jobs.process.kept) f) starts;
      unaligned = job-unaligned f o.unaligned (row_of job_table row) (job_numbered n f.jobs.process.kept);
      in_jobs = process-in_jobs f o.in_jobs sound n row j known;
    }

  control : (n row : ℕ) → floor_starts (firing 15 n row) f ≡ true → OrderedAt (floor_fired (firing 15 n row) f)
  control n row starts = record {
    together = control-together row n (is_first_here n f) f.jobs starts o.together;
    started = control-started f.jobs o.together o.started row n (is_first_here n f) starts;
    unaligned = o.unaligned;
    in_jobs = o.in_jobs;
  }

  pub row-ordered : (x : Firing) → floor_starts x f ≡ true → is_mild_row x ≡ true → OrderedAt (floor_fired x f)
  row-ordered x starts mild =
      starts_cases (λ (y : Firing). is_mild_row y ≡ true → OrderedAt (floor_fired y f)) f x (record {
        transfer = λ s k. o;
        access = λ s k. o;
        reservation = λ s k. o;
        association = λ s k. association x.object x.row.row (not_or (x.row.row == 6) k);
        id = λ s k. o;
        map = λ s k. slots x.object x.row.row;
        accessing = λ s k. o;
        location = λ s k. o;
        transport = λ s k. changed-ordered (substrate_moves 12 x.row.row) (transport_mild x.row.row) x.object f o;
        processing = λ s k. processing-ordered f o x.object x.row.row (not_or (x.row.row == 8) k);
        process_job = λ s k. process x.object x.row.row s;
        control_job = λ s k. control x.object x.row.row s;
        move = λ s k. module-ordered f o x.object x.row.row (not-false _ (not-true _ k));
      }) starts mild

  -- the rows that inputs fire alone are so
  not_six : (row : ℕ) → not (is_one_of (2 ∷ 6 ∷ []) row) ≡ true → not ((row == 6) || false) ≡ true
  not_six row k = of (row == 6) refl where
    of : (b : Bool) → (row == 6) ≡ b → not (b || false) ≡ true
    of true e = absurd (true≢false (sym k ∙ ap (λ (r : ℕ). not (is_one_of (2 ∷ 6 ∷ []) r)) ((Decides-eqb row 6).0 e)))
    of false e = refl

  or_none : (b : Bool) → (b || false) ≡ true → b ≡ true
  or_none true e = refl
  or_none false e = e

  common_mild : (x : Firing) → floor_starts x f ≡ true → is_common x ≡ true → is_mild_row x ≡ true
  common_mild x starts common =
      starts_cases (λ (y : Firing). is_common y ≡ true → is_mild_row y ≡ true) f x (record {
        transfer = λ s k. refl;
        access = λ s k. refl;
        reservation = λ s k. refl;
        association = λ s k. not_six x.row.row (and_parts (not (is_one_of (2 ∷ 6 ∷ []) x.row.row)) true k).0;
        id = λ s k. refl;
        map = λ s k. refl;
        accessing = λ s k. refl;
        location = λ s k. refl;
        transport = λ s k. refl;
        processing = λ s k. one_of_cases (λ (r : ℕ). is_mild_row (firing 13 x.object r) ≡ true) (1 ∷ 2 ∷ 5 ∷ []) x.row.row (refl, (refl, (refl, tt))) (or_none (is_one_of (1 ∷ 2 ∷ 5 ∷ []) x.row.row) k);
        process_job = λ s k. refl;
        control_job = λ s k. refl;
        move = λ s k. one_of_cases (λ (r : ℕ). is_mild_row (firing 16 x.object r) ≡ true) (1 ∷ 2 ∷ 3 ∷ 4 ∷ 10 ∷ []) x.row.row (refl, (refl, (refl, (refl, (refl, tt))))) k;
      }) starts common

  -- so are those that are ready by themselves
  processing_mild_row : (n row : ℕ) (s : Option Substrate) → substrate_ready processing_number processing_table (λ x. x.processing) s f ≡ Some row → is_mild_row (firing 13 n row) ≡ true
  processing_mild_row n row None e = absurd (cc)
  processing_mild_row n row (Some s) e =
      ready_row (λ (r : ℕ). is_mild_row (firing 13 n r) ≡ true) processing_number (λ want. substrate_wants want s f) processing_table row s.states.processing
      ((λ i a w. refl), ((λ i a w. refl), ((λ i a w. refl), ((λ i a w. refl), ((λ i a w. refl), ((λ i a w. refl), ((λ i a w. refl), ((λ i a w. not_itself i), tt)))))))) e

  module_mild_row : (m row : ℕ) (plan : Option Move) (x : Option Module) → move_ready plan x ≡ Some row → is_mild_row (firing 16 m row) ≡ true
  module_mild_row m row plan None e = absurd (cc)
  module_mild_row m row plan (Some x) e =
      ready_row (λ (r : ℕ). is_mild_row (firing 16 m r) ≡ true) state_number (λ want. move_wants want plan x) move_table row (state_of x)
      ((λ i a w. refl), ((λ i a w. refl), ((λ i a w. refl), ((λ i a w. refl), ((λ i a w. not_itself i), ((λ i a w. not_itself i), ((λ i a w. not_itself i), ((λ i a w. not_itself i), ((λ i a w. not_itself i), ((λ i a w. refl), tt)))))))))) e

  ready_mild : (x : Firing) → floor_least f ≡ Some x → is_mild_row x ≡ true
  ready_mild x e =
      least_cases (λ (y : Firing). is_mild_row y ≡ true) f x (record {
        transfer = λ i r s. refl;
        access = λ i r s. refl;
        reservation = λ i r s. refl;
        association = λ i r s. ready_at_port association_number association_table (λ s. s.association) (λ to s. record s { association = to }) (λ (p q : ℕ). is_mild_row (firing 7 p q) ≡ true) f.shop i r
            (λ place p at. ((λ i a w. refl), ((λ i a w. refl), ((λ i a w. refl), ((λ i a w. refl), ((λ i a w. refl), ((λ i a w. not_itself i), ((λ i a w. refl), tt)))))))) s;
        id = λ i r s. refl;
        map = λ i r s. refl;
        accessing = λ i r s. refl;
        location = λ i r s. refl;
        transport = λ i r s. refl;
        processing = λ i r s. processing_mild_row i r (substrate_numbered i f.substrates) s;
        process_job = λ i r s. refl;
        control_job = λ i r s. refl;
        move = λ i r s. module_mild_row i r (planned i f) (module_at i f.modules) s;
      }) e

  pub common-ordered : (x : Firing) → floor_starts x f ≡ true → is_common x ≡ true → OrderedAt (floor_fired x f)
  common-ordered x starts common = row-ordered x starts (common_mild x starts common)

  pub least-ordered : (x : Firing) → floor_least f ≡ Some x → OrderedAt (floor_fired x f)
  least-ordered x e = row-ordered x (least_starts f x e) (ready_mild x e)

-- ---- Done

same_place : (a b : Loc) → Some a ≡ Some b → a ≡ b
same_place a b e = some_same a b e

module _ (m : ℕ) (f : ToolFloor) (sound : Sound f) (o : OrderedAt f) (c : ToolCommand) (fetched : Bool) (here : module_at m f.modules ≡ Some (Busy c fetched)) where
  -- rows 3 and 4 of table 13, where they start
  ended-ordered : (n r : ℕ) → is_one_of (3 ∷ 4 ∷ []) r ≡ true → (g : ToolFloor) → OrderedAt g → OrderedAt (one_listed (firing 13 n r) g)
  ended-ordered n r one g at =
      listed_either OrderedAt (firing 13 n r) g (λ starts. processing-ordered g at n r (one_of_cases (λ (i : ℕ). (i == 8) ≡ false) (3 ∷ 4 ∷ []) r (refl, (refl, tt)) one)) (λ left. at)

  -- behind a Process that is done
  stepped-ordered : (x : Option ToolTask) → OrderedAt (stepped_by x f)
  stepped-ordered None = o
  stepped-ordered (Some (task.Pick sub from)) = o
  stepped-ordered (Some (task.Place sub to)) = o
  stepped-ordered (Some (task.Align sub)) = o
  stepped-ordered (Some (task.Process sub recipe)) = of (number_named sub f.places) where
    by : (n : ℕ) (b : Bool) → Ordered f.places (if b then change_numbered n stepped f.substrates else f.substrates) f.jobs
    by n true = changed-ordered stepped stepped_mild n f o
    by n false = o

    of : (x : Option ℕ) → Ordered f.places (stepped_numbered x f) f.jobs
    of None = o
    of (Some n) = by n (goes_on (substrate_numbered n f.substrates) f)

  pick-ordered : (sub : List ℕ) (from : LocId) → c.task ≡ task.Pick sub from → OrderedAt (floor_fired (firing 16 m 5) f)
  pick-ordered sub from q = record { together = o.together; started = o.started; unaligned = λ n i k at left. o.unaligned n i k (of n i k at (n == t.number) refl) left; in_jobs = o.in_jobs } where
    t : Transfers sub (loc_of from) arm f (floor_fired (firing 16 m 5) f)
    t = pick_places m c fetched f here sound sub from q

    of : (n i k : ℕ) → place_in (floor_fired (firing 16 m 5) f).places n ≡ Some (slot i k) → (b : Bool) → (n == t.number) ≡ b → place_in f.places n ≡ Some (slot i k)
    of n i k at true e = absurd (let clash : arm ≡ slot i k = same_place arm (slot i k) (sym t.after ∙ ap (place_in (floor_fired (firing 16 m 5) f).places) (sym ((Decides-eqb n t.number).0 e)) ∙ at) in cc)
    of n i k at false e = sym (t.others n (λ same. true≢false (sym ((Decides-eqb n t.number).1 same) ∙ e))) ∙ at

  place-ordered : (sub : List ℕ) (to : LocId) → c.task ≡ task.Place sub to → OrderedAt (floor_fired (firing 16 m 5) f)
  place-ordered sub to q = record { together = o.together; started = o.started; unaligned = λ n i k at left. of n i k at left (n == t.number) refl; in_jobs = o.in_jobs } where
    t : Transfers sub arm (loc_of to) f (floor_fired (firing 16 m 5) f)
    t = place_places m c fetched f here sound sub to q

    s : PlaceStands m (numbered sub f.places) (loc_of to) (picture f)
    s = sound.valid.commands.places m (numbered sub f.places) (loc_of to) (command_of c f.places) (busy_at f m c fetched here) (ap (λ (x : ToolTask). task_of x f.places) q)

    ended : (n i k : ℕ) → loc_of to ≡ slot i k → n ≡ t.number → is_finished ((picture f).processing n) ≡ true
    ended n i k is same = ap (λ (x : ℕ). is_finished ((picture f).processing x)) (same ∙ sym (ap number_or_none t.named)) ∙ (s.to_slot i k is).1

    of : (n i k : ℕ) → place_in (floor_fired (firing 16 m 5) f).places n ≡ Some (slot i k) → is_finished ((picture f).processing n) ≡ false → (b : Bool) → (n == t.number) ≡ b → (picture f).is_aligned n ≡ false
    of n i k at left true e =
        let same : n ≡ t.number = (Decides-eqb n t.number).0 e in
        let is : loc_of to ≡ slot i k = same_place (loc_of to) (slot i k) (sym t.after ∙ ap (place_in (floor_fired (firing 16 m 5) f).places) (sym same) ∙ at) in
        absurd (true≢false (sym (ended n i k is same) ∙ left))
    of n i k at left false e = o.unaligned n i k (sym (t.others n (λ same. true≢false (sym ((Decides-eqb n t.number).1 same) ∙ e))) ∙ at) left

  align-ordered : (sub : List ℕ) → c.task ≡ task.Align sub → OrderedAt (floor_fired (firing 16 m 6) f)
  align-ordered sub q =
      subst (λ (x : Option Module). OrderedAt (with_module m (module_behind 6) (aligned_by (open_task x) f))) (sym here)
      (subst (λ (x : ToolTask). OrderedAt (with_module m (module_behind 6) (aligned_by (Some x) f))) (sym q) (of (number_named sub f.places) refl))
    where
      at_aligner : (n : ℕ) → number_named sub f.places ≡ Some n → (picture f).place_of n ≡ Some aligner
      at_aligner n e =
          (sound.valid.commands.aligns m n (command_of c f.places) (busy_at f m c fetched here) (ap (λ (x : ToolTask). task_of x f.places) q ∙ ap (λ (x : Option ℕ). align (number_or_none x)) e)).stands

      of : (x : Option ℕ) → number_named sub f.places ≡ x → OrderedAt (with_module m (module_behind 6) (record f { substrates = aligned_numbered x f.substrates }))
      of None e = o
      of (Some n) e = record {
        together = o.together;
        started = o.started;
        unaligned = unaligned;
        in_jobs = changed-in_jobs f o.in_jobs n aligned (λ s. refl) (λ s. refl);
      } where
        unaligned : UnalignedIn f.places (change_numbered n aligned f.substrates)
        unaligned k i l at left =
            let other = found_else n aligned (λ s. refl) k (λ same. absurd (let clash : aligner ≡ slot i l = same_place aligner (slot i l) (sym (at_aligner n e) ∙ ap (place_in f.places) (sym same) ∙ at) in cc)) f.substrates in
            ap (of_one false (λ (s : Substrate). s.aligned)) other
            ∙ o.unaligned k i l at (sym (ap (λ (x : Option Substrate). is_finished (of_one 0 (λ (s : Substrate). processing_number s.states.processing) x)) other) ∙ left)

  -- the rows of Done, by the task
  done_task-ordered : (t : ToolTask) → c.task ≡ t → OrderedAt (listed (at_module (done_row t) m ++ done_processed t f) f)
  done_task-ordered (task.Pick sub from) q = subst OrderedAt (sym (listed_starts (firing 16 m 5) f (done_starts m f c fetched here (task.Pick sub from) q))) (pick-ordered sub from q)
  done_task-ordered (task.Place sub to) q = subst OrderedAt (sym (listed_starts (firing 16 m 5) f (done_starts m f c fetched here (task.Place sub to) q))) (place-ordered sub to q)
  done_task-ordered (task.Align sub) q = subst OrderedAt (sym (listed_starts (firing 16 m 6) f (done_starts m f c fetched here (task.Align sub) q))) (align-ordered sub q)
  done_task-ordered (task.Process sub recipe) q =
      subst (λ (g : ToolFloor). OrderedAt (listed (at_done (number_named sub f.places) f) g)) (sym (listed_starts (firing 16 m 7) f (done_starts m f c fetched here (task.Process sub recipe) q)))
      (of (number_named sub f.places))
    where
      behind : OrderedAt (floor_fired (firing 16 m 7) f)
      behind = stepped-ordered (open_task (module_at m f.modules))

      by : (n : ℕ) (b : Bool) → OrderedAt (listed (if b then [] else firing 13 n (done_processing n f) ∷ []) (floor_fired (firing 16 m 7) f))
      by n true = behind
      by n false = ended-ordered n (done_processing n f) (done_one n f) (floor_fired (firing 16 m 7) f) behind

      of : (x : Option ℕ) → OrderedAt (listed (at_done x f) (floor_fired (firing 16 m 7) f))
      of None = behind
      of (Some n) = by n (goes_on (substrate_numbered n f.substrates) f)

  -- those of Failed and of Down
  closed_task-ordered : (row : ℕ) → one_listed (firing 16 m row) f ≡ with_module m (module_behind row) f → (t : ToolTask) → OrderedAt (listed (at_module row m ++ processed_rows 4 t f) f)
  closed_task-ordered row closes (task.Pick sub from) = subst OrderedAt (sym closes) o
  closed_task-ordered row closes (task.Place sub to) = subst OrderedAt (sym closes) o
  closed_task-ordered row closes (task.Align sub) = subst OrderedAt (sym closes) o
  closed_task-ordered row closes (task.Process sub recipe) = subst (λ (g : ToolFloor). OrderedAt (listed (at_processed 4 (number_named sub f.places)) g)) (sym closes) (of (number_named sub f.places)) where
    of : (x : Option ℕ) → OrderedAt (listed (at_processed 4 x) (with_module m (module_behind row) f))
    of None = o
    of (Some n) = ended-ordered n 4 refl (with_module m (module_behind row) f) o

-- Done of the open command of a module
pub done-in_order : (m command : ℕ) (f : ToolFloor) → is_open command (module_at m f.modules) ≡ true → floor_least f ≡ None → InOrder f → InOrder (listed (done_rows m f) f)
done-in_order m command f open_there rest o = in_order (listed (done_rows m f) f) (done_sound m command f open_there rest o.sound) (of (module_at m f.modules) refl open_there) where
  of : (x : Option Module) → module_at m f.modules ≡ x → is_open command x ≡ true → OrderedAt (listed (done_at m x f) f)
  of None here is = absurd (cc)
  of (Some Idle) here is = absurd (cc)
  of (Some Down) here is = absurd (cc)
  of (Some (Busy c fetched)) here is = done_task-ordered m f o.sound (to_ordered f o) c fetched here c.task refl

-- ---- Failed and Down

pub failed-in_order : (m command : ℕ) (f : ToolFloor) → is_open command (module_at m f.modules) ≡ true → InOrder f → InOrder (listed (closing_rows 8 m f) f)
failed-in_order m command f open_there o = in_order (listed (closing_rows 8 m f) f) (failed_sound m command f open_there o.sound) (of (module_at m f.modules) refl open_there) where
  of : (x : Option Module) → module_at m f.modules ≡ x → is_open command x ≡ true → OrderedAt (listed (closing_at 8 m x f) f)
  of None here is = absurd (cc)
  of (Some Idle) here is = absurd (cc)
  of (Some Down) here is = absurd (cc)
  of (Some (Busy c fetched)) here is = closed_task-ordered m f o.sound (to_ordered f o) c fetched here 8 (listed_starts (firing 16 m 8) f (failed_starts m f c fetched here)) c.task

pub down-in_order : (m : ℕ) (f : ToolFloor) → is_up (module_at m f.modules) ≡ true → InOrder f → InOrder (listed (closing_rows 9 m f) f)
down-in_order m f up o = in_order (listed (closing_rows 9 m f) f) (down_sound m f up o.sound) (of (module_at m f.modules) refl up) where
  -- it had nothing open
  alone : module_at m f.modules ≡ Some Idle → OrderedAt (listed (firing 16 m 9 ∷ []) f)
  alone here = listed_either OrderedAt (firing 16 m 9) f (λ starts. to_ordered f o) (λ left. to_ordered f o)

  of : (x : Option Module) → module_at m f.modules ≡ x → is_up x ≡ true → OrderedAt (listed (closing_at 9 m x f) f)
  of None here is = absurd (cc)
  of (Some Idle) here is = alone here
  of (Some Down) here is = absurd (cc)
  of (Some (Busy c fetched)) here is = closed_task-ordered m f o.sound (to_ordered f o) c fetched here 9 (listed_starts (firing 16 m 9) f (down_starts m f c fetched here)) c.task

-- ---- `lost`

pub lost-in_order : (sub : List ℕ) (f : ToolFloor) → InOrder f → InOrder (listed (lost_rows sub f) f)
lost-in_order sub f o = in_order (listed (lost_rows sub f) f) (lost_rows_sound sub f o.sound) (of (number_named sub f.places) refl) where
  was : OrderedAt f
  was = to_ordered f o

  gone : (n : ℕ) → lost_rows sub f ≡ firing 13 n 8 ∷ [] → floor_starts (firing 13 n 8) f ≡ true → OrderedAt (floor_fired (firing 13 n 8) f)
  gone n is starts = record { together = o.together; started = o.started; unaligned = unaligned; in_jobs = moved.in_jobs } where
    moved : Ordered f.places (change_numbered n (substrate_moves 13 8) f.substrates) f.jobs
    moved = changed-ordered (substrate_moves 13 8) (processing_mild 8) n f was

    w : (number_named sub f.places ≡ Some n) × (place_in (floor_fired (firing 13 n 8) f).places n ≡ None) × ((k : ℕ) → (k ≡ n → ⊥) → place_in (floor_fired (firing 13 n 8) f).places k ≡ place_in f.places k)
    w = lost_places f n sub is o.sound

    unaligned : UnalignedIn (removed_where (substrate_numbered n f.substrates) f.places) (change_numbered n (substrate_moves 13 8) f.substrates)
    unaligned k i l at left = by (k == n) refl where
      by : (b : Bool) → (k == n) ≡ b → of_one false (λ (s : Substrate). s.aligned) (substrate_numbered k (change_numbered n (substrate_moves 13 8) f.substrates)) ≡ false
      by true e = none_some (slot i l) (sym w.1 ∙ ap (place_in (floor_fired (firing 13 n 8) f).places) (sym ((Decides-eqb k n).0 e)) ∙ at)
      by false e = moved.unaligned k i l (sym (w.2 k (λ same. true≢false (sym ((Decides-eqb k n).1 same) ∙ e))) ∙ at) left

  of : (x : Option ℕ) → lost_rows sub f ≡ lost_at x f → OrderedAt (listed (lost_at x f) f)
  of None e = was
  of (Some n) e = by (can_be_lost (substrate_numbered n f.substrates) f) e where
    by : (b : Bool) → lost_rows sub f ≡ (if b then firing 13 n 8 ∷ [] else []) → OrderedAt (listed (if b then firing 13 n 8 ∷ [] else []) f)
    by true is = listed_either OrderedAt (firing 13 n 8) f (gone n is) (λ left. was)
    by false is = was

-- ---- a carrier is removed

-- what is found among some is found among all, where numbers differ
pub found_among_all : {A : Type 0} (number : A → ℕ) (q : A → Bool) (n : ℕ) (xs : List A) (x : A) → IsDistinct (map number xs) → find (λ (y : A). number y == n) (filter q xs) ≡ Some x → (find (λ (y : A). number y == n) xs ≡ Some x) × (q x ≡ true)
found_among_all number q n [] x d e = none_some x e
found_among_all number q n (y ∷ ys) x d e = of (q y) refl e (found_among_all number q n ys x d.1) where
  other : find (λ (z : _). number z == n) ys ≡ Some x → (number y == n) ≡ false
  other there = by (number y == n) refl where
    by : (b : Bool) → (number y == n) ≡ b → b ≡ false
    by false g = refl
    by true g = sym (found_among number n ys x there) ∙ ap (is_one_of (map number ys)) (sym ((Decides-eqb (number y) n).0 g)) ∙ d.0

  past : (find (λ (z : _). number z == n) ys ≡ Some x) × (q x ≡ true) → (find (λ (z : _). number z == n) (y ∷ ys) ≡ Some x) × (q x ≡ true)
  past w = (ap (λ (b : Bool). if b then Some y else find (λ (z : _). number z == n) ys) (other w.0) ∙ w.0, w.1)

  first : q y ≡ true → (b : Bool) → (number y == n) ≡ b → (if b then Some y else find (λ (z : _). number z == n) (filter q ys)) ≡ Some x
      → (find (λ (z : _). number z == n) (filter q ys) ≡ Some x → (find (λ (z : _). number z == n) ys ≡ Some x) × (q x ≡ true)) → (find (λ (z : _). number z == n) (y ∷ ys) ≡ Some x) × (q x ≡ true)
  first g true h k later = (ap (λ (b : Bool). if b then Some y else find (λ (z : _). number z == n) ys) h ∙ k, sym (ap q (some_same y x k)) ∙ g)
  first g false h k later = past (later k)

  of : (b : Bool) → q y ≡ b → find (λ (z : _). number z == n) (if b then y ∷ filter q ys else filter q ys) ≡ Some x
      → (find (λ (z : _). number z == n) (filter q ys) ≡ Some x → (find (λ (z : _). number z == n) ys ≡ Some x) × (q x ≡ true)) → (find (λ (z : _). number z == n) (y ∷ ys) ≡ Some x) × (q x ≡ true)
  of false g f later = past (later f)
  of true g f later = first g (number y == n) refl f later

without-ordered : (f : ToolFloor) → Base f → (k : Option ℕ) → OrderedAt f → OrderedAt (without_carrier k f)
without-ordered f b None o = o
without-ordered f b (Some carrier) o = record {
  together = o.together;
  started = o.started;
  unaligned = λ n i k at left. one n i k at left (substrate_numbered n (filter (λ s. not (is_of carrier s)) f.substrates)) refl;
  in_jobs = λ n s found some. o.in_jobs n s (back n s found) some;
} where
  back : (n : ℕ) (s : Substrate) → substrate_numbered n (filter (λ s. not (is_of carrier s)) f.substrates) ≡ Some s → substrate_numbered n f.substrates ≡ Some s
  back n s found = (found_among_all number_of (λ s. not (is_of carrier s)) n f.substrates s (rising_distinct 0 f.places.given f.substrates b.rising) found).0

  place_back : (n : ℕ) (l : Loc) → place_in (removed_of carrier f.substrates f.places) n ≡ Some l → place_in f.places n ≡ Some l
  place_back n l at = of (find (λ (r : Registered). r.number == n) (filter (stays carrier f.substrates) f.places.held)) refl (sym (ap (λ (rs : List Registered). option_map (λ (r : Registered). loc_of r.at) (find (λ (r : Registered). r.number == n) rs)) (removed_held carrier f.substrates f.places)) ∙ at) where
    of : (r : Option Registered) → find (λ (x : Registered). x.number == n) (filter (stays carrier f.substrates) f.places.held) ≡ r → option_map (λ (x : Registered). loc_of x.at) r ≡ Some l → place_in f.places n ≡ Some l
    of None q e = absurd (cc)
    of (Some r) q e =
        ap (option_map (λ (x : Registered). loc_of x.at)) (found_among_all (λ (x : Registered). x.number) (stays carrier f.substrates) n f.places.held r (held_distinct 0 f.places.given f.places.held b.places.numbered) q).0
        ∙ e

  one : (n i k : ℕ) → place_in (removed_of carrier f.substrates f.places) n ≡ Some (slot i k) → is_finished (of_one 0 (λ (s : Substrate). processing_number s.states.processing) (substrate_numbered n (filter (λ s. not (is_of carrier s)) f.substrates))) ≡ false
      → (x : Option Substrate) → substrate_numbered n (filter (λ s. not (is_of carrier s)) f.substrates) ≡ x → of_one false (λ (s : Substrate). s.aligned) x ≡ false
  one n i k at left None q = refl
  one n i k at left (Some s) q =
      sym (ap (of_one false (λ (x : Substrate). x.aligned)) (back n s q))
      ∙ o.unaligned n i k (place_back n (slot i k) at) (ap (λ (x : Option Substrate). is_finished (of_one 0 (λ (y : Substrate). processing_number y.states.processing) x)) (back n s q ∙ sym q) ∙ left)

pub removal-in_order : (port : ℕ) (f : ToolFloor) → floor_starts (firing 4 port 5) f ≡ true → floor_starts (firing 7 port 6) (floor_fired (firing 4 port 5) f) ≡ true → shop.floor_least f.shop ≡ None → InOrder f
    → InOrder (floor_fired (firing 7 port 6) (floor_fired (firing 4 port 5) f))
removal-in_order port f starts next rests o =
    let g = floor_fired (firing 4 port 5) f in
    in_order (floor_fired (firing 7 port 6) g) (removed_sound port f starts next rests o.sound)
    (without-ordered g (vacated_kept port f starts (record { base = o.sound.base; valid = o.sound.valid })).base (owner_number port g.shop) (to_ordered f o))

pub removal_left-in_order : (port : ℕ) (f : ToolFloor) → floor_starts (firing 4 port 5) f ≡ true → floor_starts (firing 7 port 6) (floor_fired (firing 4 port 5) f) ≡ false → InOrder f → InOrder (floor_fired (firing 4 port 5) f)
removal_left-in_order port f starts left o = in_order (floor_fired (firing 4 port 5) f) (removal_left_sound port f starts left o.sound) (to_ordered f o)

-- ---- what else changes

pub opening-in_order : (ports chambers : ℕ) (recipes : List Recipe) → ports ≤ most_ports → InOrder (opening ports chambers recipes)
opening-in_order ports chambers recipes few =
    in_order (opening ports chambers recipes) (opening_sound ports chambers recipes few)
    (record { together = together_none recipes; started = none-started recipes; unaligned = λ n i k at left. refl; in_jobs = λ n s found some. none_some s found })

pub least-in_order : (x : Firing) (f : ToolFloor) → floor_least f ≡ Some x → InOrder f → InOrder (floor_fired x f)
least-in_order x f e o = in_order (floor_fired x f) (least_sound x f e o.sound) (least-ordered f o.sound (to_ordered f o) x e)

pub row-in_order : (x : Firing) (f : ToolFloor) → floor_starts x f ≡ true → is_common x ≡ true → InOrder f → InOrder (floor_fired x f)
row-in_order x f starts common o = in_order (floor_fired x f) (row_sound x f starts common o.sound) (common-ordered f o.sound (to_ordered f o) x starts common)

-- a process job is created
pub created-in_order : (spec : JobSpec) (f : ToolFloor) → create_fault spec f.jobs.process ≡ None → InOrder f → InOrder (with_jobs (with_process spec f.jobs) f)
created-in_order spec f free o =
    in_order (with_jobs (with_process spec f.jobs) f) (created_sound f spec o.sound)
    (record { together = together_created spec f.jobs free o.together; started = created-started f.jobs o.together o.started spec; unaligned = o.unaligned; in_jobs = λ n s found some. let was = o.in_jobs n s found some in (was.0, more s.job f.jobs.process.kept was.0 was.1) })
  where
    more : (k : ℕ) (js : List ProcessJob) (j : ProcessJob) → job_numbered k js ≡ Some j → job_numbered k (js ++ created (f.jobs.process.given + 1) spec ∷ []) ≡ Some j
    more k [] j q = none_some j q
    more k (x ∷ xs) j q = of (x.number == k) q (more k xs j) where
      of : (b : Bool) → (if b then Some x else job_numbered k xs) ≡ Some j → (job_numbered k xs ≡ Some j → job_numbered k (xs ++ created (f.jobs.process.given + 1) spec ∷ []) ≡ Some j) → (if b then Some x else job_numbered k (xs ++ created (f.jobs.process.given + 1) spec ∷ [])) ≡ Some j
      of true r later = r
      of false r later = later r

-- a control job is added
pub added-in_order : (name : List ℕ) (named : List (List ℕ)) (auto : Bool) (f : ToolFloor) → control_fault name named f.jobs ≡ None → InOrder f → InOrder (with_jobs (with_control name named auto f.jobs) f)
added-in_order name named auto f free o =
    in_order (with_jobs (with_control name named auto f.jobs) f) (control_changes_sound f (with_control name named auto f.jobs).control o.sound)
    (record { together = together_added name named auto f.jobs free o.together; started = added-started f.jobs o.together o.started name named auto free; unaligned = o.unaligned; in_jobs = o.in_jobs })

-- the order of the queue changes
pub headed-in_order : (name : List ℕ) (f : ToolFloor) → InOrder f → InOrder (with_jobs (record f.jobs { control = headed name f.jobs.control }) f)
headed-in_order name f o =
    in_order (with_jobs (record f.jobs { control = headed name f.jobs.control }) f) (control_changes_sound f (headed name f.jobs.control) o.sound)
    (record { together = together_headed name f.jobs o.together; started = headed-started f.jobs o.together o.started name; unaligned = o.unaligned; in_jobs = o.in_jobs })

-- a command is fetched
pub fetched-in_order : (m : ℕ) (f : ToolFloor) → InOrder f → InOrder (fetched m f)
fetched-in_order m f o = in_order (fetched m f) (fetched_sound m f o.sound) (to_ordered f o)

pub cancelled-in_order : (n : ℕ) (c : Carrier) (f : ToolFloor) → carrier_numbered n f.shop.carriers ≡ Some c → floor_starts (firing 10 n 4) f ≡ true → is_any_of_carrier c.name f.jobs ≡ false → InOrder f → InOrder (floor_fired (firing 10 n 4) f)
cancelled-in_order n c f known starts unnamed o = in_order (floor_fired (firing 10 n 4) f) (cancel_sound f n c known starts unnamed o.sound) (to_ordered f o)

pub written-in_order : (a : CarrierAction) (f : ToolFloor) → is_done_code (carrier_code f.shop a) ≡ true → InOrder f → InOrder (with_shop (carrier_written a f.shop) f)
written-in_order a f code o = in_order (with_shop (carrier_written a f.shop) f) (written_sound a f code o.sound) (to_ordered f o)

pub unbinding-in_order : (port : ℕ) (f : ToolFloor) → floor_starts (firing 7 port 2) f ≡ true → ((name : List ℕ) → owner (port_numbered port f.shop.ports) ≡ Some name → NonePresent name f.shop.carriers) → InOrder f → InOrder (floor_fired (firing 7 port 2) f)
unbinding-in_order port f starts none o = in_order (floor_fired (firing 7 port 2) f) (unbinding_sound port f starts none o.sound) (to_ordered f o)

pub placing-in_order : (port : ℕ) (name : Option (List ℕ)) (slots : List ℕ) (f : ToolFloor) → floor_starts (firing 4 port 3) f ≡ true → shop.floor_least f.shop ≡ None → InOrder f
    → InOrder (floor_fired (firing 4 port 3) (with_shop (came port (arrival_of port name slots f.shop.carriers) f.shop) f))
placing-in_order port name slots f starts rests o =
    in_order (floor_fired (firing 4 port 3) (with_shop (came port (arrival_of port name slots f.shop.carriers) f.shop) f)) (placing_sound port name slots f starts rests o.sound) (to_ordered f o)
