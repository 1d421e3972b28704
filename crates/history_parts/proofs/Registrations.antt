-- The numbers of registration that a row gives are as many as the rows of the substrates that it creates.
use Rattle.std.proofs.Common.{◌≡◌, ℕ, zero, suc, ◌+◌, ◌==◌, Bool, true, false, ◌&&◌, if◌then◌else◌, List, [], ◌∷◌, ◌++◌, length, length-append, append_assoc, drop, Option, Some, None, refl, sym, ◌∙◌, ap, arith}
use Rattle.std.proofs.lemmas.List.{append-nil}
use Rattle.std.proofs.lemmas.List.Sums.{sum_by-cons, length-filter}
use Rattle.gem_ids.specs.declared.numbers.LocId.{LocId}
use Rattle.gem_ids.specs.declared.numbers.LocId.TheVariants.{Slot, Arm}
use Rattle.gem_ids.specs.declared.numbers.PortNo.{PortNo}
use Rattle.gem_ids.specs.Names.{name_in_slot}
use Rattle.gem_tables.specs.Table.{firing, row_of}
use Rattle.gem_tables.specs.declared.firing.Firing.{Firing}
use Rattle.floor_model.proofs.EachTable.{either_creates}
use Rattle.tool_tasks.specs.declared.task.Task.{Task}
use Rattle.tool_tasks.specs.declared.task.Task.TheVariants as task
use Rattle.load_port.specs.Tables as word
use Rattle.load_port.specs.Tables.{PortEffect, PortRow, transfer_table, access_table, reservation_table, association_table}
use Rattle.carrier.specs.declared.carrier.Carrier.{Carrier}
use Rattle.carrier.specs.Carriers.{carrier_numbered}
use Rattle.shop_floor.specs.Floor.{Floor}
use Rattle.shop_floor.specs.Rows.{port_creates, found_creates}
use Rattle.shop_floor.specs.Owning.{owner_number}
use Rattle.substrate.specs.Tables as substrate_word
use Rattle.substrate.specs.Tables.{SubstrateEffect, SubstrateRow, processing_table}
use Rattle.substrate.specs.Places.{PlaceMap, registered, removed, moved, can_shift}
use Rattle.substrate.specs.Locations.{is_location}
use Rattle.robot_moves.specs.Tables as move_word
use Rattle.robot_moves.specs.Tables.{MoveRow, MoveEffect, move_table}
use Rattle.robot_moves.specs.Modules.{module_at}
use Rattle.robot_moves.specs.declared.view.Move.{Move}
use Rattle.process_job.specs.Tables as job_word
use Rattle.process_job.specs.Tables.{JobEffect, JobRow, job_table}
use Rattle.process_job.specs.declared.job.ProcessJob.{ProcessJob}
use Rattle.floor_model.specs.declared.tracked.Substrate.{Substrate}
use Rattle.floor_model.specs.Floor.{ToolFloor, substrate_numbered}
use Rattle.floor_model.specs.Jobs.{frees, stops_carriers, gets_members, job_does, found_job_does}
use Rattle.floor_model.specs.Modules.{issued, goes, transferred, open_task, aligned_by, stepped_by, move_does, found_move}
use Rattle.floor_model.specs.Substrates.{can_register, first_substrate, registers_at, registers_slot, registers_slots, registers_at_port, registers_found, reaches_verified, registration_rows, is_of, emptied, removed_of, without_carrier, removed_where, substrate_does, found_does}
use Rattle.floor_model.specs.Machines.{on_shop, port_machine, carrier_machine, location_machine, transport_machine, processing_machine, process_machine, control_machine, move_machine, floor_fired, creation_rows, registered_by, taken_along}
use Rattle.floor_model.specs.Views.{planned}
use Rattle.process_job.specs.Jobs.{job_numbered as process_numbered}
use Rattle.shop_floor.specs.Machines.{transfer_machine, access_machine, reservation_machine, id_machine}
use Rattle.gem_tables.specs.Machine.{Machine}
use Rattle.history_parts.specs.Additions.{is_registration, registrations}

-- ---- counts

registrations-cons : (f : Firing) (fs : List Firing) → registrations (f ∷ fs) ≡ (if is_registration f then 1 else 0) + registrations fs
registrations-cons f fs =
    omega (arith, length-filter is_registration (f ∷ fs), length-filter is_registration fs, sum_by-cons (λ (x : Firing). if is_registration x then 1 else 0) f fs)

-- the rows of new substrates
each_registered : (ss : List Substrate) → registrations (registration_rows ss) ≡ length ss
each_registered [] = refl
each_registered (s ∷ ss) =
    omega (arith, each_registered ss, registrations-cons (firing 12 s.number 1) (firing 13 s.number 1 ∷ registration_rows ss), registrations-cons (firing 13 s.number 1) (registration_rows ss))

-- a carrier that is created is no substrate
arrival_none : (new : Bool) (n : ℕ) → registrations (if new then firing 8 n 1 ∷ [] else []) ≡ 0
arrival_none true n = refl
arrival_none false n = refl

effect_none : (e : PortEffect) (port : ℕ) (s : Floor) → registrations (port_creates e port s) ≡ 0
effect_none word.no_more port s = refl
effect_none word.binds port s = refl
effect_none word.forgets port s = refl
effect_none word.arrives port s = arrival_none _ s.next_carrier
effect_none word.replaces port s = arrival_none _ s.next_carrier
effect_none word.frees port s = refl

port_none : {S : Type 0} (o : Option (PortRow S)) (port : ℕ) (s : Floor) → registrations (found_creates o port s) ≡ 0
port_none None port s = refl
port_none (Some r) port s = effect_none r.does port s

-- ---- what a registration gives

-- from the one floor to the other there are new substrates behind the others, and as many numbers were given
record Gives (f g : ToolFloor) : Type 0 where
  new : List Substrate
  substrates : g.substrates ≡ f.substrates ++ new
  given : g.places.given ≡ f.places.given + length new

gives_none : (f : ToolFloor) → Gives f f
gives_none f = record { new = []; substrates = sym (append-nil f.substrates); given = omega arith }

gives_then : (f g h : ToolFloor) → Gives f g → Gives g h → Gives f h
gives_then f g h first next =
    let one = first.given in
    let two = next.given in
    record {
      new = first.new ++ next.new;
      substrates = next.substrates ∙ ap (λ (ss : List Substrate). ss ++ next.new) first.substrates ∙ append_assoc f.substrates first.new next.new;
      given = omega (arith, one, two, length-append first.new next.new);
    }

gives_one : (sub : List ℕ) (carrier : ℕ) (loc : LocId) (f : ToolFloor) → Gives f (registers_at sub carrier loc f)
gives_one sub carrier loc f = of (can_register sub loc f.places) where
  new : Substrate
  new = first_substrate (f.places.given + 1) sub carrier loc

  of : (b : Bool) → Gives f (if b then record f { places = registered sub loc f.places; substrates = f.substrates ++ new ∷ [] } else f)
  of true = record { new = new ∷ []; substrates = refl; given = omega arith }
  of false = gives_none f

gives_slot : (c : Carrier) (port : PortNo) (slot code : ℕ) (f : ToolFloor) → Gives f (registers_slot c port slot code f)
gives_slot c port slot code f = of (code == 3) where
  of : (b : Bool) → Gives f (if b then registers_at (name_in_slot c.name slot) c.number (Slot port (record { 0 = slot })) f else f)
  of true = gives_one (name_in_slot c.name slot) c.number (Slot port (record { 0 = slot })) f
  of false = gives_none f

gives_slots : (c : Carrier) (port : PortNo) (slot count : ℕ) (slots : List ℕ) (f : ToolFloor) → Gives f (registers_slots c port slot count slots f)
gives_slots c port slot zero slots f = gives_none f
gives_slots c port slot (suc count) [] f = gives_none f
gives_slots c port slot (suc count) (code ∷ slots) f =
    gives_then f (registers_slot c port slot code f) _ (gives_slot c port slot code f) (gives_slots c port (slot + 1) count slots (registers_slot c port slot code f))

gives_at_port : (port : Option PortNo) (c : Carrier) (f : ToolFloor) → Gives f (registers_at_port port c f)
gives_at_port None c f = gives_none f
gives_at_port (Some port) c f = gives_slots c port 1 25 c.map f

gives_found : (o : Option Carrier) (f : ToolFloor) → Gives f (registers_found o f)
gives_found None f = gives_none f
gives_found (Some c) f = gives_at_port c.port c f

gives_row : (row carrier : ℕ) (f : ToolFloor) → Gives f (registered_by row carrier f)
gives_row row carrier f = of (reaches_verified row) where
  of : (b : Bool) → Gives f (if b then registers_found (carrier_numbered carrier f.shop.carriers) f else f)
  of true = gives_found (carrier_numbered carrier f.shop.carriers) f
  of false = gives_none f

drop_front : {X : Type 0} (xs ys : List X) → drop (length xs) (xs ++ ys) ≡ ys
drop_front [] ys = refl
drop_front (x ∷ xs) ys = drop_front xs ys

-- ---- what other rows leave

removed_given : (carrier : ℕ) (ss : List Substrate) (p : PlaceMap) → (removed_of carrier ss p).given ≡ p.given
removed_given carrier [] p = refl
removed_given carrier (s ∷ ss) p = removed_given carrier ss (emptied carrier (Some s) p) ∙ of (is_of carrier s) where
  of : (b : Bool) → (if b then removed s.sub p else p).given ≡ p.given
  of true = refl
  of false = refl

along_given : (row port : ℕ) (f : ToolFloor) → (taken_along row port f).places.given ≡ f.places.given
along_given row port f = of (row == 6) (owner_number port f.shop) where
  of : (b : Bool) (o : Option ℕ) → (if b then without_carrier o f else f).places.given ≡ f.places.given
  of true None = refl
  of true (Some carrier) = removed_given carrier f.substrates f.places
  of false o = refl

lost_given : (o : Option Substrate) (f : ToolFloor) → (removed_where o f.places).given ≡ f.places.given
lost_given None f = refl
lost_given (Some s) f = refl

processing_given : {S : Type 0} (r : Option (SubstrateRow S)) (o : Option Substrate) (f : ToolFloor) → (found_does r o f).places.given ≡ f.places.given
processing_given None o f = refl
processing_given (Some r) o f = of r.does where
  of : (e : SubstrateEffect) → (substrate_does e o f).places.given ≡ f.places.given
  of substrate_word.no_more = refl
  of substrate_word.loses_place = lost_given o f

frees_given : (o : Option ProcessJob) (f : ToolFloor) → (frees o f).places.given ≡ f.places.given
frees_given None f = refl
frees_given (Some j) f = refl

stops_given : (o : Option ProcessJob) (f : ToolFloor) → (stops_carriers o f).places.given ≡ f.places.given
stops_given None f = refl
stops_given (Some j) f = refl

members_given : (o : Option ProcessJob) (f : ToolFloor) → (gets_members o f).places.given ≡ f.places.given
members_given None f = refl
members_given (Some j) f = refl

job_given : (r : Option JobRow) (o : Option ProcessJob) (f : ToolFloor) → (found_job_does r o f).places.given ≡ f.places.given
job_given None o f = refl
job_given (Some r) o f = of r.does where
  of : (e : JobEffect) → (job_does e o f).places.given ≡ f.places.given
  of job_word.no_more = refl
  of job_word.makes_members = members_given o f
  of job_word.ends = frees_given o f
  of job_word.ends_stopped = stops_given o (frees o f) ∙ frees_given o f

issued_given : (number : ℕ) (plan : Option Move) (f : ToolFloor) → (issued number plan f).places.given ≡ f.places.given
issued_given number None f = refl
issued_given number (Some m) f = refl

goes_given : (sub : List ℕ) (from to : LocId) (p : PlaceMap) → (goes sub from to p).given ≡ p.given
goes_given sub from to p = of (is_location p.ports p.chambers from && is_location p.ports p.chambers to) (can_shift sub from to p.held) where
  of : (a b : Bool) → (if a then (if b then record p { held = moved sub to p.held } else p) else p).given ≡ p.given
  of true true = refl
  of true false = refl
  of false b = refl

transferred_given : (t : Option Task) (p : PlaceMap) → (transferred t p).given ≡ p.given
transferred_given None p = refl
transferred_given (Some (task.Pick sub from)) p = goes_given sub from Arm p
transferred_given (Some (task.Place sub to)) p = goes_given sub Arm to p
transferred_given (Some (task.Align sub)) p = refl
transferred_given (Some (task.Process sub recipe)) p = refl

aligned_given : (t : Option Task) (f : ToolFloor) → (aligned_by t f).places.given ≡ f.places.given
aligned_given None f = refl
aligned_given (Some (task.Pick sub from)) f = refl
aligned_given (Some (task.Place sub to)) f = refl
aligned_given (Some (task.Align sub)) f = refl
aligned_given (Some (task.Process sub recipe)) f = refl

stepped_given : (t : Option Task) (f : ToolFloor) → (stepped_by t f).places.given ≡ f.places.given
stepped_given None f = refl
stepped_given (Some (task.Pick sub from)) f = refl
stepped_given (Some (task.Place sub to)) f = refl
stepped_given (Some (task.Align sub)) f = refl
stepped_given (Some (task.Process sub recipe)) f = refl

move_given : (r : Option MoveRow) (number : ℕ) (plan : Option Move) (f : ToolFloor) → (found_move r number plan f).places.given ≡ f.places.given
move_given None number plan f = refl
move_given (Some r) number plan f = of r.does where
  of : (e : MoveEffect) → (move_does e number plan f).places.given ≡ f.places.given
  of move_word.no_more = refl
  of move_word.issues_place = issued_given number plan f
  of move_word.issues_pick = issued_given number plan f
  of move_word.issues_align = issued_given number plan f
  of move_word.issues_process = issued_given number plan f
  of move_word.moves = transferred_given (open_task (module_at number f.modules)) f.places
  of move_word.aligns = aligned_given (open_task (module_at number f.modules)) f
  of move_word.steps = stepped_given (open_task (module_at number f.modules)) f
  of move_word.closes = refl
  of move_word.clears_alarm = refl

-- ---- each row

-- so many numbers are given as these rows register
abbrev Given : ToolFloor → List Firing → ToolFloor → Type 0
Given f ds g = g.places.given ≡ f.places.given + registrations ds

none_given : (f g : ToolFloor) → g.places.given ≡ f.places.given → Given f [] g
none_given f g same = omega (arith, same)

no_more_given : (f g : ToolFloor) (ds : List Firing) → registrations ds ≡ 0 → g.places.given ≡ f.places.given → Given f ds g
no_more_given f g ds none same = omega (arith, none, same)

slot_given : (row carrier : ℕ) (f : ToolFloor) → Given f (registration_rows (drop (length f.substrates) (registered_by row carrier f).substrates)) (registered_by row carrier f)
slot_given row carrier f =
    let gives = gives_row row carrier f in
    let given = gives.given in
    let new : drop (length f.substrates) (registered_by row carrier f).substrates ≡ gives.new = ap (drop (length f.substrates)) gives.substrates ∙ drop_front f.substrates gives.new in
    let rows = ap (λ (ss : List Substrate). registrations (registration_rows ss)) new in
    omega (arith, given, rows, each_registered gives.new)

pub given_behind : (x : Firing) (f : ToolFloor) → (floor_fired x f).places.given ≡ f.places.given + registrations (creation_rows x f)
given_behind x f =
    either_creates (Given f) f x (none_given f f refl) (record {
      transfer = port_given transfer_machine (port_none (row_of transfer_table row) n f.shop);
      access = port_given access_machine (port_none (row_of access_table row) n f.shop);
      reservation = port_given reservation_machine (port_none (row_of reservation_table row) n f.shop);
      association = no_more_given f (port_machine.fired row n f) (port_machine.creates row n f) (port_none (row_of association_table row) n f.shop) (along_given row n f);
      id = none_given f ((on_shop id_machine).fired row n f) refl;
      map = slot_given row n f;
      accessing = none_given f (carrier_machine.fired row n f) refl;
      location = none_given f (location_machine.fired row n f) refl;
      transport = none_given f (transport_machine.fired row n f) refl;
      processing = none_given f (processing_machine.fired row n f) (processing_given (row_of processing_table row) (substrate_numbered n f.substrates) f);
      process_job = none_given f (process_machine.fired row n f) (job_given (row_of job_table row) (process_numbered n f.jobs.process.kept) f);
      control_job = none_given f (control_machine.fired row n f) refl;
      move = none_given f (move_machine.fired row n f) (move_given (row_of move_table row) n (planned n f) f);
    }) where
      row : ℕ
      row = x.row.row

      n : ℕ
      n = x.object

      port_given : (m : Machine Floor) → registrations (m.creates row n f.shop) ≡ 0 → Given f ((on_shop m).creates row n f) ((on_shop m).fired row n f)
      port_given m none = no_more_given f ((on_shop m).fired row n f) ((on_shop m).creates row n f) none refl
