-- Each row of the floor of the tool opens only commands of new numbers; and behind a row that closes a command none of its number is open.
use Rattle.std.proofs.Common.{◌≡◌, ◌⊎◌, ◌<◌, ℕ, zero, suc, ◌+◌, ◌==◌, Bool, true, false, if◌then◌else◌, List, [], ◌∷◌, ◌++◌, Option, Some, None, inl, inr, refl, ◌∙◌, ap, arith}
use Rattle.gem_tables.specs.Table.{firing, row_of, after}
use Rattle.gem_tables.specs.declared.firing.Firing.{Firing}
use Rattle.floor_model.proofs.EachTable.{starts_cases}
use Rattle.gem_ids.specs.declared.numbers.LocId.{LocId}
use Rattle.gem_ids.specs.declared.numbers.LocId.TheVariants.{Slot}
use Rattle.gem_ids.specs.declared.numbers.PortNo.{PortNo}
use Rattle.gem_ids.specs.Names.{name_in_slot}
use Rattle.tool_tasks.specs.declared.task.Command.{Command}
use Rattle.tool_tasks.specs.declared.task.Task.{Task}
use Rattle.tool_tasks.specs.declared.task.Task.TheVariants as task
use Rattle.carrier.specs.declared.carrier.Carrier.{Carrier}
use Rattle.carrier.specs.Carriers.{carrier_numbered}
use Rattle.process_job.specs.Tables as effect
use Rattle.process_job.specs.Tables.{JobRow, JobEffect}
use Rattle.process_job.specs.declared.job.ProcessJob.{ProcessJob}
use Rattle.robot_moves.specs.declared.module.Module.{Module}
use Rattle.robot_moves.specs.declared.module.Module.TheVariants.{Idle, Busy, Down}
use Rattle.robot_moves.specs.declared.module.ModuleState.{ModuleState}
use Rattle.robot_moves.specs.declared.module.ModuleState.TheVariants as state
use Rattle.robot_moves.specs.declared.view.Move.{Move}
use Rattle.robot_moves.specs.Tables as want
use Rattle.robot_moves.specs.Tables.{MoveRow, MoveEffect, move_table, state_number}
use Rattle.robot_moves.specs.Modules.{module_at, given, state_of}
use Rattle.shop_floor.specs.Owning.{owner_number}
use Rattle.substrate.specs.Tables as substrates
use Rattle.substrate.specs.Tables.{SubstrateRow, SubstrateEffect}
use Rattle.substrate.specs.Places.{registered}
use Rattle.substrate.specs.declared.record.Processing.{Processing}
use Rattle.floor_model.specs.declared.tracked.Substrate.{Substrate}
use Rattle.floor_model.specs.Floor.{ToolFloor, with_module}
use Rattle.floor_model.specs.Jobs.{job_does, found_job_does, frees, stops_carriers, gets_members}
use Rattle.floor_model.specs.Modules.{in_state, module_behind, command, issued, open_task, aligned_by, stepped_by, move_does, found_move}
use Rattle.floor_model.specs.Machines.{floor_starts, floor_fired, taken_along, registered_by, moved_by}
use Rattle.floor_model.specs.Substrates.{can_register, first_substrate, registers_at, registers_slot, registers_slots, registers_at_port, registers_found, reaches_verified, without_carrier, substrate_does, found_does}
use Rattle.floor_model.specs.Views.{planned}
use Rattle.floor_laws.proofs.OpenCommands.{Opens, opens_same, opens_then, change_opens}

-- the modules and the last number of a command are those of before
record Quiet (f g : ToolFloor) : Type 0 where
  modules : g.modules ≡ f.modules
  commands : g.commands ≡ f.commands

quiet_same : (f : ToolFloor) → Quiet f f
quiet_same f = record { modules = refl; commands = refl }

quiet_then : (f g h : ToolFloor) → Quiet f g → Quiet g h → Quiet f h
quiet_then f g h a b = record { modules = b.modules ∙ a.modules; commands = b.commands ∙ a.commands }

-- ---- rows that leave the modules

-- a carrier that goes
without_quiet : (o : Option ℕ) (f : ToolFloor) → Quiet f (without_carrier o f)
without_quiet None f = quiet_same f
without_quiet (Some c) f = record { modules = refl; commands = refl }

along_quiet : (row port : ℕ) (f : ToolFloor) → Quiet f (taken_along row port f)
along_quiet row port f = of (row == 6) where
  of : (b : Bool) → Quiet f (if b then without_carrier (owner_number port f.shop) f else f)
  of true = without_quiet (owner_number port f.shop) f
  of false = quiet_same f

-- registration
one_quiet : (sub : List ℕ) (carrier : ℕ) (loc : LocId) (f : ToolFloor) → Quiet f (registers_at sub carrier loc f)
one_quiet sub carrier loc f = of (can_register sub loc f.places) where
  of : (b : Bool) → Quiet f (if b then record f { places = registered sub loc f.places; substrates = f.substrates ++ first_substrate (f.places.given + 1) sub carrier loc ∷ [] } else f)
  of true = record { modules = refl; commands = refl }
  of false = quiet_same f

slot_quiet : (c : Carrier) (port : PortNo) (k code : ℕ) (f : ToolFloor) → Quiet f (registers_slot c port k code f)
slot_quiet c port k code f = of (code == 3) where
  of : (b : Bool) → Quiet f (if b then registers_at (name_in_slot c.name k) c.number (Slot port (record { 0 = k })) f else f)
  of true = one_quiet (name_in_slot c.name k) c.number (Slot port (record { 0 = k })) f
  of false = quiet_same f

slots_quiet : (c : Carrier) (port : PortNo) (k count : ℕ) (slots : List ℕ) (f : ToolFloor) → Quiet f (registers_slots c port k count slots f)
slots_quiet c port k zero slots f = quiet_same f
slots_quiet c port k (suc count) [] f = quiet_same f
slots_quiet c port k (suc count) (code ∷ slots) f =
    let g = registers_slot c port k code f in
    quiet_then f g (registers_slots c port (k + 1) count slots g) (slot_quiet c port k code f) (slots_quiet c port (k + 1) count slots g)

port_quiet : (o : Option PortNo) (c : Carrier) (f : ToolFloor) → Quiet f (registers_at_port o c f)
port_quiet None c f = quiet_same f
port_quiet (Some port) c f = slots_quiet c port 1 25 c.map f

found_quiet : (o : Option Carrier) (f : ToolFloor) → Quiet f (registers_found o f)
found_quiet None f = quiet_same f
found_quiet (Some c) f = port_quiet c.port c f

by_quiet : (row carrier : ℕ) (f : ToolFloor) → Quiet f (registered_by row carrier f)
by_quiet row carrier f = of (reaches_verified row) where
  of : (b : Bool) → Quiet f (if b then registers_found (carrier_numbered carrier f.shop.carriers) f else f)
  of true = found_quiet (carrier_numbered carrier f.shop.carriers) f
  of false = quiet_same f

-- processing
substrate_quiet : (e : SubstrateEffect) (o : Option Substrate) (f : ToolFloor) → Quiet f (substrate_does e o f)
substrate_quiet substrates.no_more o f = quiet_same f
substrate_quiet substrates.loses_place o f = record { modules = refl; commands = refl }

does_quiet : (r : Option (SubstrateRow Processing)) (o : Option Substrate) (f : ToolFloor) → Quiet f (found_does r o f)
does_quiet None o f = quiet_same f
does_quiet (Some r) o f = substrate_quiet r.does o f

-- process jobs
frees_quiet : (o : Option ProcessJob) (f : ToolFloor) → Quiet f (frees o f)
frees_quiet None f = quiet_same f
frees_quiet (Some j) f = record { modules = refl; commands = refl }

stops_quiet : (o : Option ProcessJob) (f : ToolFloor) → Quiet f (stops_carriers o f)
stops_quiet None f = quiet_same f
stops_quiet (Some j) f = record { modules = refl; commands = refl }

gets_quiet : (o : Option ProcessJob) (f : ToolFloor) → Quiet f (gets_members o f)
gets_quiet None f = quiet_same f
gets_quiet (Some j) f = record { modules = refl; commands = refl }

effect_quiet : (e : JobEffect) (o : Option ProcessJob) (f : ToolFloor) → Quiet f (job_does e o f)
effect_quiet effect.no_more o f = quiet_same f
effect_quiet effect.makes_members o f = gets_quiet o f
effect_quiet effect.ends o f = frees_quiet o f
effect_quiet effect.ends_stopped o f = quiet_then f (frees o f) (stops_carriers o (frees o f)) (frees_quiet o f) (stops_quiet o (frees o f))

job_quiet : (r : Option JobRow) (o : Option ProcessJob) (f : ToolFloor) → Quiet f (found_job_does r o f)
job_quiet None o f = quiet_same f
job_quiet (Some r) o f = effect_quiet r.does o f

-- ---- rows of modules

aligned_quiet : (t : Option Task) (f : ToolFloor) → Quiet f (aligned_by t f)
aligned_quiet None f = quiet_same f
aligned_quiet (Some (task.Pick sub from)) f = quiet_same f
aligned_quiet (Some (task.Place sub to)) f = quiet_same f
aligned_quiet (Some (task.Align sub)) f = record { modules = refl; commands = refl }
aligned_quiet (Some (task.Process sub recipe)) f = quiet_same f

stepped_quiet : (t : Option Task) (f : ToolFloor) → Quiet f (stepped_by t f)
stepped_quiet None f = quiet_same f
stepped_quiet (Some (task.Pick sub from)) f = quiet_same f
stepped_quiet (Some (task.Place sub to)) f = quiet_same f
stepped_quiet (Some (task.Align sub)) f = quiet_same f
stepped_quiet (Some (task.Process sub recipe)) f = record { modules = refl; commands = refl }

as_opens : (f g : ToolFloor) → Quiet f g → Opens f g
as_opens f g q = opens_same f g q.modules q.commands

-- a command that is issued has a new number
issued_opens : (m : ℕ) (o : Option Move) (f : ToolFloor) → Opens f (issued m o f)
issued_opens m None f = opens_same f f refl refl
issued_opens m (Some move) f = change_opens f (issued m (Some move) f) m (given (command (f.commands + 1) move.task)) (omega arith) refl one where
  one : (x : Module) (c : Command) (b : Bool) → given (command (f.commands + 1) move.task) x ≡ Busy c b → ((b' : Bool) × (x ≡ Busy c b')) ⊎ (f.commands < c.number.0)
  one Idle c b e =
      let same : command (f.commands + 1) move.task ≡ c = cc in
      inr (let number : f.commands + 1 ≡ c.number.0 = ap (λ (k : Command). k.number.0) same in omega (arith, number))
  one (Busy d was) c b e = inl (b, e)
  one Down c b e = absurd (cc)

effect_opens : (e : MoveEffect) (m : ℕ) (o : Option Move) (f : ToolFloor) → Opens f (move_does e m o f)
effect_opens want.no_more m o f = opens_same f f refl refl
effect_opens want.issues_place m o f = issued_opens m o f
effect_opens want.issues_pick m o f = issued_opens m o f
effect_opens want.issues_align m o f = issued_opens m o f
effect_opens want.issues_process m o f = issued_opens m o f
effect_opens want.moves m o f = opens_same f _ refl refl
effect_opens want.aligns m o f = as_opens f _ (aligned_quiet (open_task (module_at m f.modules)) f)
effect_opens want.steps m o f = as_opens f _ (stepped_quiet (open_task (module_at m f.modules)) f)
effect_opens want.closes m o f = opens_same f f refl refl
effect_opens want.clears_alarm m o f = opens_same f f refl refl

move_opens : (r : Option MoveRow) (m : ℕ) (o : Option Move) (f : ToolFloor) → Opens f (found_move r m o f)
move_opens None m o f = opens_same f f refl refl
move_opens (Some r) m o f = effect_opens r.does m o f

-- a state that a module is in then opens nothing
state_opens : (x : ModuleState) (y : Module) (c : Command) (b : Bool) → in_state x y ≡ Busy c b → y ≡ Busy c b
state_opens state.Busy y c b e = e
state_opens _ y c b e = absurd (cc)

moved_opens : (row m : ℕ) (f : ToolFloor) → Opens f (moved_by row m f)
moved_opens row m f =
    let g = found_move (row_of move_table row) m (planned m f) f in
    opens_then f g (with_module m (module_behind row) g) (move_opens (row_of move_table row) m (planned m f) f)
    (change_opens g (with_module m (module_behind row) g) m (module_behind row) (omega arith) refl (λ x c b e. inl (b, state_opens (after state_number move_table row (state_of x)) x c b e)))

-- ---- each row

pub row_opens : (x : Firing) (f : ToolFloor) → floor_starts x f ≡ true → Opens f (floor_fired x f)
row_opens x f starts =
    starts_cases (λ (y : Firing). Opens f (floor_fired y f)) f x (record {
      transfer = λ s. opens_same f _ refl refl;
      access = λ s. opens_same f _ refl refl;
      reservation = λ s. opens_same f _ refl refl;
      association = λ s. (let q = along_quiet x.row.row x.object f in opens_same f (floor_fired (firing 7 x.object x.row.row) f) q.modules q.commands);
      id = λ s. opens_same f _ refl refl;
      map = λ s. (let q = by_quiet x.row.row x.object f in opens_same f (floor_fired (firing 9 x.object x.row.row) f) q.modules q.commands);
      accessing = λ s. opens_same f _ refl refl;
      location = λ s. opens_same f _ refl refl;
      transport = λ s. opens_same f _ refl refl;
      processing = λ s. (let q = does_quiet _ _ f in opens_same f (floor_fired (firing 13 x.object x.row.row) f) q.modules q.commands);
      process_job = λ s. (let q = job_quiet _ _ f in opens_same f (floor_fired (firing 14 x.object x.row.row) f) q.modules q.commands);
      control_job = λ s. opens_same f _ refl refl;
      move = λ s. moved_opens x.row.row x.object f;
    }) starts
