-- What the tool has for its process jobs stays, whatever row fires.
use Rattle.std.proofs.Common.{◌≡◌, ◌≤◌, ℕ, zero, suc, ◌+◌, ◌==◌, nat_lt, Bool, true, false, not, ◌&&◌, if◌then◌else◌, List, [], ◌∷◌, ◌++◌, length, min, Option, Some, None, refl, sym, ◌∙◌, ap, subst, arith}
use Rattle.std.specs.List.{AllByRecursion}
use Rattle.std.proofs.lemmas.List.{length-replicate}
use Rattle.gem_tables.specs.Table.{row_of}
use Rattle.gem_tables.specs.declared.firing.Firing.{Firing}
use Rattle.floor_model.proofs.EachTable.{either_creates}
use Rattle.gem_ids.specs.declared.numbers.LocId.{LocId}
use Rattle.gem_ids.specs.declared.numbers.LocId.TheVariants.{Slot, Arm}
use Rattle.gem_ids.specs.declared.numbers.PortNo.{PortNo}
use Rattle.gem_ids.specs.Names.{name_in_slot}
use Rattle.tool_tasks.specs.declared.task.Task.{Task}
use Rattle.tool_tasks.specs.declared.task.Task.TheVariants as task
use Rattle.tool_tasks.specs.declared.recipes.Recipe.{Recipe}
use Rattle.carrier.specs.declared.carrier.Carrier.{Carrier}
use Rattle.carrier.specs.Carriers.{carrier_numbered}
use Rattle.process_job.specs.Creating.{is_recipe, is_some_material, create_fault}
use Rattle.process_job.specs.Jobs.{is_known, most_jobs, has_number, change_numbered, without_numbered, fires_row, fired, with_created, created, job_numbered}
use Rattle.process_job.specs.Tables as effect
use Rattle.process_job.specs.Tables.{JobRow, JobEffect, job_table}
use Rattle.process_job.specs.declared.fault.JobFault.{JobFault}
use Rattle.process_job.specs.declared.fault.JobFault.TheVariants.{NameTaken, NoRecipe, NoMaterial, NoSpace}
use Rattle.process_job.specs.declared.job.JobSpec.{JobSpec}
use Rattle.process_job.specs.declared.job.ProcessJob.{ProcessJob}
use Rattle.control_job.specs.Jobs.{JobStore}
use Rattle.robot_moves.specs.Modules.{taken, given}
use Rattle.robot_moves.specs.Tables as want
use Rattle.robot_moves.specs.Tables.{MoveRow, MoveEffect, move_table}
use Rattle.robot_moves.specs.declared.module.Module.{Module}
use Rattle.robot_moves.specs.declared.module.Module.TheVariants.{Idle}
use Rattle.robot_moves.specs.declared.view.Move.{Move}
use Rattle.robot_moves.specs.Modules.{module_at}
use Rattle.shop_floor.specs.Floor.{Floor}
use Rattle.shop_floor.proofs.Apart.{all_pushed}
use Rattle.shop_floor.specs.Owning.{owner_number}
use Rattle.shop_floor.specs.Machines as shop
use Rattle.substrate.specs.Locations.{is_location}
use Rattle.substrate.specs.Places.{PlaceMap, registered, moved, can_shift}
use Rattle.substrate.specs.Tables as place
use Rattle.substrate.specs.Tables.{SubstrateRow, SubstrateEffect, processing_table}
use Rattle.substrate.specs.declared.record.Processing.{Processing}
use Rattle.tool_jobs.specs.Jobs.{Jobs}
use Rattle.tool_jobs.specs.Rows.{process_does, found_does as jobs_behind, process_fired, control_fired}
use Rattle.floor_model.specs.declared.tracked.Substrate.{Substrate}
use Rattle.floor_model.specs.Floor.{ToolFloor, opening, with_shop, with_jobs, with_module, fetched, substrate_numbered}
use Rattle.floor_model.specs.Jobs.{job_does, found_job_does}
use Rattle.floor_model.specs.Machines.{taken_along, registered_by, with_moved, floor_fired}
use Rattle.floor_model.specs.Modules.{command, issued, goes, transferred, open_task, aligned_by, stepped_by, module_behind, move_does, found_move}
use Rattle.floor_model.specs.Substrates.{can_register, first_substrate, registers_at, registers_slot, registers_slots, registers_at_port, registers_found, reaches_verified, without_carrier, substrate_does, found_does}
use Rattle.floor_model.specs.Views.{planned}
use Rattle.floor_laws.proofs.IssueSound.{changed_many}
use Rattle.floor_laws.proofs.RemPlaces.{removed_chambers}
use Rattle.tool_events.specs.Configs.{are_usable}
use Rattle.work_laws.specs.Equipped.{HasRecipe, most_chambers, Equipped}

-- each of these process jobs has one of these recipes
abbrev AreKnown : List Recipe → List ProcessJob → Type 0
AreKnown rs js = AllByRecursion (HasRecipe rs) js

-- the modules are as many, and the chambers and the recipes the same; where the recipe of each process job that was kept is one of some
-- recipes, so is that of each that is kept now
pub record Stays (f h : ToolFloor) : Type 0 where
  pub modules : length h.modules ≡ length f.modules
  pub chambers : h.places.chambers ≡ f.places.chambers
  pub recipes : h.jobs.process.recipes ≡ f.jobs.process.recipes
  pub jobs : (rs : List Recipe) → AllByRecursion (HasRecipe rs) f.jobs.process.kept → AllByRecursion (HasRecipe rs) h.jobs.process.kept

itself : (f : ToolFloor) → Stays f f
itself f = record { modules = refl; chambers = refl; recipes = refl; jobs = λ rs all. all }

in_turn : (f g h : ToolFloor) → Stays f g → Stays g h → Stays f h
in_turn f g h a b = record {
  modules = b.modules ∙ a.modules;
  chambers = b.chambers ∙ a.chambers;
  recipes = b.recipes ∙ a.recipes;
  jobs = λ rs all. b.jobs rs (a.jobs rs all);
}

either : (b : Bool) (f x y : ToolFloor) → Stays f x → Stays f y → Stays f (if b then x else y)
either true f x y at_x at_y = at_x
either false f x y at_x at_y = at_y

-- the load ports and the carriers are others then
with_others : (f h : ToolFloor) (s : Floor) → Stays f h → Stays f (with_shop s h)
with_others f h s st = record { modules = st.modules; chambers = st.chambers; recipes = st.recipes; jobs = st.jobs }

-- a module changes
module_changed : (f h : ToolFloor) (number : ℕ) (change : Module → Module) → Stays f h → Stays f (with_module number change h)
module_changed f h number change st = record { modules = changed_many number change h.modules ∙ st.modules; chambers = st.chambers; recipes = st.recipes; jobs = st.jobs }

-- ---- carriers that come and go

removed_along : (o : Option ℕ) (f : ToolFloor) → Stays f (without_carrier o f)
removed_along None f = itself f
removed_along (Some c) f = record { modules = refl; chambers = removed_chambers c f.substrates f.places; recipes = refl; jobs = λ rs all. all }

along : (row port : ℕ) (f : ToolFloor) → Stays f (taken_along row port f)
along row port f = either (row == 6) f (without_carrier (owner_number port f.shop) f) f (removed_along (owner_number port f.shop) f) (itself f)

one_more : (sub : List ℕ) (carrier : ℕ) (loc : LocId) (f : ToolFloor) → Stays f (registers_at sub carrier loc f)
one_more sub carrier loc f =
    either (can_register sub loc f.places) f
    (record f { places = registered sub loc f.places; substrates = f.substrates ++ first_substrate (f.places.given + 1) sub carrier loc ∷ [] }) f
    (record { modules = refl; chambers = refl; recipes = refl; jobs = λ rs all. all }) (itself f)

slot_more : (c : Carrier) (port : PortNo) (slot code : ℕ) (f : ToolFloor) → Stays f (registers_slot c port slot code f)
slot_more c port slot code f =
    either (code == 3) f (registers_at (name_in_slot c.name slot) c.number (Slot port (record { 0 = slot })) f) f
    (one_more (name_in_slot c.name slot) c.number (Slot port (record { 0 = slot })) f) (itself f)

slots_more : (c : Carrier) (port : PortNo) (slot count : ℕ) (slots : List ℕ) (f : ToolFloor) → Stays f (registers_slots c port slot count slots f)
slots_more c port slot zero slots f = itself f
slots_more c port slot (suc count) [] f = itself f
slots_more c port slot (suc count) (code ∷ slots) f =
    in_turn f (registers_slot c port slot code f) (registers_slots c port (slot + 1) count slots (registers_slot c port slot code f))
    (slot_more c port slot code f) (slots_more c port (slot + 1) count slots (registers_slot c port slot code f))

port_more : (o : Option PortNo) (c : Carrier) (f : ToolFloor) → Stays f (registers_at_port o c f)
port_more None c f = itself f
port_more (Some port) c f = slots_more c port 1 25 c.map f

found_more : (o : Option Carrier) (f : ToolFloor) → Stays f (registers_found o f)
found_more None f = itself f
found_more (Some c) f = port_more c.port c f

all_registered : (row carrier : ℕ) (f : ToolFloor) → Stays f (registered_by row carrier f)
all_registered row carrier f =
    either (reaches_verified row) f (registers_found (carrier_numbered carrier f.shop.carriers) f) f (found_more (carrier_numbered carrier f.shop.carriers) f) (itself f)

-- ---- substrates

lost_where : (o : Option Substrate) (e : SubstrateEffect) (f : ToolFloor) → Stays f (substrate_does e o f)
lost_where o place.no_more f = itself f
lost_where None place.loses_place f = itself f
lost_where (Some s) place.loses_place f = record { modules = refl; chambers = refl; recipes = refl; jobs = λ rs all. all }

lost_found : (r : Option (SubstrateRow Processing)) (o : Option Substrate) (f : ToolFloor) → Stays f (found_does r o f)
lost_found None o f = itself f
lost_found (Some r) o f = lost_where o r.does f

states_moved : (f h : ToolFloor) (table row n : ℕ) → Stays f h → Stays f (with_moved table row n h)
states_moved f h table row n st = record { modules = st.modules; chambers = st.chambers; recipes = st.recipes; jobs = st.jobs }

-- ---- process jobs

-- a row fires at one
known_fired : (rs : List Recipe) (n row : ℕ) (js : List ProcessJob) → AreKnown rs js → AreKnown rs (change_numbered n (fires_row row) js)
known_fired rs n row [] all = tt
known_fired rs n row (j ∷ js) all = of (has_number n j) (known_fired rs n row js all.1) where
  of : (b : Bool) → AreKnown rs (change_numbered n (fires_row row) js) → AreKnown rs (if b then fires_row row j ∷ js else j ∷ change_numbered n (fires_row row) js)
  of true later = (all.0, all.1)
  of false later = (all.0, later)

-- one is forgotten
known_fewer : (rs : List Recipe) (n : ℕ) (js : List ProcessJob) → AreKnown rs js → AreKnown rs (without_numbered n js)
known_fewer rs n [] all = tt
known_fewer rs n (j ∷ js) all = of (has_number n j) (known_fewer rs n js all.1) where
  of : (b : Bool) → AreKnown rs (without_numbered n js) → AreKnown rs (if b then js else j ∷ without_numbered n js)
  of true later = all.1
  of false later = (all.0, later)

-- the recipes are the same, and each job that is kept has one of those that the jobs before it had
record JobsStay (w u : Jobs) : Type 0 where
  recipes : u.process.recipes ≡ w.process.recipes
  jobs : (rs : List Recipe) → AllByRecursion (HasRecipe rs) w.process.kept → AllByRecursion (HasRecipe rs) u.process.kept

jobs_fired : (row n : ℕ) (w : Jobs) → JobsStay w (process_fired row n w)
jobs_fired row n w = of (row_of job_table row) where
  does : (e : JobEffect) → JobsStay w (process_does e n (record w { process = fired n row w.process }))
  does effect.no_more = record { recipes = refl; jobs = λ rs all. known_fired rs n row w.process.kept all }
  does effect.makes_members = record { recipes = refl; jobs = λ rs all. known_fired rs n row w.process.kept all }
  does effect.ends = record { recipes = refl; jobs = λ rs all. known_fewer rs n (change_numbered n (fires_row row) w.process.kept) (known_fired rs n row w.process.kept all) }
  does effect.ends_stopped = record { recipes = refl; jobs = λ rs all. known_fewer rs n (change_numbered n (fires_row row) w.process.kept) (known_fired rs n row w.process.kept all) }

  of : (o : Option JobRow) → JobsStay w (jobs_behind o n (record w { process = fired n row w.process }))
  of None = record { recipes = refl; jobs = λ rs all. known_fired rs n row w.process.kept all }
  of (Some r) = does r.does

-- members join and are freed, and carriers are marked
members_change : (e : JobEffect) (o : Option ProcessJob) (f : ToolFloor) → Stays f (job_does e o f)
members_change effect.no_more o f = itself f
members_change effect.makes_members None f = itself f
members_change effect.makes_members (Some j) f = record { modules = refl; chambers = refl; recipes = refl; jobs = λ rs all. all }
members_change effect.ends None f = itself f
members_change effect.ends (Some j) f = record { modules = refl; chambers = refl; recipes = refl; jobs = λ rs all. all }
members_change effect.ends_stopped None f = itself f
members_change effect.ends_stopped (Some j) f = record { modules = refl; chambers = refl; recipes = refl; jobs = λ rs all. all }

members_found : (r : Option JobRow) (o : Option ProcessJob) (f : ToolFloor) → Stays f (found_job_does r o f)
members_found None o f = itself f
members_found (Some r) o f = members_change r.does o f

with_these : (f h : ToolFloor) (w : Jobs) → Stays f h → JobsStay f.jobs w → Stays f (with_jobs w h)
with_these f h w st jobs = record { modules = st.modules; chambers = st.chambers; recipes = jobs.recipes; jobs = jobs.jobs }

-- ---- modules

given_where : (number : ℕ) (o : Option Move) (f : ToolFloor) → Stays f (issued number o f)
given_where number None f = itself f
given_where number (Some m) f = record { modules = changed_many number (given (command (f.commands + 1) m.task)) f.modules; chambers = refl; recipes = refl; jobs = λ rs all. all }

goes_within : (sub : List ℕ) (from to : LocId) (p : PlaceMap) → (goes sub from to p).chambers ≡ p.chambers
goes_within sub from to p = of (is_location p.ports p.chambers from && is_location p.ports p.chambers to) (can_shift sub from to p.held) where
  of : (a b : Bool) → (if a then (if b then record p { held = moved sub to p.held } else p) else p).chambers ≡ p.chambers
  of true true = refl
  of true false = refl
  of false b = refl

moved_within : (o : Option Task) (p : PlaceMap) → (transferred o p).chambers ≡ p.chambers
moved_within None p = refl
moved_within (Some (task.Pick sub from)) p = goes_within sub from Arm p
moved_within (Some (task.Place sub to)) p = goes_within sub Arm to p
moved_within (Some (task.Align sub)) p = refl
moved_within (Some (task.Process sub recipe)) p = refl

aligned_where : (o : Option Task) (f : ToolFloor) → Stays f (aligned_by o f)
aligned_where None f = itself f
aligned_where (Some (task.Pick sub from)) f = itself f
aligned_where (Some (task.Place sub to)) f = itself f
aligned_where (Some (task.Align sub)) f = record { modules = refl; chambers = refl; recipes = refl; jobs = λ rs all. all }
aligned_where (Some (task.Process sub recipe)) f = itself f

stepped_where : (o : Option Task) (f : ToolFloor) → Stays f (stepped_by o f)
stepped_where None f = itself f
stepped_where (Some (task.Pick sub from)) f = itself f
stepped_where (Some (task.Place sub to)) f = itself f
stepped_where (Some (task.Align sub)) f = itself f
stepped_where (Some (task.Process sub recipe)) f = record { modules = refl; chambers = refl; recipes = refl; jobs = λ rs all. all }

move_done : (e : MoveEffect) (number : ℕ) (plan : Option Move) (f : ToolFloor) → Stays f (move_does e number plan f)
move_done want.no_more number plan f = itself f
move_done want.issues_place number plan f = given_where number plan f
move_done want.issues_pick number plan f = given_where number plan f
move_done want.issues_align number plan f = given_where number plan f
move_done want.issues_process number plan f = given_where number plan f
move_done want.moves number plan f = record { modules = refl; chambers = moved_within (open_task (module_at number f.modules)) f.places; recipes = refl; jobs = λ rs all. all }
move_done want.aligns number plan f = aligned_where (open_task (module_at number f.modules)) f
move_done want.steps number plan f = stepped_where (open_task (module_at number f.modules)) f
move_done want.closes number plan f = itself f
move_done want.clears_alarm number plan f = itself f

move_found : (o : Option MoveRow) (number : ℕ) (plan : Option Move) (f : ToolFloor) → Stays f (found_move o number plan f)
move_found None number plan f = itself f
move_found (Some r) number plan f = move_done r.does number plan f

-- ---- all rows

row_stays : (x : Firing) (f : ToolFloor) → Stays f (floor_fired x f)
row_stays x f =
    either_creates (λ (fs : List Firing) (h : ToolFloor). Stays f h) f x (itself f) (record {
      transfer = with_others f f (shop.transfer_machine.fired x.row.row x.object f.shop) (itself f);
      access = with_others f f (shop.access_machine.fired x.row.row x.object f.shop) (itself f);
      reservation = with_others f f (shop.reservation_machine.fired x.row.row x.object f.shop) (itself f);
      association = with_others f (taken_along x.row.row x.object f) (shop.association_machine.fired x.row.row x.object f.shop) (along x.row.row x.object f);
      id = with_others f f (shop.id_machine.fired x.row.row x.object f.shop) (itself f);
      map = with_others f (registered_by x.row.row x.object f) (shop.map_machine.fired x.row.row x.object f.shop) (all_registered x.row.row x.object f);
      accessing = with_others f f (shop.accessing_machine.fired x.row.row x.object f.shop) (itself f);
      location = record { modules = refl; chambers = refl; recipes = refl; jobs = λ rs all. all };
      transport = states_moved f f 12 x.row.row x.object (itself f);
      processing = states_moved f (found_does (row_of processing_table x.row.row) (substrate_numbered x.object f.substrates) f) 13 x.row.row x.object (lost_found (row_of processing_table x.row.row) (substrate_numbered x.object f.substrates) f);
      process_job = with_these f (found_job_does (row_of job_table x.row.row) (job_numbered x.object f.jobs.process.kept) f) (process_fired x.row.row x.object f.jobs) (members_found (row_of job_table x.row.row) (job_numbered x.object f.jobs.process.kept) f) (jobs_fired x.row.row x.object f.jobs);
      control_job = with_these f f (control_fired x.row.row x.object f.jobs) (itself f) (record { recipes = refl; jobs = λ rs all. all });
      move = module_changed f (found_move (row_of move_table x.row.row) x.object (planned x.object f) f) x.object (module_behind x.row.row) (move_found (row_of move_table x.row.row) x.object (planned x.object f) f);
    })

-- ---- what the tool has

stays_equipped : (f h : ToolFloor) → Stays f h → Equipped f → Equipped h
stays_equipped f h st e = record {
  modules = st.modules ∙ e.modules ∙ ap (λ (n : ℕ). 2 + n) (sym st.chambers);
  recipes = ap (λ (n : ℕ). are_usable n h.jobs.process.recipes) st.chambers ∙ ap (are_usable f.places.chambers) st.recipes ∙ e.recipes;
  jobs = subst (λ (rs : List Recipe). AllByRecursion (HasRecipe rs) h.jobs.process.kept) (sym st.recipes) (st.jobs f.jobs.process.recipes e.jobs);
}

-- a row keeps it
pub row_equipped : (x : Firing) (f : ToolFloor) → Equipped f → Equipped (floor_fired x f)
row_equipped x f e = stays_equipped f (floor_fired x f) (row_stays x f) e

-- so does what is fetched
pub fetched_equipped : (number : ℕ) (f : ToolFloor) → Equipped f → Equipped (fetched number f)
fetched_equipped number f e = stays_equipped f (fetched number f) (module_changed f f number taken (itself f)) e

-- what becomes of load ports and carriers
pub shop_equipped : (s : Floor) (f : ToolFloor) → Equipped f → Equipped (with_shop s f)
shop_equipped s f e = stays_equipped f (with_shop s f) (with_others f f s (itself f)) e

-- and what becomes of control jobs
pub control_equipped : (f : ToolFloor) (s : JobStore) → Equipped f → Equipped (with_jobs (record f.jobs { control = s }) f)
control_equipped f s e = stays_equipped f (with_jobs (record f.jobs { control = s }) f) (with_these f f (record f.jobs { control = s }) (itself f) (record { recipes = refl; jobs = λ rs all. all })) e

-- ---- a process job that is created

-- the recipe of one against which no fault stands is one of the tool's
creates_known : (known recipe : Bool) (later : Option JobFault) → (if known then Some NameTaken else (if not recipe then Some NoRecipe else later)) ≡ None → recipe ≡ true
creates_known true recipe later e = absurd (cc)
creates_known false true later e = refl
creates_known false false later e = absurd (cc)

pub created_equipped : (f : ToolFloor) (j : JobSpec) → create_fault j f.jobs.process ≡ None → Equipped f → Equipped (with_jobs (record f.jobs { process = with_created j f.jobs.process }) f)
created_equipped f j none e = record {
  modules = e.modules;
  recipes = e.recipes;
  jobs = all_pushed (HasRecipe f.jobs.process.recipes) f.jobs.process.kept (created (f.jobs.process.given + 1) j) e.jobs
      (creates_known (is_known j.id f.jobs.process.kept) (is_recipe j.recipe f.jobs.process.recipes)
      (if not (is_some_material j.material) then Some NoMaterial else (if nat_lt (length f.jobs.process.kept) most_jobs then None else Some (NoSpace most_jobs))) none);
}

-- ---- the beginning

least_of : (n : ℕ) → n ≤ most_chambers → min n 253 ≡ n
least_of n few = grind (arith)

pub opening_equipped : (ports chambers : ℕ) (recipes : List Recipe) → chambers ≤ most_chambers → are_usable chambers recipes ≡ true → Equipped (opening ports chambers recipes)
opening_equipped ports chambers recipes few usable = record {
  modules = length-replicate (2 + min chambers 253) Idle ∙ ap (λ (n : ℕ). 2 + n) (least_of chambers few);
  recipes = usable;
  jobs = tt;
}
