-- What rows of the floor of the tool do, and what they keep.
use Rattle.std.proofs.Common.{◌≡◌, ℕ, zero, suc, ◌+◌, ◌<◌, ◌==◌, Bool, true, false, ◌&&◌, if◌then◌else◌, List, [], ◌∷◌, ◌++◌, length, drop, replicate, Option, Some, None, slice_get, is_some, refl, sym, ◌∙◌, ap, subst, arith}
use Rattle.std.specs.Option.{option_or}
use Rattle.std.specs.List.{AllByRecursion}
use Rattle.std.proofs.lemmas.Bool.Decides.{nat_tests}
use Rattle.gem_tables.specs.Machine.{Machine}
use Rattle.gem_tables.specs.Table.{firing, is_one_of, row_of}
use Rattle.gem_tables.proofs.Rows.{one_of_cases, ready_may_fire, looked_for}
use Rattle.gem_tables.proofs.Machines.{none_ready}
use Rattle.gem_tables.specs.declared.firing.Firing.{Firing}
use Rattle.carrier.specs.declared.carrier.Carrier.{Carrier}
use Rattle.carrier.specs.Tables.{access_number, accessing_table}
use Rattle.carrier.specs.Carriers.{carrier_numbered}
use Rattle.robot_moves.specs.Modules.{module_at, first_modules, state_of}
use Rattle.shop_floor.specs.Floor.{Floor}
use Rattle.shop_floor.specs.Machines.{floor_starts as shop_starts, floor_fired as shop_fired, creation_rows as shop_creations}
use Rattle.shop_floor.specs.Valid.{IsFloor}
use Rattle.shop_floor.proofs.Starts.{all_start as shop_all_start}
use Rattle.shop_floor.proofs.Keeps.{row-keeps as shop_keeps, accessing-keeps}
use Rattle.shop_floor.proofs.Creations as made
use Rattle.shop_floor.proofs.Quiet.{opening_quiet as shop_quiet}
use Rattle.substrate.specs.Board.{spot_count}
use Rattle.substrate.specs.Places.{no_places}
use Rattle.substrate.specs.Record.{first_location}
use Rattle.substrate.specs.Tables.{SubstrateRow, occupancy_number, occupancy_table, transport_number, transport_table, processing_number, processing_table}
use Rattle.substrate.specs.declared.record.LocationRecord.{LocationRecord}
use Rattle.substrate.specs.declared.record.SubstrateRecord.{SubstrateRecord}
use Rattle.floor_model.specs.declared.tracked.Substrate.{Substrate}
use Rattle.floor_model.specs.Floor.{ToolFloor, opening, with_shop, location_at, location_numbers, substrate_numbered, change_numbered}
use Rattle.floor_model.specs.Wants.{accessing_wants, location_wants, substrate_wants}
use Rattle.floor_model.specs.Substrates.{registration_rows, new_rows, found_does}
use Rattle.floor_model.specs.Jobs.{found_sight, is_first_here, process_behind}
use Rattle.process_job.specs.Tables.{job_table}
use Rattle.process_job.specs.Jobs.{job_numbered as process_numbered}
use Rattle.control_job.specs.Jobs.{job_numbered as control_numbered}
use Rattle.tool_jobs.proofs.Falls.{process_ready_starts, control_ready_starts}
use Rattle.floor_model.proofs.Marks.{found_valid}
use Rattle.floor_model.specs.Machines.{taken_along, registered_by, accessing_starts, accessing_ready, location_starts, location_ready, substrate_starts, substrate_ready, substrate_moves, floor_starts, floor_fired, creation_rows, is_creation, floor_least, moved_by}
use Rattle.floor_model.proofs.Tables.{none_of, least_floor, first_location as first_ready_location, first_move}
use Rattle.floor_model.proofs.Moves.{none_to_move}
use Rattle.floor_model.proofs.EachTable.{EachTable, starts_cases, least_cases, either_creates}
use Rattle.floor_model.specs.Views.{planned}
use Rattle.floor_model.specs.Modules.{move_wants, move_starts, move_ready, issued, open_task, aligned_by, stepped_by, found_move}
use Rattle.tool_tasks.specs.declared.task.Task.{Task}
use Rattle.tool_tasks.specs.declared.recipes.Recipe.{Recipe}
use Rattle.tool_tasks.specs.declared.task.Task.TheVariants as task
use Rattle.robot_moves.specs.Tables.{MoveRow, move_table, state_number}
use Rattle.robot_moves.specs.declared.module.Module.{Module}
use Rattle.robot_moves.specs.declared.view.Move.{Move}
use Rattle.robot_moves.proofs.Giving.{nothing_moves}
use Rattle.substrate.specs.declared.record.Processing.{Processing}
use Rattle.floor_model.proofs.Registrations.{Registers, row_registered, drop_before}

-- ---- the least row

-- it is none of communication, control and notes
least_above : (f : ToolFloor) (x : Firing) → floor_least f ≡ Some x → is_one_of (1 ∷ 2 ∷ 3 ∷ []) x.row.table ≡ false
least_above f x e =
    least_cases (λ (y : Firing). is_one_of (1 ∷ 2 ∷ 3 ∷ []) y.row.table ≡ false) f x (record {
      transfer = λ _ _ _. refl;
      access = λ _ _ _. refl;
      reservation = λ _ _ _. refl;
      association = λ _ _ _. refl;
      id = λ _ _ _. refl;
      map = λ _ _ _. refl;
      accessing = λ _ _ _. refl;
      location = λ _ _ _. refl;
      transport = λ _ _ _. refl;
      processing = λ _ _ _. refl;
      process_job = λ _ _ _. refl;
      control_job = λ _ _ _. refl;
      move = λ _ _ _. refl;
    }) e

above_1 : (f : ToolFloor) (x : Firing) → floor_least f ≡ Some x → ((x.row.table == 1) ≡ false) × (is_one_of (2 ∷ 3 ∷ []) x.row.table ≡ false)
above_1 f x e = none_of 1 (2 ∷ 3 ∷ []) x.row.table (least_above f x e)

above_2 : (f : ToolFloor) (x : Firing) → floor_least f ≡ Some x → ((x.row.table == 2) ≡ false) × (is_one_of (3 ∷ []) x.row.table ≡ false)
above_2 f x e = none_of 2 (3 ∷ []) x.row.table (above_1 f x e).1

pub not_table_1 : (f : ToolFloor) (x : Firing) → floor_least f ≡ Some x → (x.row.table == 1) ≡ false
not_table_1 f x e = (above_1 f x e).0

pub not_table_2 : (f : ToolFloor) (x : Firing) → floor_least f ≡ Some x → (x.row.table == 2) ≡ false
not_table_2 f x e = (above_2 f x e).0

pub not_table_3 : (f : ToolFloor) (x : Firing) → floor_least f ≡ Some x → (x.row.table == 3) ≡ false
not_table_3 f x e = (none_of 3 [] x.row.table (above_2 f x e).1).0

-- ---- it starts

accessing_start : (f : ToolFloor) (row : ℕ) (o : Option Carrier) → accessing_ready o f ≡ Some row → accessing_starts row o f ≡ true
accessing_start f row None e = absurd (cc)
accessing_start f row (Some c) e = ready_may_fire access_number (λ want. accessing_wants want c f) accessing_table row c.states.access (refl, (refl, (refl, (refl, tt)))) e

location_start : (f : ToolFloor) (row number : ℕ) (o : Option LocationRecord) → location_ready number o f ≡ Some row → location_starts row number o f ≡ true
location_start f row number None e = absurd (cc)
location_start f row number (Some l) e = ready_may_fire occupancy_number (λ want. location_wants want number f.places) occupancy_table row l.occupancy (refl, (refl, tt)) e

module _ {S : Type 0} (number : S → ℕ) (rows : List (SubstrateRow S)) (state : SubstrateRecord → S) where
  substrate_start : (f : ToolFloor) (row : ℕ) (o : Option Substrate) → AllByRecursion (λ r. row_of rows r.number ≡ Some r) rows → substrate_ready number rows state o f ≡ Some row → substrate_starts number rows state row o f ≡ true
  substrate_start f row None apart e = absurd (cc)
  substrate_start f row (Some s) apart e = ready_may_fire number (λ want. substrate_wants want s f) rows row (state s.states) apart e

move_start : (f : ToolFloor) (row : ℕ) (plan : Option Move) (o : Option Module) → move_ready plan o ≡ Some row → move_starts row plan o ≡ true
move_start f row plan None e = absurd (cc)
move_start f row plan (Some m) e =
    ready_may_fire state_number (λ want. move_wants want plan m) move_table row (state_of m) (refl, (refl, (refl, (refl, (refl, (refl, (refl, (refl, (refl, (refl, tt)))))))))) e

all_start : (f : ToolFloor) → EachTable (λ (m : Machine ToolFloor). (object row : ℕ) → m.ready object f ≡ Some row → floor_starts (firing m.table object row) f ≡ true)
all_start f =
    let shop = shop_all_start f.shop in record {
      transfer = λ o r e. shop.transfer o r e;
      access = λ o r e. shop.access o r e;
      reservation = λ o r e. shop.reservation o r e;
      association = λ o r e. shop.association o r e;
      id = λ o r e. shop.id o r e;
      map = λ o r e. shop.map o r e;
      accessing = λ o r e. accessing_start f r (carrier_numbered o f.shop.carriers) e;
      location = λ o r e. location_start f r o (location_at o f.locations) e;
      transport = λ o r e. substrate_start transport_number transport_table (λ s. s.transport) f r (substrate_numbered o f.substrates) (refl, (refl, (refl, tt))) e;
      processing = λ o r e. substrate_start processing_number processing_table (λ s. s.processing) f r (substrate_numbered o f.substrates) (refl, (refl, (refl, (refl, (refl, (refl, (refl, (refl, tt)))))))) e;
      process_job = λ o r e. process_ready_starts (process_numbered o f.jobs.process.kept) r (found_sight (process_numbered o f.jobs.process.kept) f) f.jobs e;
      control_job = λ o r e. control_ready_starts (control_numbered o f.jobs.control.jobs) r (is_first_here o f) f.jobs e;
      move = λ o r e. move_start f r (planned o f) (module_at o f.modules) e;
    }

pub least_starts : (f : ToolFloor) (x : Firing) → floor_least f ≡ Some x → floor_starts x f ≡ true
least_starts f x e = least_cases (λ (y : Firing). floor_starts y f ≡ true) f x (all_start f) e

-- ---- what a row creates

and_both : (a b : Bool) → (a && b) ≡ true → (a ≡ true) × (b ≡ true)
and_both true b h = (refl, h)
and_both false b h = absurd (cc)

-- a row of a created object is row 1 of table 8, 12 or 13
pub creation_cases : (P : Firing → Type 0) (d : Firing) → is_creation d ≡ true → P (firing 8 d.object 1) → P (firing 12 d.object 1) → P (firing 13 d.object 1) → P d
creation_cases P d is at_8 at_12 at_13 =
    let parts = and_both (is_one_of (8 ∷ 12 ∷ 13 ∷ []) d.row.table) (d.row.row == 1) is in
    let row : 1 ≡ d.row.row = grind (arith, nat_tests, parts.1) in
    subst (λ (r : ℕ). P (firing d.row.table d.object r)) row
    (one_of_cases (λ (t : ℕ). P (firing t d.object 1)) (8 ∷ 12 ∷ 13 ∷ []) d.row.table (at_8, (at_12, (at_13, tt))) parts.0)

-- it is none of communication, control, notes and moves
pub creation_not : (n : ℕ) → is_one_of (8 ∷ 12 ∷ 13 ∷ []) n ≡ false → (d : Firing) → is_creation d ≡ true → (d.row.table == n) ≡ false
creation_not n other d is = of (d.row.table == n) refl where
  of : (b : Bool) → (d.row.table == n) ≡ b → b ≡ false
  of true same =
      let table : d.row.table ≡ n = grind (arith, nat_tests, same) in
      absurd (let clash : true ≡ false = sym (and_both (is_one_of (8 ∷ 12 ∷ 13 ∷ []) d.row.table) (d.row.row == 1) is).0 ∙ rw table other in cc)
  of false same = refl

same_all : (n : ℕ) (change : Substrate → Substrate) → ((s : Substrate) → change s ≡ s) → (ss : List Substrate) → change_numbered n change ss ≡ ss
same_all n change same [] = refl
same_all n change same (s ∷ ss) = of (s.number == n) (same_all n change same ss) where
  of : (b : Bool) → change_numbered n change ss ≡ ss → (if b then change s ∷ ss else s ∷ change_numbered n change ss) ≡ s ∷ ss
  of true later = ap (λ (x : Substrate). x ∷ ss) (same s)
  of false later = ap (λ (xs : List Substrate). s ∷ xs) later

-- it leaves all as it is
pub creation_same : (f : ToolFloor) (d : Firing) → is_creation d ≡ true → floor_fired d f ≡ f
creation_same f d is =
    creation_cases (λ (x : Firing). floor_fired x f ≡ f) d is (ap (λ (s : Floor). with_shop s f) (made.creation_same f.shop d.object))
    (ap (λ (ss : List Substrate). record f { substrates = ss }) (same_all d.object (substrate_moves 12 1) (λ s. refl) f.substrates))
    (ap (λ (ss : List Substrate). record f { substrates = ss }) (same_all d.object (substrate_moves 13 1) (λ s. refl) f.substrates))

-- and creates no other
pub creation_last : (f : ToolFloor) (d : Firing) → is_creation d ≡ true → creation_rows d f ≡ []
creation_last f d is = creation_cases (λ (x : Firing). creation_rows x f ≡ []) d is refl refl refl

-- ---- what follows a firing

-- the rows are rows of created objects
abbrev pub AreCreations : List Firing → Type 0
AreCreations ds = AllByRecursion (λ (d : Firing). is_creation d ≡ true) ds

-- the rows that follow a row, and the floor behind it: they are rows of created objects, and start there
record Follows (rows : List Firing) (g : ToolFloor) : Type 0 where
  are : AllByRecursion (λ (d : Firing). is_creation d ≡ true) rows
  start : AllByRecursion (λ (d : Firing). floor_starts d g ≡ true) rows

none_follow : (g : ToolFloor) → Follows [] g
none_follow g = record { are = tt; start = tt }

-- those of a carrier
of_carriers : (ds : List Firing) (g : ToolFloor) → AllByRecursion (λ (d : Firing). d ≡ firing 8 d.object 1) ds → AllByRecursion (λ (d : Firing). shop_starts d g.shop ≡ true) ds → Follows ds g
of_carriers [] g are start = none_follow g
of_carriers (d ∷ ds) g are start =
    let later = of_carriers ds g are.1 start.1 in
    let here : floor_starts (firing 8 d.object 1) g ≡ true = subst (λ (x : Firing). shop_starts x g.shop ≡ true) are.0 start.0 in
    record {
      are = (subst (λ (x : Firing). is_creation x ≡ true) (sym are.0) refl, later.are);
      start = (subst (λ (x : Firing). floor_starts x g ≡ true) (sym are.0) here, later.start);
    }

-- a row of the load ports or the carriers
shop_follow : (x : Firing) (s : Floor) (g : ToolFloor) → g.shop ≡ shop_fired x s → Follows (shop_creations x s) g
shop_follow x s g same =
    of_carriers (shop_creations x s) g (made.creations s x) (subst (λ (t : Floor). AllByRecursion (λ (d : Firing). shop_starts d t ≡ true) (shop_creations x s)) (sym same) (made.creations_start s x))

-- those of new substrates
is_among_numbers : (ss new : List Substrate) (n : ℕ) → is_some (substrate_numbered n new) ≡ true → is_some (substrate_numbered n (ss ++ new)) ≡ true
is_among_numbers [] new n e = e
is_among_numbers (s ∷ ss) new n e = of (s.number == n) (is_among_numbers ss new n e) where
  of : (b : Bool) → is_some (substrate_numbered n (ss ++ new)) ≡ true → is_some (if b then Some s else substrate_numbered n (ss ++ new)) ≡ true
  of true later = refl
  of false later = later

transport_starts_there : (n : ℕ) (g : ToolFloor) → is_some (substrate_numbered n g.substrates) ≡ true → floor_starts (firing 12 n 1) g ≡ true
transport_starts_there n g e = of (substrate_numbered n g.substrates) refl e where
  of : (o : Option Substrate) → substrate_numbered n g.substrates ≡ o → is_some o ≡ true → floor_starts (firing 12 n 1) g ≡ true
  of None at some = absurd (cc)
  of (Some s) at some = rw at refl

processing_starts_there : (n : ℕ) (g : ToolFloor) → is_some (substrate_numbered n g.substrates) ≡ true → floor_starts (firing 13 n 1) g ≡ true
processing_starts_there n g e = of (substrate_numbered n g.substrates) refl e where
  of : (o : Option Substrate) → substrate_numbered n g.substrates ≡ o → is_some o ≡ true → floor_starts (firing 13 n 1) g ≡ true
  of None at some = absurd (cc)
  of (Some s) at some = rw at refl

own_number : (n : ℕ) → (n == n) ≡ true
own_number n = grind (arith, nat_tests)

first_found : (s : Substrate) (ss : List Substrate) → is_some (substrate_numbered s.number (s ∷ ss)) ≡ true
first_found s ss = rw (own_number s.number) refl

append_again : (ss : List Substrate) (s : Substrate) (ts : List Substrate) → ss ++ (s ∷ ts) ≡ (ss ++ s ∷ []) ++ ts
append_again [] s ts = refl
append_again (x ∷ xs) s ts = ap (λ (ys : List Substrate). x ∷ ys) (append_again xs s ts)

substrates_follow : (before new : List Substrate) (g : ToolFloor) → g.substrates ≡ before ++ new → Follows (registration_rows new) g
substrates_follow before [] g same = none_follow g
substrates_follow before (s ∷ ss) g same =
    let found : is_some (substrate_numbered s.number g.substrates) ≡ true = subst (λ (xs : List Substrate). is_some (substrate_numbered s.number xs) ≡ true) (sym same) (is_among_numbers before (s ∷ ss) s.number (first_found s ss)) in
    let later = substrates_follow (before ++ s ∷ []) ss g (same ∙ append_again before s ss) in
    record {
      are = (refl, (refl, later.are));
      start = (transport_starts_there s.number g found, (processing_starts_there s.number g found, later.start));
    }

map_follow : (row carrier : ℕ) (f : ToolFloor) (s : Floor) → Follows (new_rows f (registered_by row carrier f)) (with_shop s (registered_by row carrier f))
map_follow row carrier f s =
    let registers : Registers 25 f (registered_by row carrier f) = row_registered row carrier f in
    let new : drop (length f.substrates) (registered_by row carrier f).substrates ≡ registers.new = ap (drop (length f.substrates)) registers.substrates ∙ drop_before f.substrates registers.new in
    subst (λ (ss : List Substrate). Follows (registration_rows ss) (with_shop s (registered_by row carrier f))) (sym new)
    (substrates_follow f.substrates registers.new (with_shop s (registered_by row carrier f)) registers.substrates)

follows : (x : Firing) (f : ToolFloor) → Follows (creation_rows x f) (floor_fired x f)
follows x f =
    either_creates Follows f x (none_follow f) (record {
      transfer = shop_follow (firing 4 x.object x.row.row) f.shop _ refl;
      access = shop_follow (firing 5 x.object x.row.row) f.shop _ refl;
      reservation = shop_follow (firing 6 x.object x.row.row) f.shop _ refl;
      association = shop_follow (firing 7 x.object x.row.row) f.shop _ refl;
      id = shop_follow (firing 8 x.object x.row.row) f.shop _ refl;
      map = map_follow x.row.row x.object f _;
      accessing = none_follow _;
      location = none_follow _;
      transport = none_follow _;
      processing = none_follow _;
      process_job = none_follow _;
      control_job = none_follow _;
      move = none_follow _;
    })

pub creations : (f : ToolFloor) (x : Firing) → AreCreations (creation_rows x f)
creations f x = (follows x f).are

-- they start behind it
pub creations_start : (f : ToolFloor) (x : Firing) → AllByRecursion (λ (d : Firing). floor_starts d (floor_fired x f) ≡ true) (creation_rows x f)
creations_start f x = (follows x f).start

-- ---- what stays true

-- what a row of processing or of moves does leaves the load ports and the carriers
processing_shop : (row n : ℕ) (f : ToolFloor) → IsFloor f.shop → IsFloor (floor_fired (firing 13 n row) f).shop
processing_shop row n f valid =
    looked_for (λ (o : Option (SubstrateRow Processing)). IsFloor (found_does o (substrate_numbered n f.substrates) f).shop) processing_table row valid
    (valid, (valid, (valid, (valid, (valid, (valid, (valid, (valid, tt))))))))

process_shop : (row n : ℕ) (f : ToolFloor) → IsFloor f.shop → IsFloor (process_behind row n f).shop
process_shop row n f valid = found_valid (row_of job_table row) (process_numbered n f.jobs.process.kept) f valid

issued_shop : (number : ℕ) (plan : Option Move) (f : ToolFloor) → IsFloor f.shop → IsFloor (issued number plan f).shop
issued_shop number None f valid = valid
issued_shop number (Some m) f valid = valid

aligned_shop : (o : Option Task) (f : ToolFloor) → IsFloor f.shop → IsFloor (aligned_by o f).shop
aligned_shop None f valid = valid
aligned_shop (Some (task.Pick sub from)) f valid = valid
aligned_shop (Some (task.Place sub to)) f valid = valid
aligned_shop (Some (task.Align sub)) f valid = valid
aligned_shop (Some (task.Process sub recipe)) f valid = valid

stepped_shop : (o : Option Task) (f : ToolFloor) → IsFloor f.shop → IsFloor (stepped_by o f).shop
stepped_shop None f valid = valid
stepped_shop (Some (task.Pick sub from)) f valid = valid
stepped_shop (Some (task.Place sub to)) f valid = valid
stepped_shop (Some (task.Align sub)) f valid = valid
stepped_shop (Some (task.Process sub recipe)) f valid = valid

move_shop : (row number : ℕ) (f : ToolFloor) → IsFloor f.shop → IsFloor (moved_by row number f).shop
move_shop row number f valid =
    let plan = planned number f in
    looked_for (λ (o : Option MoveRow). IsFloor (found_move o number plan f).shop) move_table row valid (
      issued_shop number plan f valid,
      (
        issued_shop number plan f valid,
        (issued_shop number plan f valid, (issued_shop number plan f valid, (valid, (aligned_shop (open_task (module_at number f.modules)) f valid, (stepped_shop (open_task (module_at number f.modules)) f valid, (valid, (valid, (valid, tt)))))))),
      ),
    )

-- the load ports and the carriers stay valid behind each row that starts
pub row-keeps : (x : Firing) (f : ToolFloor) → floor_starts x f ≡ true → IsFloor f.shop → IsFloor (floor_fired x f).shop
row-keeps x f starts valid =
    starts_cases (λ (y : Firing). IsFloor (floor_fired y f).shop) f x (record {
      transfer = λ s. shop_keeps (firing 4 x.object x.row.row) f.shop s valid;
      access = λ s. shop_keeps (firing 5 x.object x.row.row) f.shop s valid;
      reservation = λ s. shop_keeps (firing 6 x.object x.row.row) f.shop s valid;
      association = λ s. shop_keeps (firing 7 x.object x.row.row) f.shop s valid;
      id = λ s. shop_keeps (firing 8 x.object x.row.row) f.shop s valid;
      map = λ s. shop_keeps (firing 9 x.object x.row.row) f.shop s valid;
      accessing = λ s. accessing-keeps f.shop x.object x.row.row valid;
      location = λ s. valid;
      transport = λ s. valid;
      processing = λ s. processing_shop x.row.row x.object f valid;
      process_job = λ s. process_shop x.row.row x.object f valid;
      control_job = λ s. valid;
      move = λ s. move_shop x.row.row x.object f valid;
    }) starts

-- ---- at the beginning

at_first : (number : ℕ) (ports chambers : ℕ) (recipes : List Recipe) (count place : ℕ) → location_ready number (slice_get (replicate count first_location) place) (opening ports chambers recipes) ≡ None
at_first number ports chambers recipes zero place = refl
at_first number ports chambers recipes (suc count) zero = refl
at_first number ports chambers recipes (suc count) (suc place) = at_first number ports chambers recipes count place

quiet_location : (ports chambers : ℕ) (recipes : List Recipe) (number : ℕ) → location_ready number (location_at number (opening ports chambers recipes).locations) (opening ports chambers recipes) ≡ None
quiet_location ports chambers recipes zero = refl
quiet_location ports chambers recipes (suc place) = at_first (suc place) ports chambers recipes (spot_count ports chambers) place

-- no row is ready
pub opening_quiet : (ports chambers : ℕ) (recipes : List Recipe) → floor_least (opening ports chambers recipes) ≡ None
opening_quiet ports chambers recipes =
    let f = opening ports chambers recipes in
    let locations : first_ready_location f ≡ None = none_ready 11 (λ number. location_ready number (location_at number f.locations) f) (location_numbers 1 f.locations) (quiet_location ports chambers recipes) in
    let moves : first_move f ≡ None = none_to_move f (λ number. nothing_moves number [] (first_modules chambers) tt) in
    least_floor f ∙ rw (shop_quiet ports, locations, moves) refl
