-- Each row that fires by itself lets what is left fall, by more than the rows count that follow it.
use Rattle.std.proofs.Common.{◌≡◌, ℕ, zero, suc, ◌+◌, ◌*◌, ◌==◌, ◌<◌, ◌≤◌, Bool, true, false, not, if◌then◌else◌, List, [], ◌∷◌, ◌++◌, length, drop, map, Option, Some, None, slice_get, find, refl, sym, ap, subst, ◌∙◌, arith}
use Rattle.std.proofs.lemmas.Bool.{true≢false}
use Rattle.gem_tables.specs.Machine.{Machine}
use Rattle.gem_tables.specs.Table.{firing, is_among, is_one_of, row_of, after, update_at}
use Rattle.gem_tables.specs.declared.firing.Firing.{Firing}
use Rattle.gem_tables.proofs.Rows.{ready_row}
use Rattle.floor_model.proofs.EachTable.{EachTable, least_cases}
use Rattle.load_port.specs.Tables.{association_number, association_table}
use Rattle.carrier.specs.declared.carrier.Carrier.{Carrier}
use Rattle.carrier.specs.declared.record.Accessing.{Accessing}
use Rattle.carrier.specs.declared.record.Accessing.TheVariants as access
use Rattle.carrier.specs.Tables.{access_number, accessing_table, map_number, map_table}
use Rattle.carrier.specs.Carriers.{carrier_numbered}
use Rattle.robot_moves.specs.Modules.{module_at}
use Rattle.shop_floor.specs.Floor.{Floor}
use Rattle.shop_floor.specs.Left.{access_left, carrier_left, floor_left as shop_left}
use Rattle.shop_floor.specs.Machines.{transfer_machine, access_machine, reservation_machine, association_machine, id_machine, map_machine, accessing_machine, carrier_moves}
use Rattle.shop_floor.proofs.Falls.{all_fall as shop_all_fall}
use Rattle.shop_floor.proofs.FallLists.{carriers_fall}
use Rattle.shop_floor.proofs.Cases.{ready_at_port, ready_at_carrier}
use Rattle.substrate.specs.Tables.{occupancy_number, occupancy_table, transport_number, transport_table, processing_number, processing_table}
use Rattle.substrate.specs.Record.{location_fired}
use Rattle.substrate.specs.Places.{PlaceMap, is_taken_at}
use Rattle.substrate.specs.declared.record.LocationRecord.{LocationRecord}
use Rattle.substrate.specs.declared.record.Occupancy.{Occupancy}
use Rattle.substrate.specs.declared.record.Occupancy.TheVariants.{Unoccupied, Occupied}
use Rattle.substrate.specs.declared.record.Transport.{Transport}
use Rattle.substrate.specs.declared.record.Transport.TheVariants.{AtSource, AtWork, AtDestination}
use Rattle.substrate.specs.declared.record.Processing.{Processing}
use Rattle.substrate.specs.declared.record.Processing.TheVariants as processing
use Rattle.floor_model.specs.declared.tracked.Substrate.{Substrate}
use Rattle.floor_model.specs.Floor.{ToolFloor, with_shop, location_at, change_location, substrate_numbered, change_numbered}
use Rattle.floor_model.specs.Wants.{accessing_wants, location_wants, substrate_wants}
use Rattle.floor_model.specs.Substrates.{registration_rows, found_does}
use Rattle.floor_model.specs.Jobs.{can_join, joined, is_member, freed, gets_members, frees, stops_carriers, job_does, found_job_does, found_sight, is_first_here}
use Rattle.process_job.specs.Tables as effect
use Rattle.process_job.specs.Tables.{JobRow, JobEffect, job_table}
use Rattle.process_job.specs.Jobs.{job_numbered as process_numbered}
use Rattle.process_job.specs.declared.job.ProcessJob.{ProcessJob}
use Rattle.substrate.specs.declared.record.SubstrateRecord.{SubstrateRecord}
use Rattle.tool_jobs.specs.Left.{jobs_left}
use Rattle.tool_jobs.proofs.Falls.{process_falls, control_falls}
use Rattle.floor_model.proofs.Marks.{marked_left}
use Rattle.floor_model.specs.Machines.{process_machine, control_machine, registered_by, accessing_ready, location_ready, substrate_ready, substrate_moves, floor_fired, creation_rows, floor_least, moved_by}
use Rattle.floor_model.specs.Left.{disagrees, locations_left, transport_left, processing_left, substrate_left, substrates_left, modules_left, floor_left}
use Rattle.shop_floor.specs.Left.{weighs}
use Rattle.robot_moves.specs.declared.view.Move.{Move}
use Rattle.robot_moves.proofs.Giving.{move_is}
use Rattle.floor_model.specs.Views.{views, planned}
use Rattle.floor_model.specs.Modules.{move_ready, command, issued}
use Rattle.floor_model.proofs.Moves.{by_itself_rows, gives, none_ready_there, ready_there, is_idle_module, modules_fall}
use Rattle.floor_model.proofs.Registrations.{counts, Registers, row_registered, rows_count, drop_before}

-- what is left falls, and the rows that follow are counted too
abbrev pub Falls : ToolFloor → Firing → Type 0
Falls f x = floor_left (floor_fired x f) + length (creation_rows x f) < floor_left f

never : {P : Type 0} → false ≡ true → P
never e = absurd (true≢false (sym e))

-- ---- the load ports and the carriers

shop_falls : (f : ToolFloor) (s : Floor) (more : ℕ) → shop_left s + more < shop_left f.shop → floor_left (with_shop s f) + more < floor_left f
shop_falls f s more h = omega (arith, h)

-- no row 6 of association fires by itself
pub not_6 : (s : Floor) (port row : ℕ) → association_machine.ready port s ≡ Some row → (row == 6) ≡ false
not_6 s port row e =
    ready_at_port association_number association_table (λ s. s.association) (λ to s. record s { association = to }) (λ n r. (r == 6) ≡ false) s port row
    (λ place p at. ((λ i _ _. never i), ((λ i _ _. never i), ((λ _ _ _. refl), ((λ _ _ _. refl), ((λ _ _ _. refl), ((λ i _ _. never i), ((λ _ _ _. refl), tt)))))))) e

falls_7 : (f : ToolFloor) (port row : ℕ) → association_machine.ready port f.shop ≡ Some row → Falls f (firing 7 port row)
falls_7 f port row e =
    let h = (shop_all_fall f.shop).association port row e in
    rw (not_6 f.shop port row e) (shop_falls f (association_machine.fired row port f.shop) (length (association_machine.creates row port f.shop)) (omega (arith, h)))

-- ---- the slot map

drop_all : (ss : List Substrate) → drop (length ss) ss ≡ []
drop_all [] = refl
drop_all (s ∷ ss) = drop_all ss

falls_9_1 : (f : ToolFloor) (carrier : ℕ) → map_machine.ready carrier f.shop ≡ Some 1 → Falls f (firing 9 carrier 1)
falls_9_1 f carrier e =
    let g : ToolFloor = registered_by 1 carrier f in
    let h = (shop_all_fall f.shop).map carrier 1 e in
    let registers : Registers 25 f g = row_registered 1 carrier f in
    let left = registers.left in
    let few = registers.few in
    let modules = ap modules_left registers.modules in
    let jobs = ap jobs_left registers.jobs in
    let rows : length (registration_rows (drop (length f.substrates) g.substrates)) ≡ 2 * length registers.new =
    ap (λ (ss : List Substrate). length (registration_rows (drop (length f.substrates) ss))) registers.substrates ∙ ap (λ (ss : List Substrate). length (registration_rows ss)) (drop_before f.substrates registers.new) ∙ rows_count registers.new in
    omega (arith, h, left, few, modules, jobs, rows)

falls_9_2 : (f : ToolFloor) (carrier : ℕ) → map_machine.ready carrier f.shop ≡ Some 2 → Falls f (firing 9 carrier 2)
falls_9_2 f carrier e =
    let h = (shop_all_fall f.shop).map carrier 2 e in
    let rows : length (registration_rows (drop (length f.substrates) f.substrates)) ≡ 0 = ap (λ (ss : List Substrate). length (registration_rows ss)) (drop_all f.substrates) in
    omega (arith, h, rows)

falls_9 : (f : ToolFloor) (carrier row : ℕ) → map_machine.ready carrier f.shop ≡ Some row → Falls f (firing 9 carrier row)
falls_9 f carrier row e =
    ready_at_carrier map_number map_table (λ s. s.map) (λ to s. record s { map = to }) (λ (r : ℕ). map_machine.ready carrier f.shop ≡ Some r → Falls f (firing 9 carrier r)) f.shop carrier row
    (λ c at. ((λ _ _ _. falls_9_1 f carrier), ((λ _ _ _. falls_9_2 f carrier), ((λ i _ _. never i), ((λ i _ _. never i), tt))))) e e

-- ---- accessing

accesses : (s : Accessing) → is_among access_number (access.NotAccessed ∷ []) s ≡ true → access_left (after access_number accessing_table 1 s) + 1 ≤ access_left s
accesses access.NotAccessed e = omega arith
accesses access.InAccess e = absurd (cc)
accesses access.Complete e = absurd (cc)
accesses access.Stopped e = absurd (cc)

completes : (s : Accessing) → is_among access_number (access.InAccess ∷ []) s ≡ true → access_left (after access_number accessing_table 2 s) + 1 ≤ access_left s
completes access.InAccess e = omega arith
completes access.NotAccessed e = absurd (cc)
completes access.Complete e = absurd (cc)
completes access.Stopped e = absurd (cc)

stops : (s : Accessing) → is_among access_number (access.InAccess ∷ []) s ≡ true → access_left (after access_number accessing_table 3 s) + 1 ≤ access_left s
stops access.InAccess e = omega arith
stops access.NotAccessed e = absurd (cc)
stops access.Complete e = absurd (cc)
stops access.Stopped e = absurd (cc)

abbrev accessed : ℕ → Carrier → Carrier
accessed row c = carrier_moves access_number accessing_table (λ s. s.access) (λ to s. record s { access = to }) row c

falls_10 : (f : ToolFloor) (row carrier : ℕ) (c : Carrier) → carrier_numbered carrier f.shop.carriers ≡ Some c → access_left (after access_number accessing_table row c.states.access) + 1 ≤ access_left c.states.access → Falls f (firing 10 carrier row)
falls_10 f row carrier c at state =
    let less = carriers_fall (accessed row) 1 carrier f.shop.carriers c at (omega (arith, state)) in
    omega (arith, less)

falls_at_carrier : (f : ToolFloor) (carrier row : ℕ) (o : Option Carrier) → carrier_numbered carrier f.shop.carriers ≡ o → accessing_ready o f ≡ Some row → Falls f (firing 10 carrier row)
falls_at_carrier f carrier row None at e = absurd (cc)
falls_at_carrier f carrier row (Some c) at e =
    ready_row (λ (r : ℕ). Falls f (firing 10 carrier r)) access_number (λ want. accessing_wants want c f) accessing_table row c.states.access (
      (λ _ among _. falls_10 f 1 carrier c at (accesses c.states.access among)),
      ((λ _ among _. falls_10 f 2 carrier c at (completes c.states.access among)), ((λ _ among _. falls_10 f 3 carrier c at (stops c.states.access among)), ((λ i _ _. never i), tt))),
    ) e

-- ---- locations

location_falls : (change : LocationRecord → LocationRecord) (n place : ℕ) (p : PlaceMap) (ls : List LocationRecord) (l : LocationRecord) → slice_get ls place ≡ Some l
    → weighs 1 (disagrees (change l).occupancy (is_taken_at (n + place) p)) + 1 ≤ weighs 1 (disagrees l.occupancy (is_taken_at (n + place) p)) → locations_left n p (update_at place change ls) + 1 ≤ locations_left n p ls
location_falls change n place p [] l e falls = absurd (cc)
location_falls change n zero p (x ∷ xs) l e falls =
    let same : x ≡ l = cc in
    let number : n + 0 ≡ n = omega arith in
    let here : weighs 1 (disagrees (change x).occupancy (is_taken_at n p)) + 1 ≤ weighs 1 (disagrees x.occupancy (is_taken_at n p)) = subst (λ (m : ℕ). weighs 1 (disagrees (change x).occupancy (is_taken_at m p)) + 1 ≤ weighs 1 (disagrees x.occupancy (is_taken_at m p))) number (subst (λ (y : LocationRecord). weighs 1 (disagrees (change y).occupancy (is_taken_at (n + 0) p)) + 1 ≤ weighs 1 (disagrees y.occupancy (is_taken_at (n + 0) p))) (sym same) falls) in
    omega (arith, here)
location_falls change n (suc place) p (x ∷ xs) l e falls =
    let number : n + suc place ≡ n + 1 + place = omega arith in
    let later = location_falls change (n + 1) place p xs l e (subst (λ (m : ℕ). weighs 1 (disagrees (change l).occupancy (is_taken_at m p)) + 1 ≤ weighs 1 (disagrees l.occupancy (is_taken_at m p))) number falls) in
    omega (arith, later)

occupies : (o : Occupancy) (taken : Bool) → is_among occupancy_number (Unoccupied ∷ []) o ≡ true → taken ≡ true → weighs 1 (disagrees (after occupancy_number occupancy_table 1 o) taken) + 1 ≤ weighs 1 (disagrees o taken)
occupies Unoccupied true among is = omega arith
occupies Unoccupied false among is = never is
occupies Occupied taken among is = absurd (cc)

empties : (o : Occupancy) (taken : Bool) → is_among occupancy_number (Occupied ∷ []) o ≡ true → not taken ≡ true → weighs 1 (disagrees (after occupancy_number occupancy_table 2 o) taken) + 1 ≤ weighs 1 (disagrees o taken)
empties Occupied false among is = omega arith
empties Occupied true among is = never is
empties Unoccupied taken among is = absurd (cc)

falls_11 : (f : ToolFloor) (row place : ℕ) (l : LocationRecord) → slice_get f.locations place ≡ Some l
    → weighs 1 (disagrees (after occupancy_number occupancy_table row l.occupancy) (is_taken_at (suc place) f.places)) + 1 ≤ weighs 1 (disagrees l.occupancy (is_taken_at (suc place) f.places)) → Falls f (firing 11 (suc place) row)
falls_11 f row place l at state =
    let number : suc place ≡ 1 + place = omega arith in
    let less = location_falls (location_fired row) 1 place f.places f.locations l at (subst (λ (m : ℕ). weighs 1 (disagrees (after occupancy_number occupancy_table row l.occupancy) (is_taken_at m f.places)) + 1 ≤ weighs 1 (disagrees l.occupancy (is_taken_at m f.places))) number state) in
    omega (arith, less)

falls_at_place : (f : ToolFloor) (row place : ℕ) (o : Option LocationRecord) → slice_get f.locations place ≡ o → location_ready (suc place) o f ≡ Some row → Falls f (firing 11 (suc place) row)
falls_at_place f row place None at e = absurd (cc)
falls_at_place f row place (Some l) at e =
    ready_row (λ (r : ℕ). Falls f (firing 11 (suc place) r)) occupancy_number (λ want. location_wants want (suc place) f.places) occupancy_table row l.occupancy (
      (λ _ among is. falls_11 f 1 place l at (occupies l.occupancy (is_taken_at (suc place) f.places) among is)),
      ((λ _ among is. falls_11 f 2 place l at (empties l.occupancy (is_taken_at (suc place) f.places) among is)), tt),
    ) e

falls_at_location : (f : ToolFloor) (number row : ℕ) → location_ready number (location_at number f.locations) f ≡ Some row → Falls f (firing 11 number row)
falls_at_location f zero row e = absurd (cc)
falls_at_location f (suc place) row e = falls_at_place f row place (slice_get f.locations place) refl e

-- ---- substrates

substrates_fall : (change : Substrate → Substrate) (n : ℕ) (ss : List Substrate) (s : Substrate) → substrate_numbered n ss ≡ Some s → substrate_left (change s) + 1 ≤ substrate_left s → substrates_left (change_numbered n change ss) + 1 ≤ substrates_left ss
substrates_fall change n [] s e falls = absurd (cc)
substrates_fall change n (t ∷ ts) s e falls = of (t.number == n) e (λ g. substrates_fall change n ts s g falls) where
  of : (b : Bool) → (if b then Some t else substrate_numbered n ts) ≡ Some s → (substrate_numbered n ts ≡ Some s → substrates_left (change_numbered n change ts) + 1 ≤ substrates_left ts)
      → substrates_left (if b then change t ∷ ts else t ∷ change_numbered n change ts) + 1 ≤ substrates_left (t ∷ ts)
  of true g later =
      let same : t ≡ s = cc in
      let here : substrate_left (change t) + 1 ≤ substrate_left t = rw same falls in
      omega (arith, here)
  of false g later = let rest = later g in omega (arith, rest)

works : (t : Transport) → is_among transport_number (AtSource ∷ []) t ≡ true → transport_left (after transport_number transport_table 2 t) + 1 ≤ transport_left t
works AtSource e = omega arith
works AtWork e = absurd (cc)
works AtDestination e = absurd (cc)

arrives : (t : Transport) → is_among transport_number (AtWork ∷ []) t ≡ true → transport_left (after transport_number transport_table 3 t) + 1 ≤ transport_left t
arrives AtWork e = omega arith
arrives AtSource e = absurd (cc)
arrives AtDestination e = absurd (cc)

needs : (p : Processing) → is_among processing_number (processing.NeedsProcessing ∷ []) p ≡ true → p ≡ processing.NeedsProcessing
needs processing.NeedsProcessing e = refl
needs processing.InProcess e = absurd (cc)
needs processing.Processed e = absurd (cc)
needs processing.Aborted e = absurd (cc)
needs processing.Stopped e = absurd (cc)
needs processing.Rejected e = absurd (cc)
needs processing.Lost e = absurd (cc)
needs processing.Skipped e = absurd (cc)

processed : (row : ℕ) → processing_left (after processing_number processing_table row processing.NeedsProcessing) + 1 ≤ 2 → (p : Processing) → is_among processing_number (processing.NeedsProcessing ∷ []) p ≡ true → processing_left (after processing_number processing_table row p) + 1 ≤ processing_left p
processed row less p e = subst (λ (q : Processing). processing_left (after processing_number processing_table row q) + 1 ≤ processing_left q) (sym (needs p e)) less

unfinished : (row : ℕ) → processing_left (after processing_number processing_table row processing.NeedsProcessing) + 1 ≤ 2 → processing_left (after processing_number processing_table row processing.InProcess) + 1 ≤ 1 → (p : Processing) → is_among processing_number (processing.NeedsProcessing ∷ processing.InProcess ∷ []) p ≡ true → processing_left (after processing_number processing_table row p) + 1 ≤ processing_left p
unfinished row needs works processing.NeedsProcessing e = needs
unfinished row needs works processing.InProcess e = works
unfinished row needs works processing.Processed e = absurd (cc)
unfinished row needs works processing.Aborted e = absurd (cc)
unfinished row needs works processing.Stopped e = absurd (cc)
unfinished row needs works processing.Rejected e = absurd (cc)
unfinished row needs works processing.Lost e = absurd (cc)
unfinished row needs works processing.Skipped e = absurd (cc)

falls_12 : (f : ToolFloor) (row n : ℕ) (s : Substrate) → substrate_numbered n f.substrates ≡ Some s → transport_left (after transport_number transport_table row s.states.transport) + 1 ≤ transport_left s.states.transport → Falls f (firing 12 n row)
falls_12 f row n s at state =
    let less = substrates_fall (substrate_moves 12 row) n f.substrates s at (omega (arith, state)) in
    omega (arith, less)

falls_13 : (f : ToolFloor) (row n : ℕ) (s : Substrate) → found_does (row_of processing_table row) (substrate_numbered n f.substrates) f ≡ f → substrate_numbered n f.substrates ≡ Some s → processing_left (after processing_number processing_table row s.states.processing) + 1 ≤ processing_left s.states.processing → Falls f (firing 13 n row)
falls_13 f row n s no_more at state =
    let less = substrates_fall (substrate_moves 13 row) n f.substrates s at (omega (arith, state)) in
    rw no_more (omega (arith, less))

transport_at : (f : ToolFloor) (n row : ℕ) (o : Option Substrate) → substrate_numbered n f.substrates ≡ o → substrate_ready transport_number transport_table (λ s. s.transport) o f ≡ Some row → Falls f (firing 12 n row)
transport_at f n row None at e = absurd (cc)
transport_at f n row (Some s) at e =
    ready_row (λ (r : ℕ). Falls f (firing 12 n r)) transport_number (λ want. substrate_wants want s f) transport_table row s.states.transport (
      (λ i _ _. never i),
      ((λ _ among _. falls_12 f 2 n s at (works s.states.transport among)), ((λ _ among _. falls_12 f 3 n s at (arrives s.states.transport among)), tt)),
    ) e

processing_at : (f : ToolFloor) (n row : ℕ) (o : Option Substrate) → substrate_numbered n f.substrates ≡ o → substrate_ready processing_number processing_table (λ s. s.processing) o f ≡ Some row → Falls f (firing 13 n row)
processing_at f n row None at e = absurd (cc)
processing_at f n row (Some s) at e =
    ready_row (λ (r : ℕ). Falls f (firing 13 n r)) processing_number (λ want. substrate_wants want s f) processing_table row s.states.processing (
      (λ i _ _. never i),
      (
        (λ _ among _. falls_13 f 2 n s refl at (processed 2 (omega arith) s.states.processing among)),
        (
          (λ i _ _. never i),
          (
            (λ i _ _. never i),
            (
              (λ _ among _. falls_13 f 5 n s refl at (processed 5 (omega arith) s.states.processing among)),
              (
                (λ _ among _. falls_13 f 6 n s refl at (unfinished 6 (omega arith) (omega arith) s.states.processing among)),
                ((λ _ among _. falls_13 f 7 n s refl at (unfinished 7 (omega arith) (omega arith) s.states.processing among)), ((λ i _ _. never i), tt)),
              ),
            ),
          ),
        ),
      ),
    ) e

-- ---- jobs

-- what becomes of the members of a process job weighs nothing
same_left : (change : Substrate → Substrate) → ((s : Substrate) → (change s).states ≡ s.states) → (ss : List Substrate) → substrates_left (map change ss) ≡ substrates_left ss
same_left change same [] = refl
same_left change same (s ∷ ss) =
    let here : substrate_left (change s) ≡ substrate_left s = ap (λ (r : SubstrateRecord). transport_left r.transport + processing_left r.processing) (same s) in
    let later = same_left change same ss in
    omega (arith, here, later)

joined_same : (j : ProcessJob) (shop : Floor) (s : Substrate) → (joined j shop s).states ≡ s.states
joined_same j shop s = of (can_join j shop s) where
  of : (b : Bool) → (if b then record s { job = j.number } else s).states ≡ s.states
  of true = refl
  of false = refl

freed_same : (number : ℕ) (s : Substrate) → (freed number s).states ≡ s.states
freed_same number s = of (is_member number s) where
  of : (b : Bool) → (if b then record s { job = 0 } else s).states ≡ s.states
  of true = refl
  of false = refl

gets_left : (o : Option ProcessJob) (f : ToolFloor) → floor_left (gets_members o f) ≡ floor_left f
gets_left None f = refl
gets_left (Some j) f = let same = same_left (joined j f.shop) (joined_same j f.shop) f.substrates in omega (arith, same)

frees_left : (o : Option ProcessJob) (f : ToolFloor) → floor_left (frees o f) ≡ floor_left f
frees_left None f = refl
frees_left (Some j) f = let same = same_left (freed j.number) (freed_same j.number) f.substrates in omega (arith, same)

stops_left : (o : Option ProcessJob) (f : ToolFloor) → floor_left (stops_carriers o f) ≡ floor_left f
stops_left None f = refl
stops_left (Some j) f = let same = marked_left j.material f.shop in omega (arith, same)

does_left : (e : JobEffect) (o : Option ProcessJob) (f : ToolFloor) → floor_left (job_does e o f) ≡ floor_left f
does_left effect.no_more o f = refl
does_left effect.makes_members o f = gets_left o f
does_left effect.ends o f = frees_left o f
does_left effect.ends_stopped o f = stops_left o (frees o f) ∙ frees_left o f

found_left : (r : Option JobRow) (o : Option ProcessJob) (f : ToolFloor) → floor_left (found_job_does r o f) ≡ floor_left f
found_left None o f = refl
found_left (Some r) o f = does_left r.does o f

-- it changes no job
does_jobs : (e : JobEffect) (o : Option ProcessJob) (f : ToolFloor) → (job_does e o f).jobs ≡ f.jobs
does_jobs effect.no_more o f = refl
does_jobs effect.makes_members None f = refl
does_jobs effect.makes_members (Some j) f = refl
does_jobs effect.ends None f = refl
does_jobs effect.ends (Some j) f = refl
does_jobs effect.ends_stopped None f = refl
does_jobs effect.ends_stopped (Some j) f = refl

found_jobs : (r : Option JobRow) (o : Option ProcessJob) (f : ToolFloor) → (found_job_does r o f).jobs ≡ f.jobs
found_jobs None o f = refl
found_jobs (Some r) o f = does_jobs r.does o f

falls_14 : (f : ToolFloor) (number row : ℕ) → process_machine.ready number f ≡ Some row → Falls f (firing 14 number row)
falls_14 f number row e =
    let o = process_numbered number f.jobs.process.kept in
    let less = process_falls f.jobs number row (found_sight o f) e in
    let same = found_left (row_of job_table row) o f in
    let jobs = ap jobs_left (found_jobs (row_of job_table row) o f) in
    omega (arith, less, same, jobs)

falls_15 : (f : ToolFloor) (number row : ℕ) → control_machine.ready number f ≡ Some row → Falls f (firing 15 number row)
falls_15 f number row e = let less = control_falls f.jobs number row (is_first_here number f) e in omega (arith, less)

-- ---- modules

-- a module that is to do something is Idle, and is given it
falls_16 : (f : ToolFloor) (number row : ℕ) → move_ready (planned number f) (module_at number f.modules) ≡ Some row → Falls f (firing 16 number row)
falls_16 f number row e = of (planned number f) refl e where
  of : (o : Option Move) → planned number f ≡ o → move_ready o (module_at number f.modules) ≡ Some row → Falls f (firing 16 number row)
  of None is g = absurd (let clash : None ≡ Some row = sym (none_ready_there (module_at number f.modules)) ∙ g in cc)
  of (Some m) is g =
      let ready = ready_there (views f) f.modules number (Some m) is in
      let same : row ≡ m.row = let two : Some row ≡ Some m.row = sym g ∙ ready in cc in
      let moves = move_is number (views f) f.modules m is in
      let one : is_one_of by_itself_rows row ≡ true = ap (is_one_of by_itself_rows) same ∙ moves.one in
      let behind : moved_by row number f ≡ issued number (Some m) f = gives row number f one ∙ ap (λ (o : Option Move). issued number o f) is in
      let less = modules_fall number (command (f.commands + 1) m.task) f.modules (is_idle_module (module_at number f.modules) moves.idle) in
      let after : floor_left (moved_by row number f) ≡ floor_left (issued number (Some m) f) = ap floor_left behind in
      omega (arith, less, after)

-- ---- all tables

-- what is left falls where a row is ready by itself, table by table
pub all_fall : (f : ToolFloor) → EachTable (λ (m : Machine ToolFloor). (object row : ℕ) → m.ready object f ≡ Some row → Falls f (firing m.table object row))
all_fall f =
    let shop = shop_all_fall f.shop in record {
      transfer = λ o r e. let h = shop.transfer o r e in shop_falls f (transfer_machine.fired r o f.shop) (length (transfer_machine.creates r o f.shop)) (omega (arith, h));
      access = λ o r e. let h = shop.access o r e in shop_falls f (access_machine.fired r o f.shop) (length (access_machine.creates r o f.shop)) (omega (arith, h));
      reservation = λ o r e. let h = shop.reservation o r e in shop_falls f (reservation_machine.fired r o f.shop) (length (reservation_machine.creates r o f.shop)) (omega (arith, h));
      association = λ o r e. falls_7 f o r e;
      id = λ o r e. let h = shop.id o r e in shop_falls f (id_machine.fired r o f.shop) (length (id_machine.creates r o f.shop)) (omega (arith, h));
      map = λ o r e. falls_9 f o r e;
      accessing = λ o r e. falls_at_carrier f o r (carrier_numbered o f.shop.carriers) refl e;
      location = λ o r e. falls_at_location f o r e;
      transport = λ o r e. transport_at f o r (substrate_numbered o f.substrates) refl e;
      processing = λ o r e. processing_at f o r (substrate_numbered o f.substrates) refl e;
      process_job = λ o r e. falls_14 f o r e;
      control_job = λ o r e. falls_15 f o r e;
      move = λ o r e. falls_16 f o r e;
    }

-- so it falls with the least
pub least_falls : (f : ToolFloor) (x : Firing) → floor_least f ≡ Some x → floor_left (floor_fired x f) + length (creation_rows x f) < floor_left f
least_falls f x e = least_cases (Falls f) f x (all_fall f) e
