-- Each row that fires by itself lets what is left fall, by more than the rows count of the carrier that it may create.
use Rattle.std.proofs.Common.{◌≡◌, ℕ, suc, ◌+◌, ◌<◌, ◌≤◌, Bool, true, false, List, [], ◌∷◌, length, Option, Some, None, is_some, slice_get, refl, sym, ap, subst, arith}
use Rattle.std.proofs.lemmas.Bool.{true≢false, and_parts}
use Rattle.gem_tables.specs.Machine.{Machine}
use Rattle.gem_tables.specs.Table.{firing, is_among, after}
use Rattle.gem_tables.specs.declared.firing.Firing.{Firing}
use Rattle.shop_floor.proofs.EachTable.{EachTable, least_cases}
use Rattle.load_port.specs.declared.port.Port.{Port}
use Rattle.load_port.specs.declared.port.Arrival.{Arrival}
use Rattle.load_port.specs.declared.record.Transfer.{Transfer}
use Rattle.load_port.specs.declared.record.Transfer.TheVariants.{OutOfService, TransferBlocked, ReadyToLoad, ReadyToUnload}
use Rattle.load_port.specs.declared.record.Reservation.{Reservation}
use Rattle.load_port.specs.declared.record.Reservation.TheVariants.{NotReserved, Reserved}
use Rattle.load_port.specs.declared.record.Association.{Association}
use Rattle.load_port.specs.declared.record.Association.TheVariants.{NotAssociated, Associated}
use Rattle.load_port.specs.Tables.{transfer_number, transfer_table, reservation_number, reservation_table, association_number, association_table}
use Rattle.load_port.specs.Record.{is_blocked, is_reserved, is_associated}
use Rattle.load_port.specs.Ports as ports
use Rattle.carrier.specs.declared.carrier.Carrier.{Carrier}
use Rattle.carrier.specs.declared.record.IdState.{IdState}
use Rattle.carrier.specs.declared.record.IdState.TheVariants as id
use Rattle.carrier.specs.declared.record.MapState.{MapState}
use Rattle.carrier.specs.declared.record.MapState.TheVariants as slots
use Rattle.carrier.specs.Tables.{id_number, id_table, map_number, map_table}
use Rattle.carrier.specs.Record.{is_id_not_read, is_map_not_read}
use Rattle.carrier.specs.Carriers as carriers
use Rattle.carrier.specs.Carriers.{carrier_numbered, found_or_created}
use Rattle.shop_floor.specs.Floor.{Floor, with_port}
use Rattle.shop_floor.specs.Rows.{freed, taken_by, owner, without_owner, arrival_at, arrived, arriving}
use Rattle.shop_floor.specs.Machines.{floor_fired, floor_least, creation_rows}
use Rattle.shop_floor.specs.Left.{weighs, port_left, carrier_left, floor_left, map_falls}
use Rattle.shop_floor.proofs.FallLists.{update_twice, ports_fall, carriers_fall, came-left, found-left, forgotten-left}
use Rattle.shop_floor.proofs.Cases.{ready_at_port, ready_at_carrier}
use Rattle.shop_floor.proofs.Keeps.{own_some}
use Rattle.shop_floor.proofs.Shapes.{no_access, no_accessing}
use Rattle.shop_floor.proofs.Creations.{few_creations}

-- what is left falls, and the rows of a carrier that is created are counted too
abbrev pub Falls : Floor → Firing → Type 0
Falls f x = floor_left (floor_fired x f) + (map_falls x + length (creation_rows x f)) < floor_left f

-- ---- the states

weighs_one : (b : Bool) → weighs 1 b ≤ 1
weighs_one true = omega arith
weighs_one false = omega arith

unloads : (t : Transfer) → is_among transfer_number (TransferBlocked ∷ []) t ≡ true
    → weighs 1 (is_blocked (after transfer_number transfer_table 4 t)) + 1 ≤ weighs 1 (is_blocked t)
unloads TransferBlocked e = omega arith
unloads OutOfService e = absurd (cc)
unloads ReadyToLoad e = absurd (cc)
unloads ReadyToUnload e = absurd (cc)

unreserves : (r : Reservation) → is_among reservation_number (Reserved ∷ []) r ≡ true
    → weighs 1 (is_reserved (after reservation_number reservation_table 3 r)) + 1 ≤ weighs 1 (is_reserved r)
unreserves Reserved e = omega arith
unreserves NotReserved e = absurd (cc)

frees : (a : Association) → is_among association_number (Associated ∷ []) a ≡ true
    → weighs 1 (is_associated (after association_number association_table 7 a)) + 1 ≤ weighs 1 (is_associated a)
frees Associated e = omega arith
frees NotAssociated e = absurd (cc)

verifies_id : (s : IdState) → is_among id_number (id.NotRead ∷ []) s ≡ true
    → weighs 1 (is_id_not_read (after id_number id_table 2 s)) + 1 ≤ weighs 1 (is_id_not_read s)
verifies_id id.NotRead e = omega arith
verifies_id id.WaitingForHost e = absurd (cc)
verifies_id id.Verified e = absurd (cc)
verifies_id id.VerificationFailed e = absurd (cc)

asks_id : (s : IdState) → is_among id_number (id.NotRead ∷ []) s ≡ true
    → weighs 1 (is_id_not_read (after id_number id_table 3 s)) + 1 ≤ weighs 1 (is_id_not_read s)
asks_id id.NotRead e = omega arith
asks_id id.WaitingForHost e = absurd (cc)
asks_id id.Verified e = absurd (cc)
asks_id id.VerificationFailed e = absurd (cc)

verifies_map : (s : MapState) → is_among map_number (slots.NotRead ∷ []) s ≡ true
    → weighs 200 (is_map_not_read (after map_number map_table 1 s)) + 200 ≤ weighs 200 (is_map_not_read s)
verifies_map slots.NotRead e = omega arith
verifies_map slots.WaitingForHost e = absurd (cc)
verifies_map slots.Verified e = absurd (cc)
verifies_map slots.VerificationFailed e = absurd (cc)

asks_map : (s : MapState) → is_among map_number (slots.NotRead ∷ []) s ≡ true
    → weighs 200 (is_map_not_read (after map_number map_table 2 s)) + 1 ≤ weighs 200 (is_map_not_read s)
asks_map slots.NotRead e = omega arith
asks_map slots.WaitingForHost e = absurd (cc)
asks_map slots.Verified e = absurd (cc)
asks_map slots.VerificationFailed e = absurd (cc)

-- ---- the rows of ports

falls_4 : (f : Floor) (place : ℕ) (p : Port) → slice_get f.ports place ≡ Some p → is_among transfer_number (TransferBlocked ∷ []) p.states.transfer ≡ true → Falls f (firing 4 (suc place) 4)
falls_4 f place p s e =
    let state = unloads p.states.transfer e in
    let less = ports_fall (ports.fires_row 4 4) 1 place f.ports p s (omega (arith, state)) in
    omega (arith, less)

falls_6 : (f : Floor) (place : ℕ) (p : Port) → slice_get f.ports place ≡ Some p → is_among reservation_number (Reserved ∷ []) p.states.reservation ≡ true → Falls f (firing 6 (suc place) 3)
falls_6 f place p s e =
    let state = unreserves p.states.reservation e in
    let less = ports_fall (ports.fires_row 6 3) 1 place f.ports p s (omega (arith, state)) in
    omega (arith, less)

-- what came is told of, which leaves less than what is left of a carrier that is created
takes-left : (row : ℕ) (name : List ℕ) (p : Port) → is_some p.arrival ≡ true → port_left (ports.fires_row 7 row (taken_by name p)) + 299 ≤ port_left p
takes-left row name p came =
    let arrival : weighs 300 (is_some p.arrival) ≡ 300 = ap (weighs 300) came in
    let held = weighs_one (is_associated (after association_number association_table row p.states.association)) in
    omega (arith, arrival, held)

arrived-left : (f : Floor) (row place : ℕ) (p : Port) (a : Option Arrival) → slice_get f.ports place ≡ Some p → p.arrival ≡ a → is_some a ≡ true
    → floor_left (with_port (suc place) (ports.fires_row 7 row) (arrived (suc place) a f)) + 96 ≤ floor_left f
arrived-left f row place p None s is came = absurd (cc)
arrived-left f row place p (Some a) s is came =
    let twice = update_twice (taken_by a.name) (ports.fires_row 7 row) place f.ports in
    let less = ports_fall (λ (q : Port). ports.fires_row 7 row (taken_by a.name q)) 299 place f.ports p s (takes-left row a.name p (ap is_some is)) in
    let found = found-left f.next_carrier a.name f.carriers in
    let came = came-left a.name (suc place) a.is_read a.map (found_or_created f.next_carrier a.name f.carriers) in
    rw twice (omega (arith, less, found, came))

arriving-left : (f : Floor) (row place : ℕ) (p : Port) → slice_get f.ports place ≡ Some p → is_some p.arrival ≡ true
    → floor_left (with_port (suc place) (ports.fires_row 7 row) (arriving (suc place) f)) + 96 ≤ floor_left f
arriving-left f row place p s came =
    subst (λ (one : Option Port). floor_left (with_port (suc place) (ports.fires_row 7 row) (arrived (suc place) (arrival_at one) f)) + 96 ≤ floor_left f) (sym s)
    (arrived-left f row place p p.arrival s refl came)

falls_7_3 : (f : Floor) (place : ℕ) (p : Port) → slice_get f.ports place ≡ Some p → is_some p.arrival ≡ true → Falls f (firing 7 (suc place) 3)
falls_7_3 f place p s came =
    let less = arriving-left f 3 place p s came in
    let few = few_creations f (firing 7 (suc place) 3) in
    omega (arith, less, few)

falls_7_4 : (f : Floor) (place : ℕ) (p : Port) → slice_get f.ports place ≡ Some p → is_some p.arrival ≡ true → Falls f (firing 7 (suc place) 4)
falls_7_4 f place p s came =
    let less = arriving-left (without_owner (suc place) f) 4 place p s came in
    let forgotten = forgotten-left (owner (slice_get f.ports place)) f.carriers in
    let few = few_creations f (firing 7 (suc place) 4) in
    omega (arith, less, forgotten, few)

falls_7_5 : (f : Floor) (place : ℕ) (p : Port) → slice_get f.ports place ≡ Some p → is_some p.arrival ≡ true → Falls f (firing 7 (suc place) 5)
falls_7_5 f place p s came =
    let less = arriving-left f 5 place p s came in
    let few = few_creations f (firing 7 (suc place) 5) in
    omega (arith, less, few)

falls_7_7 : (f : Floor) (place : ℕ) (p : Port) → slice_get f.ports place ≡ Some p → is_among association_number (Associated ∷ []) p.states.association ≡ true → Falls f (firing 7 (suc place) 7)
falls_7_7 f place p s e =
    let state = frees p.states.association e in
    let twice = update_twice freed (ports.fires_row 7 7) place f.ports in
    let less = ports_fall (λ (q : Port). ports.fires_row 7 7 (freed q)) 1 place f.ports p s (omega (arith, state)) in
    rw twice (omega (arith, less))

-- ---- the rows of carriers

falls_8 : (f : Floor) (row carrier : ℕ) (c : Carrier) → carrier_numbered carrier f.carriers ≡ Some c → carrier_left (carriers.fires_row 8 row c) + 1 ≤ carrier_left c → Falls f (firing 8 carrier row)
falls_8 f row carrier c s state =
    let less = carriers_fall (carriers.fires_row 8 row) 1 carrier f.carriers c s state in
    omega (arith, less)

falls_9 : (f : Floor) (row less carrier : ℕ) (c : Carrier) → carrier_numbered carrier f.carriers ≡ Some c → carrier_left (carriers.fires_row 9 row c) + less ≤ carrier_left c → map_falls (firing 9 carrier row) < less → Falls f (firing 9 carrier row)
falls_9 f row less carrier c s state more =
    let falls = carriers_fall (carriers.fires_row 9 row) less carrier f.carriers c s state in
    omega (arith, falls, more)

-- ---- the least

-- no row that an input fires, and none of a creation, fires by itself
never : {P : Type 0} → false ≡ true → P
never e = absurd (true≢false (sym e))

-- what is left falls where a row is ready by itself, table by table
pub all_fall : (f : Floor) → EachTable (λ (m : Machine Floor). (object row : ℕ) → m.ready object f ≡ Some row → Falls f (firing m.table object row))
all_fall f = record {
  transfer = λ port row. ready_at_port transfer_number transfer_table (λ s. s.transfer) (λ to s. record s { transfer = to }) (λ (n r : ℕ). Falls f (firing 4 n r)) f port row
      (λ place p s. ((λ i _ _. never i), ((λ i _ _. never i), ((λ i _ _. never i), ((λ _ among _. falls_4 f place p s among), ((λ i _ _. never i), tt))))));
  access = λ port row r. no_access f port row r;
  reservation = λ port row. ready_at_port reservation_number reservation_table (λ s. s.reservation) (λ to s. record s { reservation = to }) (λ (n r : ℕ). Falls f (firing 6 n r)) f port row
      (λ place p s. ((λ i _ _. never i), ((λ i _ _. never i), ((λ _ among _. falls_6 f place p s among), tt))));
  association = λ port row. ready_at_port association_number association_table (λ s. s.association) (λ to s. record s { association = to }) (λ (n r : ℕ). Falls f (firing 7 n r)) f port row
      (λ place p s. (
        (λ i _ _. never i),
        (
          (λ i _ _. never i),
          (
            (λ _ _ came. falls_7_3 f place p s came),
            (
              (λ _ _ came. falls_7_4 f place p s (and_parts _ _ came).0),
              (
                (λ _ _ own. falls_7_5 f place p s (own_some p.carrier p.arrival own)),
                ((λ i _ _. never i), ((λ _ among _. falls_7_7 f place p s among), tt)),
              ),
            ),
          ),
        ),
      ));
  id = λ carrier row. ready_at_carrier id_number id_table (λ s. s.id) (λ to s. record s { id = to }) (λ (r : ℕ). Falls f (firing 8 carrier r)) f carrier row
      (λ c s. (
        (λ i _ _. never i),
        (
          (λ _ among _. let state = verifies_id c.states.id among in falls_8 f 2 carrier c s (omega (arith, state))),
          ((λ _ among _. let state = asks_id c.states.id among in falls_8 f 3 carrier c s (omega (arith, state))), ((λ i _ _. never i), ((λ i _ _. never i), tt))),
        ),
      ));
  map = λ carrier row. ready_at_carrier map_number map_table (λ s. s.map) (λ to s. record s { map = to }) (λ (r : ℕ). Falls f (firing 9 carrier r)) f carrier row
      (λ c s. (
        (λ _ among _. let state = verifies_map c.states.map among in falls_9 f 1 200 carrier c s (omega (arith, state)) (omega arith)),
        ((λ _ among _. let state = asks_map c.states.map among in falls_9 f 2 1 carrier c s (omega (arith, state)) (omega arith)), ((λ i _ _. never i), ((λ i _ _. never i), tt))),
      ));
  accessing = λ carrier row r. no_accessing f carrier row r;
}

-- so it falls with the least
pub least_falls : (f : Floor) (x : Firing) → floor_least f ≡ Some x → floor_left (floor_fired x f) + (map_falls x + length (creation_rows x f)) < floor_left f
least_falls f x e = least_cases (Falls f) f x (all_fall f) e
