-- The carrier at a port that is READY TO UNLOAD goes on to have finished behind each row of tables 7 to 10, so behind each row.
use Rattle.std.proofs.Common.{◌≡◌, ℕ, suc, true, false, not, List, find, Option, Some, None, is_some, slice_get, refl, sym, ap, subst, ◌∙◌}
use Rattle.std.specs.List.{AllByRecursion}
use Rattle.std.proofs.lemmas.Bool.{true≢false, both_ways, and_parts}
use Rattle.gem_tables.specs.Table.{firing}
use Rattle.gem_tables.specs.declared.firing.Firing.{Firing}
use Rattle.shop_floor.proofs.EachTable.{starts_cases}
use Rattle.load_port.specs.declared.port.Port.{Port}
use Rattle.load_port.specs.declared.port.Arrival.{Arrival}
use Rattle.load_port.specs.declared.record.Transfer.{Transfer}
use Rattle.load_port.specs.declared.record.Transfer.TheVariants.{OutOfService, TransferBlocked, ReadyToLoad, ReadyToUnload}
use Rattle.load_port.specs.declared.record.Association.{Association}
use Rattle.load_port.specs.Record.{is_blocked, is_unloadable}
use Rattle.load_port.specs.Tables.{PortRow, association_number, association_table}
use Rattle.load_port.specs.Ports as ports
use Rattle.load_port.specs.Ports.{port_numbered, change_port}
use Rattle.carrier.specs.declared.carrier.Carrier.{Carrier}
use Rattle.carrier.specs.Carriers as carriers
use Rattle.carrier.specs.Carriers.{carrier_numbered, change_named, found_or_created, came_to, binds, marks}
use Rattle.shop_floor.specs.Floor.{Floor, with_port, with_carrier, with_marked}
use Rattle.shop_floor.specs.Rows.{freed, owned_by, taken_by, owner, forgets, is_directed, bound_to, binding, forgetting, without_owner, arrival_at, arrived, arriving, is_own, found_does}
use Rattle.shop_floor.specs.Machines.{floor_starts, floor_fired}
use Rattle.shop_floor.specs.Valid.{IsFloor}
use Rattle.shop_floor.proofs.Apart.{all_changed, all_found}
use Rattle.shop_floor.proofs.Belonging.{get_updated}
use Rattle.shop_floor.proofs.Cases.{starts_at_port}
use Rattle.shop_floor.proofs.Keeps.{with_arrival, own_some}
use Rattle.shop_floor.proofs.Numbers.{all_numbered, all_at_number}
use Rattle.place_laws.specs.Ports.{unloads, IsFinishedThere, IsReadById, AtPorts, Unloading}
use Rattle.place_laws.proofs.Away.{all_forgets}
use Rattle.place_laws.proofs.PortChanges.{blocked_where}
use Rattle.place_laws.proofs.UnloadStates.{StaysFinished, id_finished, map_finished, access_finished, id_by_id, map_by_id}
use Rattle.place_laws.proofs.UnloadPorts.{unloads_before, moved-unloading, ports-unloading, transfer-unloading, vacated-unloading, mode-unloading, reservation-unloading}

-- ---- the carrier of a name changes, but neither in its states nor where it is

-- the change leaves them
pub record LeavesStates (change : Carrier → Carrier) : Type 0 where
  pub states : (c : Carrier) → (change c).states ≡ c.states
  pub present : (c : Carrier) → (change c).present ≡ c.present
  pub port : (c : Carrier) → (change c).port ≡ c.port

pub finished_named : (name : List ℕ) (change : Carrier → Carrier) (f : Floor) → LeavesStates change → Unloading f → AllByRecursion (IsFinishedThere f.ports) (change_named name change f.carriers)
finished_named name change f leaves u =
    all_changed (IsFinishedThere f.ports) (IsFinishedThere f.ports) name change f.carriers (λ c is was. rw (leaves.states c, leaves.present c, leaves.port c) was) (λ c other was. was) u.finished

pub by_id_named : (name : List ℕ) (change : Carrier → Carrier) (cs : List Carrier) → ((c : Carrier) → (change c).states ≡ c.states) → AllByRecursion IsReadById cs → AllByRecursion IsReadById (change_named name change cs)
by_id_named name change cs states all = all_changed IsReadById IsReadById name change cs (λ c is was. rw (states c) was) (λ c other was. was) all

-- one is marked stopped
pub marked-unloading : (name : List ℕ) (f : Floor) → Unloading f → Unloading (with_marked name f)
marked-unloading name f u = record {
  finished = finished_named name marks f (record { states = λ c. refl; present = λ c. refl; port = λ c. refl }) u;
  by_id = by_id_named name marks f.carriers (λ c. refl) u.by_id;
}

-- ---- table 7

blocked_none : (t : Transfer) → is_blocked t ≡ true → is_unloadable t ≡ false
blocked_none OutOfService e = refl
blocked_none TransferBlocked e = refl
blocked_none ReadyToLoad e = refl
blocked_none ReadyToUnload e = absurd (cc)

-- one is found, or created
pub finished_found : (name : List ℕ) (f : Floor) → Unloading f → AllByRecursion (IsFinishedThere f.ports) (found_or_created f.next_carrier name f.carriers)
finished_found name f u = all_found (IsFinishedThere f.ports) f.next_carrier name f.carriers (λ new present. absurd (true≢false (sym present))) u.finished

pub by_id_found : (name : List ℕ) (f : Floor) → Unloading f → AllByRecursion IsReadById (found_or_created f.next_carrier name f.carriers)
by_id_found name f u = all_found IsReadById f.next_carrier name f.carriers (λ new read. absurd (true≢false read)) u.by_id

-- rows 3 to 5: the port is TRANSFER BLOCKED
arrived-unloading : (place : ℕ) (f : Floor) (p : Port) (a : Arrival) → slice_get f.ports place ≡ Some p → is_blocked p.states.transfer ≡ true → Unloading f → Unloading (arrived (suc place) (Some a) f)
arrived-unloading place f p a s blocked u = record {
  finished = all_changed (IsFinishedThere f.ports) (IsFinishedThere (change_port (suc place) (taken_by a.name) f.ports)) a.name comes (found_or_created f.next_carrier a.name f.carriers)
      (λ c named was present there. absurd (both_ways _ none there))
      (λ c other was present there. was present (unloads_before c.port (suc place) (taken_by a.name) f.ports (λ q e. e) there))
      (finished_found a.name f u);
  by_id = by_id_named a.name comes (found_or_created f.next_carrier a.name f.carriers) (λ c. refl) (by_id_found a.name f u);
} where
  comes : Carrier → Carrier
  comes = came_to (suc place) a.is_read a.map

  none : unloads (port_numbered (suc place) (change_port (suc place) (taken_by a.name) f.ports)) ≡ false
  none = ap unloads (get_updated place (taken_by a.name) f.ports p s) ∙ blocked_none p.states.transfer blocked

-- where something came
arriving-unloading : (place : ℕ) (f : Floor) (p : Port) → slice_get f.ports place ≡ Some p → is_some p.arrival ≡ true → is_blocked p.states.transfer ≡ true → Unloading f → Unloading (arriving (suc place) f)
arriving-unloading place f p s some blocked u =
    with_arrival p.arrival some
    (λ a is. subst (λ o. Unloading (arrived (suc place) (arrival_at o) f)) (sym s)
    (subst (λ o. Unloading (arrived (suc place) o f)) (sym is) (arrived-unloading place f p a s blocked u)))

-- the port's carrier is forgotten before that
without-unloading : (port : ℕ) (f : Floor) → Unloading f → Unloading (without_owner port f)
without-unloading port f u = record {
  finished = all_forgets (IsFinishedThere f.ports) (owner (port_numbered port f.ports)) f.carriers u.finished;
  by_id = all_forgets IsReadById (owner (port_numbered port f.ports)) f.carriers u.by_id;
}

-- row 1
binding-unloading : (port : ℕ) (f : Floor) → Unloading f → Unloading (binding port f)
binding-unloading port f u = of (find (is_directed port) f.carriers) where
  of : (o : Option Carrier) → Unloading (bound_to port o f)
  of None = u
  of (Some c) =
      moved-unloading port (owned_by c.name) f (change_named c.name binds f.carriers) f.next_carrier (λ q e. e)
      (finished_named c.name binds f (record { states = λ d. refl; present = λ d. refl; port = λ d. refl }) u)
      (by_id_named c.name binds f.carriers (λ d. refl) u.by_id)

-- the port's carrier is forgotten
forgetting-unloading : (port : ℕ) (f : Floor) → Unloading f → Unloading (forgetting port f)
forgetting-unloading port f u =
    moved-unloading port freed f (forgets (owner (port_numbered port f.ports)) f.carriers) f.next_carrier (λ q e. e)
    (all_forgets (IsFinishedThere f.ports) (owner (port_numbered port f.ports)) f.carriers u.finished)
    (all_forgets IsReadById (owner (port_numbered port f.ports)) f.carriers u.by_id)

-- the association alone changes
associated-unloading : (port row : ℕ) (f : Floor) → Unloading f → Unloading (with_port port (ports.fires_row 7 row) f)
associated-unloading port row f u = ports-unloading port (ports.fires_row 7 row) f (λ q e. e) u

-- rows 2 and 6, wherever they fire
pub unbound-unloading : (port : ℕ) (f : Floor) → Unloading f → Unloading (floor_fired (firing 7 port 2) f)
unbound-unloading port f u = associated-unloading port 2 (forgetting port f) (forgetting-unloading port f u)

pub forgotten-unloading : (port : ℕ) (f : Floor) → Unloading f → Unloading (floor_fired (firing 7 port 6) f)
forgotten-unloading port f u = associated-unloading port 6 (forgetting port f) (forgetting-unloading port f u)

pub association-unloading : (f : Floor) (port row : ℕ) → floor_starts (firing 7 port row) f ≡ true → AtPorts f → Unloading f → Unloading (floor_fired (firing 7 port row) f)
association-unloading f port row starts at u =
    starts_at_port association_number association_table (λ s. s.association) (λ to s. record s { association = to })
    (λ (n r : ℕ) (o : Option (PortRow Association)). Unloading (with_port n (ports.fires_row 7 r) (found_does o n f))) f port row
    (λ place p s. (
      (λ among wants. associated-unloading (suc place) 1 _ (binding-unloading (suc place) f u)),
      (
        (λ among wants. associated-unloading (suc place) 2 _ (forgetting-unloading (suc place) f u)),
        (
          (λ among wants. comes place p s 3 wants),
          (
            (λ among wants. replaces place p s (and_parts (is_some p.arrival) (not (is_own p.carrier p.arrival)) wants).0),
            (
              (λ among wants. comes place p s 5 (own_some p.carrier p.arrival wants)),
              (
                (λ among wants. associated-unloading (suc place) 6 _ (forgetting-unloading (suc place) f u)),
                ((λ among wants. associated-unloading (suc place) 7 _ (ports-unloading (suc place) freed f (λ q e. e) u)), tt),
              ),
            ),
          ),
        ),
      ),
    ))
    starts where
      blocked : (place : ℕ) (p : Port) → slice_get f.ports place ≡ Some p → is_some p.arrival ≡ true → is_blocked p.states.transfer ≡ true
      blocked place p s some = blocked_where place f p s at some

      comes : (place : ℕ) (p : Port) → slice_get f.ports place ≡ Some p → (r : ℕ) → is_some p.arrival ≡ true → Unloading (with_port (suc place) (ports.fires_row 7 r) (arriving (suc place) f))
      comes place p s r some = associated-unloading (suc place) r _ (arriving-unloading place f p s some (blocked place p s some) u)

      replaces : (place : ℕ) (p : Port) → slice_get f.ports place ≡ Some p → is_some p.arrival ≡ true → Unloading (with_port (suc place) (ports.fires_row 7 4) (arriving (suc place) (without_owner (suc place) f)))
      replaces place p s some = associated-unloading (suc place) 4 _ (arriving-unloading place (without_owner (suc place) f) p s some (blocked place p s some) (without-unloading (suc place) f u))

-- ---- a carrier is removed

-- row 5 of table 4, and row 6 of table 7 behind it
pub removal-unloading : (port : ℕ) (f : Floor) → Unloading f → Unloading (floor_fired (firing 7 port 6) (floor_fired (firing 4 port 5) f))
removal-unloading port f u = forgotten-unloading port (floor_fired (firing 4 port 5) f) (vacated-unloading port f u)

-- ---- tables 8 to 10

states-unloading : (table carrier row : ℕ) (f : Floor) → StaysFinished table row → ((c : Carrier) → carrier_numbered carrier f.carriers ≡ Some c → IsReadById c → IsReadById (carriers.fires_row table row c)) → Unloading f → Unloading (with_carrier carrier (carriers.fires_row table row) f)
states-unloading table carrier row f still reads u = record {
  finished = all_numbered (IsFinishedThere f.ports) carrier (carriers.fires_row table row) f.carriers (λ c was present there. still c.states (was present there)) u.finished;
  by_id = all_at_number IsReadById carrier (carriers.fires_row table row) f.carriers reads u.by_id;
}

pub id-unloading : (f : Floor) (carrier row : ℕ) → Unloading f → Unloading (floor_fired (firing 8 carrier row) f)
id-unloading f carrier row u = states-unloading 8 carrier row f (id_finished row) (λ c is by_id. id_by_id row c by_id) u

pub map-unloading : (f : Floor) (carrier row : ℕ) → floor_starts (firing 9 carrier row) f ≡ true → Unloading f → Unloading (floor_fired (firing 9 carrier row) f)
map-unloading f carrier row starts u = states-unloading 9 carrier row f (map_finished row) (map_by_id f carrier row starts) u

pub accessing-unloading : (f : Floor) (carrier row : ℕ) → Unloading f → Unloading (floor_fired (firing 10 carrier row) f)
accessing-unloading f carrier row u = states-unloading 10 carrier row f (access_finished row) (λ c is by_id. by_id) u

-- ---- all tables

pub row-unloading : (x : Firing) (f : Floor) → floor_starts x f ≡ true → IsFloor f → AtPorts f → Unloading f → Unloading (floor_fired x f)
row-unloading x f starts valid at u =
    starts_cases (λ (y : Firing). Unloading (floor_fired y f)) f x (record {
      transfer = λ s. transfer-unloading f x.object x.row.row s valid u;
      access = λ s. mode-unloading f x.object x.row.row u;
      reservation = λ s. reservation-unloading f x.object x.row.row u;
      association = λ s. association-unloading f x.object x.row.row s at u;
      id = λ s. id-unloading f x.object x.row.row u;
      map = λ s. map-unloading f x.object x.row.row s u;
      accessing = λ s. accessing-unloading f x.object x.row.row u;
    }) starts
