-- What holds of the ports and of the carriers at them holds behind each row, but for those that are fired together with another.
use Rattle.std.proofs.Common.{◌≡◌, ℕ, suc, ◌==◌, Bool, true, not, ◌&&◌, ◌||◌, [], ◌∷◌, Option, refl, sym, is_some}
use Rattle.std.proofs.lemmas.Bool.{true≢false, and_parts}
use Rattle.gem_tables.specs.Table.{firing, is_one_of}
use Rattle.gem_tables.specs.declared.firing.Firing.{Firing}
use Rattle.gem_tables.proofs.Rows.{looked_for}
use Rattle.shop_floor.proofs.EachTable.{starts_cases}
use Rattle.load_port.specs.declared.record.Transfer.{Transfer}
use Rattle.load_port.specs.declared.record.Access.{Access}
use Rattle.load_port.specs.declared.record.Reservation.{Reservation}
use Rattle.load_port.specs.declared.record.Association.{Association}
use Rattle.load_port.specs.Tables.{PortRow, transfer_number, transfer_table, access_table, reservation_table, association_number, association_table}
use Rattle.load_port.specs.Ports as ports
use Rattle.carrier.specs.declared.carrier.Carrier.{Carrier}
use Rattle.carrier.specs.Carriers as carriers
use Rattle.carrier.specs.Carriers.{change_numbered}
use Rattle.shop_floor.specs.Floor.{Floor, with_port, with_carrier}
use Rattle.shop_floor.specs.Rows.{is_own, found_does}
use Rattle.shop_floor.specs.Machines.{floor_starts, floor_fired}
use Rattle.shop_floor.specs.Valid.{IsFloor}
use Rattle.shop_floor.proofs.Cases.{starts_at_port}
use Rattle.shop_floor.proofs.Keeps.{own_some}
use Rattle.shop_floor.proofs.Numbers.{LeavesCarrier, all_numbered}
use Rattle.place_laws.specs.Ports.{IsAtPort, IsNamedHere, AtPorts}
use Rattle.place_laws.proofs.Away.{away_numbered}
use Rattle.place_laws.proofs.PortChanges.{states-at-ports, carriers-at-ports}
use Rattle.place_laws.proofs.PortTransfers.{among_out, among_blocked, among_loadable, free-at-ports, finished-at-ports}
use Rattle.place_laws.proofs.PortArrivals.{arriving-at-ports, replaced-at-ports}
use Rattle.place_laws.proofs.PortOwners.{binding-at-ports, forgotten-at-ports, freed-at-ports}

-- it is none of the rows that place and remove a carrier, or forget one: rows 3 and 5 of table 4, and rows 2 and 6 of table 7
abbrev pub is_plain_row : Firing → Bool
is_plain_row x = not ((x.row.table == 4) && is_one_of (3 ∷ 5 ∷ []) x.row.row || (x.row.table == 7) && is_one_of (2 ∷ 6 ∷ []) x.row.row)

-- ---- table 4

transfer-at-ports : (f : Floor) (port row : ℕ) → AtPorts f → floor_starts (firing 4 port row) f ≡ true → is_plain_row (firing 4 port row) ≡ true → AtPorts (floor_fired (firing 4 port row) f)
transfer-at-ports f port row kept starts plain =
    starts_at_port transfer_number transfer_table (λ s. s.transfer) (λ to s. record s { transfer = to })
    (λ (n r : ℕ) (o : Option (PortRow Transfer)). is_plain_row (firing 4 n r) ≡ true → AtPorts (with_port n (ports.fires_row 4 r) (found_does o n f))) f port row
    (λ place p s. (
      (λ among wants plain. let is = among_out p.states.transfer among in free-at-ports 1 place f p s (rw is refl) kept),
      (
        (λ among wants plain. let is = among_loadable p.states.transfer among in free-at-ports 2 place f p s (rw is refl) kept),
        (
          (λ among wants plain. absurd (true≢false (sym plain))),
          (
            (λ among wants plain. finished-at-ports place f p s (among_blocked p.states.transfer among) wants kept),
            ((λ among wants plain. absurd (true≢false (sym plain))), tt),
          ),
        ),
      ),
    ))
    starts plain

-- ---- tables 5 and 6

access-at-ports : (f : Floor) (port row : ℕ) → AtPorts f → AtPorts (floor_fired (firing 5 port row) f)
access-at-ports f port row kept =
    let still = states-at-ports port (ports.fires_row 5 row) f (record { transfer = λ p. refl; arrival = λ p. refl; carrier = λ p. refl }) kept in
    looked_for (λ (o : Option (PortRow Access)). AtPorts (with_port port (ports.fires_row 5 row) (found_does o port f))) access_table row still (still, (still, tt))

reservation-at-ports : (f : Floor) (port row : ℕ) → AtPorts f → AtPorts (floor_fired (firing 6 port row) f)
reservation-at-ports f port row kept =
    let still = states-at-ports port (ports.fires_row 6 row) f (record { transfer = λ p. refl; arrival = λ p. refl; carrier = λ p. refl }) kept in
    looked_for (λ (o : Option (PortRow Reservation)). AtPorts (with_port port (ports.fires_row 6 row) (found_does o port f))) reservation_table row still (still, (still, (still, tt)))

-- ---- table 7

-- the association alone changes
pub associated-at-ports : (port row : ℕ) (f : Floor) → AtPorts f → AtPorts (with_port port (ports.fires_row 7 row) f)
associated-at-ports port row f kept = states-at-ports port (ports.fires_row 7 row) f (record { transfer = λ p. refl; arrival = λ p. refl; carrier = λ p. refl }) kept

association-at-ports : (f : Floor) (port row : ℕ) → IsFloor f → AtPorts f → floor_starts (firing 7 port row) f ≡ true → AtPorts (floor_fired (firing 7 port row) f)
association-at-ports f port row valid kept starts =
    starts_at_port association_number association_table (λ s. s.association) (λ to s. record s { association = to })
    (λ (n r : ℕ) (o : Option (PortRow Association)). AtPorts (with_port n (ports.fires_row 7 r) (found_does o n f))) f port row
    (λ place p s. (
      (λ among wants. associated-at-ports (suc place) 1 _ (binding-at-ports place f p s valid kept)),
      (
        (λ among wants. associated-at-ports (suc place) 2 _ (forgotten-at-ports place f p s kept)),
        (
          (λ among wants. associated-at-ports (suc place) 3 _ (arriving-at-ports place f p s wants kept)),
          (
            (λ among wants. associated-at-ports (suc place) 4 _ (replaced-at-ports place f p s (and_parts (is_some p.arrival) (not (is_own p.carrier p.arrival)) wants).0 kept)),
            (
              (λ among wants. associated-at-ports (suc place) 5 _ (arriving-at-ports place f p s (own_some p.carrier p.arrival wants) kept)),
              (
                (λ among wants. associated-at-ports (suc place) 6 _ (forgotten-at-ports place f p s kept)),
                ((λ among wants. associated-at-ports (suc place) 7 _ (freed-at-ports place f p s kept)), tt),
              ),
            ),
          ),
        ),
      ),
    ))
    starts

-- rows 2 and 6 of it: there is a carrier fewer, and none belongs to the port
pub forgetting-at-ports : (row port : ℕ) (f : Floor) → is_one_of (2 ∷ 6 ∷ []) row ≡ true → floor_starts (firing 7 port row) f ≡ true → IsFloor f → AtPorts f → AtPorts (floor_fired (firing 7 port row) f)
forgetting-at-ports row port f among starts valid kept = association-at-ports f port row valid kept starts

-- ---- tables 8 to 10

pub carrier-at-ports : (number : ℕ) (change : Carrier → Carrier) (f : Floor) → LeavesCarrier change → AtPorts f → AtPorts (with_carrier number change f)
carrier-at-ports number change f leaves kept =
    carriers-at-ports f (change_numbered number change f.carriers) f.next_carrier
    (all_numbered (IsAtPort f.ports) number change f.carriers (λ c at. rw (leaves.port c, leaves.present c) at) kept.at)
    (all_numbered IsNamedHere number change f.carriers (λ c named. rw (leaves.port c, leaves.present c, leaves.name c) named) kept.named)
    (away_numbered number change f.carriers leaves)
    kept

pub states_left : (table row : ℕ) → LeavesCarrier (carriers.fires_row table row)
states_left table row = record { number = λ c. refl; name = λ c. refl; port = λ c. refl; present = λ c. refl; bound = λ c. refl }

-- ---- all tables

pub row-at-ports : (x : Firing) (f : Floor) → floor_starts x f ≡ true → IsFloor f → is_plain_row x ≡ true → AtPorts f → AtPorts (floor_fired x f)
row-at-ports x f starts valid plain kept =
    starts_cases (λ (y : Firing). is_plain_row y ≡ true → AtPorts (floor_fired y f)) f x (record {
      transfer = λ s plain. transfer-at-ports f x.object x.row.row kept s plain;
      access = λ s plain. access-at-ports f x.object x.row.row kept;
      reservation = λ s plain. reservation-at-ports f x.object x.row.row kept;
      association = λ s plain. association-at-ports f x.object x.row.row valid kept s;
      id = λ s plain. carrier-at-ports x.object (carriers.fires_row 8 x.row.row) f (states_left 8 x.row.row) kept;
      map = λ s plain. carrier-at-ports x.object (carriers.fires_row 9 x.row.row) f (states_left 9 x.row.row) kept;
      accessing = λ s plain. carrier-at-ports x.object (carriers.fires_row 10 x.row.row) f (states_left 10 x.row.row) kept;
    }) starts plain
