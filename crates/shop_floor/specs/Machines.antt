-- Tables 4 to 10 at work on the shop floor (after SEMI E87; this tool's profile, tables 4 to 10 and settling). What starts, what is
-- ready and what a row does is read from the printed tables, which stand in load_port and carrier.
use Rattle.std.specs.Prelude.{ℕ, Bool, true, false, List, [], ◌∷◌, map, Option, Some, None}
use Rattle.gem_tables.specs.Table.{row_of, after, may_fire, first_itself}
use Rattle.gem_tables.specs.Machine.{Machine, starts_in, fired_in, creates_in, object_in, least_in}
use Rattle.gem_tables.specs.declared.firing.Firing.{Firing}
use Rattle.load_port.specs.declared.port.Port.{Port}
use Rattle.load_port.specs.declared.record.PortRecord.{PortRecord}
use Rattle.load_port.specs.Tables.{PortRow, transfer_number, transfer_table, access_number as mode_number, access_table, reservation_number, reservation_table, association_number, association_table}
use Rattle.load_port.specs.Ports.{port_numbered}
use Rattle.carrier.specs.declared.carrier.Carrier.{Carrier}
use Rattle.carrier.specs.declared.record.CarrierRecord.{CarrierRecord}
use Rattle.carrier.specs.Tables.{CarrierRow, id_number, id_table, map_number, map_table, access_number, accessing_table}
use Rattle.carrier.specs.Carriers.{carrier_numbered}
use Rattle.carrier.specs.Wants.{carrier_wants}
use Rattle.shop_floor.specs.Floor.{Floor, with_port, with_carrier, numbers_from, number_of, port_name, carrier_name}
use Rattle.shop_floor.specs.Rows.{port_wants, found_does, found_creates}

-- ---- a table of the ports, of which each has one of these states

module _ {S : Type 0} (number : S → ℕ) (rows : List (PortRow S)) (state : PortRecord → S) (put : S → PortRecord → PortRecord) where
  -- the row of a number starts at a port
  abbrev pub port_starts : ℕ → ℕ → Floor → Option Port → Bool
  port_starts row port f None = false
  port_starts row port f (Some p) = may_fire number (λ want. port_wants want port p f.carriers) rows row (state p.states)

  -- the least row that is ready by itself at a port
  abbrev pub port_ready : ℕ → Floor → Option Port → Option ℕ
  port_ready port f None = None
  port_ready port f (Some p) = first_itself number (λ want. port_wants want port p f.carriers) rows (state p.states)

  -- the state of a port behind the row of a number
  abbrev pub port_moves : ℕ → Port → Port
  port_moves row p = record p { states = put (after number rows row (state p.states)) p.states }

  -- the table at work
  abbrev pub port_machine : ℕ → Machine Floor
  port_machine table = record {
    table = table;
    objects = λ f. numbers_from 1 f.ports;
    starts = λ row port f. port_starts row port f (port_numbered port f.ports);
    ready = λ port f. port_ready port f (port_numbered port f.ports);
    fired = λ row port f. with_port port (port_moves row) (found_does (row_of rows row) port f);
    creates = λ row port f. found_creates (row_of rows row) port f;
    name = λ port f. port_name port (port_numbered port f.ports);
  }

-- ---- a table of the carriers, of which each has one of these states

module _ {S : Type 0} (number : S → ℕ) (rows : List (CarrierRow S)) (state : CarrierRecord → S) (put : S → CarrierRecord → CarrierRecord) where
  -- the row of a number starts at a carrier
  abbrev pub carrier_starts : ℕ → Option Carrier → Bool
  carrier_starts row None = false
  carrier_starts row (Some c) = may_fire number (λ want. carrier_wants want c) rows row (state c.states)

  -- the least row that is ready by itself at a carrier
  abbrev pub carrier_ready : Option Carrier → Option ℕ
  carrier_ready None = None
  carrier_ready (Some c) = first_itself number (λ want. carrier_wants want c) rows (state c.states)

  -- the state of a carrier behind the row of a number
  abbrev pub carrier_moves : ℕ → Carrier → Carrier
  carrier_moves row c = record c { states = put (after number rows row (state c.states)) c.states }

  -- the table at work; its rows do no more, and create nothing
  abbrev pub carrier_machine : ℕ → Machine Floor
  carrier_machine table = record {
    table = table;
    objects = λ f. map number_of f.carriers;
    starts = λ row carrier f. carrier_starts row (carrier_numbered carrier f.carriers);
    ready = λ carrier f. carrier_ready (carrier_numbered carrier f.carriers);
    fired = λ row carrier f. with_carrier carrier (carrier_moves row) f;
    creates = λ row carrier f. [];
    name = λ carrier f. carrier_name (carrier_numbered carrier f.carriers);
  }

-- ---- tables 4 to 10

abbrev pub transfer_machine : Machine Floor
transfer_machine = port_machine transfer_number transfer_table (λ s. s.transfer) (λ to s. record s { transfer = to }) 4

abbrev pub access_machine : Machine Floor
access_machine = port_machine mode_number access_table (λ s. s.access) (λ to s. record s { access = to }) 5

abbrev pub reservation_machine : Machine Floor
reservation_machine = port_machine reservation_number reservation_table (λ s. s.reservation) (λ to s. record s { reservation = to }) 6

abbrev pub association_machine : Machine Floor
association_machine = port_machine association_number association_table (λ s. s.association) (λ to s. record s { association = to }) 7

abbrev pub id_machine : Machine Floor
id_machine = carrier_machine id_number id_table (λ s. s.id) (λ to s. record s { id = to }) 8

abbrev pub map_machine : Machine Floor
map_machine = carrier_machine map_number map_table (λ s. s.map) (λ to s. record s { map = to }) 9

abbrev pub accessing_machine : Machine Floor
accessing_machine = carrier_machine access_number accessing_table (λ s. s.access) (λ to s. record s { access = to }) 10

abbrev pub floor_machines : List (Machine Floor)
floor_machines =
    transfer_machine ∷ access_machine ∷ reservation_machine ∷ association_machine ∷ id_machine ∷ map_machine ∷ accessing_machine ∷ []

-- ---- all of them

-- the row of a firing starts
abbrev pub floor_starts : Firing → Floor → Bool
floor_starts x f = starts_in floor_machines x f

-- a row fires: its effect, and the state of its object
abbrev pub floor_fired : Firing → Floor → Floor
floor_fired x f = fired_in floor_machines x f

-- the rows of the carrier that a firing creates, which fire straight behind it
abbrev pub creation_rows : Firing → Floor → List Firing
creation_rows x f = creates_in floor_machines x f

abbrev pub is_some_row : List Firing → Bool
is_some_row [] = false
is_some_row (x ∷ xs) = true

-- the firing creates a carrier
abbrev pub creates : Firing → Floor → Bool
creates x f = is_some_row (creation_rows x f)

-- the least row that is ready by itself, by table, object and row: ports by number, carriers by creation
abbrev pub floor_least : Floor → Option Firing
floor_least f = least_in floor_machines f

-- the name of the object of a firing: a port's, or a carrier's (this tool's profile, object names)
abbrev pub object_name : Firing → Floor → List ℕ
object_name x f = object_in floor_machines x f
