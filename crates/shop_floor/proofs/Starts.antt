-- The row that is ready by itself starts.
use Rattle.std.proofs.Common.{◌≡◌, ℕ, true, List, Option, Some, None, refl}
use Rattle.std.specs.List.{AllByRecursion}
use Rattle.gem_tables.specs.Machine.{Machine}
use Rattle.gem_tables.specs.Table.{row_of, firing}
use Rattle.gem_tables.specs.declared.firing.Firing.{Firing}
use Rattle.gem_tables.proofs.Rows.{ready_may_fire}
use Rattle.shop_floor.proofs.EachTable.{EachTable, least_cases}
use Rattle.load_port.specs.declared.port.Port.{Port}
use Rattle.load_port.specs.declared.record.PortRecord.{PortRecord}
use Rattle.load_port.specs.Tables.{PortRow, transfer_number, transfer_table, access_number as mode_number, access_table, reservation_number, reservation_table, association_number, association_table}
use Rattle.load_port.specs.Ports.{port_numbered}
use Rattle.carrier.specs.declared.carrier.Carrier.{Carrier}
use Rattle.carrier.specs.declared.record.CarrierRecord.{CarrierRecord}
use Rattle.carrier.specs.Tables.{CarrierRow, id_number, id_table, map_number, map_table, access_number, accessing_table}
use Rattle.carrier.specs.Wants.{carrier_wants}
use Rattle.carrier.specs.Carriers.{carrier_numbered}
use Rattle.shop_floor.specs.Floor.{Floor}
use Rattle.shop_floor.specs.Rows.{port_wants}
use Rattle.shop_floor.specs.Machines.{port_starts, port_ready, carrier_starts, carrier_ready, floor_starts, floor_least}

module _ {S : Type 0} (number : S → ℕ) (rows : List (PortRow S)) (state : PortRecord → S) (put : S → PortRecord → PortRecord) where
  at_port : (f : Floor) (port row : ℕ) (o : Option Port) → AllByRecursion (λ r. row_of rows r.number ≡ Some r) rows → port_ready number rows state put port f o ≡ Some row → port_starts number rows state put row port f o ≡ true
  at_port f port row None apart e = absurd (cc)
  at_port f port row (Some p) apart e = ready_may_fire number (λ want. port_wants want port p f.carriers) rows row (state p.states) apart e

module _ {S : Type 0} (number : S → ℕ) (rows : List (CarrierRow S)) (state : CarrierRecord → S) (put : S → CarrierRecord → CarrierRecord) where
  at_carrier : (row : ℕ) (o : Option Carrier) → AllByRecursion (λ r. row_of rows r.number ≡ Some r) rows → carrier_ready number rows state put o ≡ Some row → carrier_starts number rows state put row o ≡ true
  at_carrier row None apart e = absurd (cc)
  at_carrier row (Some c) apart e = ready_may_fire number (λ want. carrier_wants want c) rows row (state c.states) apart e

-- a row that is ready by itself starts, table by table
pub all_start : (f : Floor) → EachTable (λ (m : Machine Floor). (object row : ℕ) → m.ready object f ≡ Some row → floor_starts (firing m.table object row) f ≡ true)
all_start f = record {
  transfer = λ o r s. at_port transfer_number transfer_table (λ s. s.transfer) (λ to s. record s { transfer = to }) f o r (port_numbered o f.ports) (refl, (refl, (refl, (refl, (refl, tt))))) s;
  access = λ o r s. at_port mode_number access_table (λ s. s.access) (λ to s. record s { access = to }) f o r (port_numbered o f.ports) (refl, (refl, tt)) s;
  reservation = λ o r s. at_port reservation_number reservation_table (λ s. s.reservation) (λ to s. record s { reservation = to }) f o r (port_numbered o f.ports) (refl, (refl, (refl, tt))) s;
  association = λ o r s. at_port association_number association_table (λ s. s.association) (λ to s. record s { association = to }) f o r (port_numbered o f.ports) (refl, (refl, (refl, (refl, (refl, (refl, (refl, tt))))))) s;
  id = λ o r s. at_carrier id_number id_table (λ s. s.id) (λ to s. record s { id = to }) r (carrier_numbered o f.carriers) (refl, (refl, (refl, (refl, (refl, tt))))) s;
  map = λ o r s. at_carrier map_number map_table (λ s. s.map) (λ to s. record s { map = to }) r (carrier_numbered o f.carriers) (refl, (refl, (refl, (refl, tt)))) s;
  accessing = λ o r s. at_carrier access_number accessing_table (λ s. s.access) (λ to s. record s { access = to }) r (carrier_numbered o f.carriers) (refl, (refl, (refl, (refl, tt)))) s;
}

-- so the least does
pub least_starts : (f : Floor) (x : Firing) → floor_least f ≡ Some x → floor_starts x f ≡ true
least_starts f x e = least_cases (λ (y : Firing). floor_starts y f ≡ true) f x (all_start f) e
