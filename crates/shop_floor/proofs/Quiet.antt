-- No row is ready where the tool begins.
use Rattle.std.proofs.Common.{◌≡◌, ℕ, zero, suc, List, Option, Some, None, slice_get, refl}
use Rattle.gem_tables.specs.Machine.{first_ready}
use Rattle.gem_tables.proofs.Machines.{none_ready}
use Rattle.load_port.specs.declared.port.Port.{Port}
use Rattle.load_port.specs.declared.record.PortRecord.{PortRecord}
use Rattle.load_port.specs.Tables.{PortRow, transfer_number, transfer_table, access_number, access_table, reservation_number, reservation_table, association_number, association_table}
use Rattle.load_port.specs.Ports.{first_port, first_ports, port_numbered}
use Rattle.shop_floor.specs.Floor.{opening, numbers_from}
use Rattle.shop_floor.specs.Machines.{port_ready, floor_least}

-- what is true of no port and of a first one is true of each
at_first : (P : Option Port → Type 0) (ports place : ℕ) → P None → P (Some first_port) → P (slice_get (first_ports ports) place)
at_first P zero place none one = none
at_first P (suc ports) zero none one = one
at_first P (suc ports) (suc place) none one = at_first P ports place none one

first_numbered : (P : Option Port → Type 0) (ports number : ℕ) → P None → P (Some first_port) → P (port_numbered number (first_ports ports))
first_numbered P ports zero none one = none
first_numbered P ports (suc place) none one = at_first P ports place none one

-- a table of which no row is ready at a first port
quiet : {S : Type 0} (number : S → ℕ) (rows : List (PortRow S)) (state : PortRecord → S) (put : S → PortRecord → PortRecord) (table ports : ℕ)
    → ((n : ℕ) → port_ready number rows state put n (opening ports) (Some first_port) ≡ None)
    → first_ready table (λ n. port_ready number rows state put n (opening ports) (port_numbered n (first_ports ports))) (numbers_from 1 (first_ports ports)) ≡ None
quiet number rows state put table ports one =
    none_ready table (λ n. port_ready number rows state put n (opening ports) (port_numbered n (first_ports ports))) (numbers_from 1 (first_ports ports))
    (λ n. first_numbered (λ (o : Option Port). port_ready number rows state put n (opening ports) o ≡ None) ports n refl (one n))

pub opening_quiet : (ports : ℕ) → floor_least (opening ports) ≡ None
opening_quiet ports =
    let transfer = quiet transfer_number transfer_table (λ s. s.transfer) (λ to s. record s { transfer = to }) 4 ports (λ n. refl) in
    let access = quiet access_number access_table (λ s. s.access) (λ to s. record s { access = to }) 5 ports (λ n. refl) in
    let reservation = quiet reservation_number reservation_table (λ s. s.reservation) (λ to s. record s { reservation = to }) 6 ports (λ n. refl) in
    let association = quiet association_number association_table (λ s. s.association) (λ to s. record s { association = to }) 7 ports (λ n. refl) in
    rw (transfer, access, reservation, association) refl
