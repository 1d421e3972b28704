-- The port of a row that starts is there.
use Rattle.std.proofs.Common.{◌≡◌, ℕ, zero, suc, ◌≤◌, Bool, true, false, [], ◌∷◌, Option, Some, None, refl, sym, arith}
use Rattle.std.proofs.lemmas.Bool.{true≢false, both_ways}
use Rattle.std.proofs.lemmas.Option.{slice_get_within}
use Rattle.gem_tables.specs.Table.{is_one_of}
use Rattle.gem_tables.specs.declared.firing.Firing.{Firing}
use Rattle.shop_floor.proofs.EachTable.{starts_cases}
use Rattle.load_port.specs.declared.port.Port.{Port}
use Rattle.load_port.specs.Ports.{most_ports, port_numbered}
use Rattle.load_port.specs.Tables.{transfer_number, transfer_table, access_number, access_table, reservation_number, reservation_table, association_number, association_table}
use Rattle.shop_floor.specs.Floor.{Floor}
use Rattle.shop_floor.specs.Machines.{port_starts, floor_starts}
use Rattle.shop_floor.specs.Valid.{IsFloor}

-- a port of a number that is there
there : (f : Floor) (port : ℕ) (p : Port) → IsFloor f → port_numbered port f.ports ≡ Some p → port ≤ most_ports
there f zero p valid e = omega arith
there f (suc place) p valid e = let within = slice_get_within f.ports place p e in omega (arith, within, valid.few)

-- where a test doesn't hold without one, the port is there
tested : (f : Floor) (port : ℕ) (test : Option Port → Bool) → IsFloor f → test None ≡ false → test (port_numbered port f.ports) ≡ true → port ≤ most_ports
tested f port test valid none e = of (port_numbered port f.ports) refl e where
  of : (o : Option Port) → port_numbered port f.ports ≡ o → test o ≡ true → port ≤ most_ports
  of None q t = absurd (both_ways _ none t)
  of (Some p) q t = there f port p valid q

pub port_within : (x : Firing) (f : Floor) → floor_starts x f ≡ true → is_one_of (4 ∷ 5 ∷ 6 ∷ 7 ∷ []) x.row.table ≡ true → IsFloor f → x.object ≤ most_ports
port_within x f starts of_port valid =
    starts_cases (λ (y : Firing). is_one_of (4 ∷ 5 ∷ 6 ∷ 7 ∷ []) y.row.table ≡ true → y.object ≤ most_ports) f x (record {
      transfer = λ s t. tested f x.object (port_starts transfer_number transfer_table (λ r. r.transfer) (λ to r. record r { transfer = to }) x.row.row x.object f) valid refl s;
      access = λ s t. tested f x.object (port_starts access_number access_table (λ r. r.access) (λ to r. record r { access = to }) x.row.row x.object f) valid refl s;
      reservation = λ s t. tested f x.object (port_starts reservation_number reservation_table (λ r. r.reservation) (λ to r. record r { reservation = to }) x.row.row x.object f) valid refl s;
      association = λ s t. tested f x.object (port_starts association_number association_table (λ r. r.association) (λ to r. record r { association = to }) x.row.row x.object f) valid refl s;
      id = λ s t. absurd (true≢false (sym t));
      map = λ s t. absurd (true≢false (sym t));
      accessing = λ s t. absurd (true≢false (sym t));
    }) starts of_port
