-- What holds of the ports and the carriers holds at the beginning, and each row that starts keeps it.
use Rattle.std.proofs.Common.{◌≡◌, ℕ, zero, suc, ◌≤◌, true, false, not, ◌||◌, List, [], ◌∷◌, find, length, Option, Some, None, is_some, slice_get, refl, sym, ap, subst, arith, ◌∙◌}
use Rattle.std.specs.List.{AllByRecursion}
use Rattle.std.proofs.lemmas.Bool.{and_parts, not-true}
use Rattle.std.proofs.lemmas.Slice.Eq.{bytes_eq-Decides}
use Rattle.gem_tables.specs.Table.{firing, update_at}
use Rattle.gem_tables.specs.declared.firing.Firing.{Firing}
use Rattle.gem_tables.proofs.Rows.{looked_for}
use Rattle.shop_floor.proofs.EachTable.{starts_cases}
use Rattle.load_port.specs.declared.record.Transfer.{Transfer}
use Rattle.load_port.specs.declared.record.Access.{Access}
use Rattle.load_port.specs.declared.record.Reservation.{Reservation}
use Rattle.load_port.specs.declared.record.Association.{Association}
use Rattle.load_port.specs.declared.port.Port.{Port}
use Rattle.load_port.specs.declared.port.Arrival.{Arrival}
use Rattle.load_port.specs.Tables.{PortRow, transfer_table, access_table, reservation_table, association_number, association_table}
use Rattle.load_port.specs.Ports as ports
use Rattle.load_port.specs.Ports.{first_ports, most_ports, change_port}
use Rattle.load_port.specs.Record.{port_fired, is_associated}
use Rattle.carrier.specs.declared.carrier.Carrier.{Carrier}
use Rattle.carrier.specs.Carriers as carriers
use Rattle.carrier.specs.Carriers.{has_name, carrier_numbered, without}
use Rattle.shop_floor.specs.Floor.{Floor, opening, with_port, with_carrier}
use Rattle.shop_floor.specs.Rows.{freed, is_directed, bound_to, binding, owner, forgets, is_own, is_elsewhere, forgetting, without_owner, arrival_at, arrived, arriving, found_does}
use Rattle.shop_floor.specs.Machines.{floor_starts, floor_fired}
use Rattle.shop_floor.specs.Valid.{Belongs, ReadWherePresent, IsTold, IsFloor}
use Rattle.shop_floor.specs.Requests.{came}
use Rattle.shop_floor.proofs.Belonging.{all_at, all_ports, ports_length, owner_changed}
use Rattle.shop_floor.proofs.Apart.{all_follows, all_filtered, has_its_name, apart_without, absent_without}
use Rattle.shop_floor.proofs.Numbers.{LeavesCarrier, rise_without, rise_numbered, apart_numbered, absent_numbered, all_numbered, all_at_number}
use Rattle.shop_floor.proofs.Association.{Begins, Stands, begins, stands}
use Rattle.shop_floor.proofs.Cases.{starts_at_port}
use Rattle.shop_floor.proofs.Reading.{reads_id, reads_map, reads_accessing}
use Rattle.shop_floor.proofs.Moving.{IsFree, binding-keeps, forgetting-keeps, arrived-keeps, freed-keeps}

-- ---- the beginning

first_told : (n : ℕ) → AllByRecursion IsTold (first_ports n)
first_told zero = tt
first_told (suc n) = (refl, first_told n)

first_length : (n : ℕ) → length (first_ports n) ≡ n
first_length zero = refl
first_length (suc n) = ap suc (first_length n)

pub opening-valid : (n : ℕ) → n ≤ most_ports → IsFloor (opening n)
opening-valid n few = record {
  apart = refl;
  rising = omega arith;
  absent = omega arith;
  belong = tt;
  read = tt;
  told = first_told n;
  few = rw (first_length n) few;
}

-- ---- a port changes, but neither its association nor its carrier

-- the change leaves them
pub record LeavesPort (change : Port → Port) : Type 0 where
  pub carrier : (p : Port) → (change p).carrier ≡ p.carrier
  pub association : (p : Port) → (change p).states.association ≡ p.states.association

pub port-keeps : (number : ℕ) (change : Port → Port) (f : Floor) → LeavesPort change → IsFloor f → IsFloor (with_port number change f)
port-keeps number change f leaves valid = record {
  apart = valid.apart;
  rising = valid.rising;
  absent = valid.absent;
  belong = all_follows (Belongs f.ports) (Belongs (change_port number change f.ports)) f.carriers (λ c b held. owner_changed c.port number change f.ports leaves.carrier ∙ b held) valid.belong;
  read = valid.read;
  told = all_ports IsTold number change f.ports (λ p told. ap is_associated (leaves.association p) ∙ told ∙ ap is_some (sym (leaves.carrier p))) valid.told;
  few = let k = ports_length number change f.ports in rw k valid.few;
}

-- ---- a carrier changes, but not in what holds of it, or it is read where it is present

belongs_left : (ps : List Port) (change : Carrier → Carrier) (c : Carrier) → LeavesCarrier change → Belongs ps c → Belongs ps (change c)
belongs_left ps change c leaves b held =
    let same : ((change c).present || (change c).bound) ≡ (c.present || c.bound) = rw (leaves.present c, leaves.bound c) refl in
    rw (leaves.port c, leaves.name c) (b (sym same ∙ held))

pub carrier-keeps : (number : ℕ) (change : Carrier → Carrier) (f : Floor) → LeavesCarrier change → ((c : Carrier) → carrier_numbered number f.carriers ≡ Some c → ReadWherePresent c → ReadWherePresent (change c)) → IsFloor f → IsFloor (with_carrier number change f)
carrier-keeps number change f leaves reads valid = record {
  apart = apart_numbered number change f.carriers leaves ∙ valid.apart;
  rising = rise_numbered 1 f.next_carrier number change f.carriers leaves valid.rising;
  absent = rw (absent_numbered number change f.carriers leaves) valid.absent;
  belong = all_numbered (Belongs f.ports) number change f.carriers (λ c b. belongs_left f.ports change c leaves b) valid.belong;
  read = all_at_number ReadWherePresent number change f.carriers reads valid.read;
  told = valid.told;
  few = valid.few;
}

-- ---- the rows of table 7

-- a port of which a carrier is told
pub with_some : {P : Type 0} (o : Option (List ℕ)) → is_some o ≡ true → ((name : List ℕ) → o ≡ Some name → P) → P
with_some None e f = absurd (cc)
with_some (Some name) e f = f name refl

pub with_arrival : {P : Type 0} (o : Option Arrival) → is_some o ≡ true → ((a : Arrival) → o ≡ Some a → P) → P
with_arrival None e f = absurd (cc)
with_arrival (Some a) e f = f a refl

with_found : {P : Type 0} (o : Option Carrier) → is_some o ≡ true → ((c : Carrier) → o ≡ Some c → P) → P
with_found None e f = absurd (cc)
with_found (Some c) e f = f c refl

-- what is to hold behind a row at a port
abbrev Kept : ℕ → ℕ → Floor → Type 0
Kept row place f = IsFloor (with_port (suc place) (ports.fires_row 7 row) f)

-- row 1
keeps_1 : (place : ℕ) (f : Floor) (p : Port) → IsFloor f → slice_get f.ports place ≡ Some p → Begins 1 p → is_some (find (is_directed (suc place)) f.carriers) ≡ true → Kept 1 place (binding (suc place) f)
keeps_1 place f p valid s begins may =
    with_found (find (is_directed (suc place)) f.carriers) may
    (λ c found. subst (λ o. Kept 1 place (bound_to (suc place) o f)) (sym found) (binding-keeps place f p c valid s begins found))

-- rows 2 and 6
keeps_2 : (row place : ℕ) (f : Floor) (p : Port) → IsFloor f → slice_get f.ports place ≡ Some p → Stands row false p → Kept row place (forgetting (suc place) f)
keeps_2 row place f p valid s stands =
    with_some p.carrier stands.some
    (λ name is. subst (λ o. Kept row place (record { ports = update_at place freed f.ports; carriers = forgets (owner o) f.carriers; next_carrier = f.next_carrier })) (sym s)
    (subst (λ o. Kept row place (record { ports = update_at place freed f.ports; carriers = forgets o f.carriers; next_carrier = f.next_carrier })) (sym is)
    (forgetting-keeps row place f p name valid s stands is)))

-- what comes to a port
comes : (row place : ℕ) (f : Floor) (p : Port) (a : Arrival) → IsFloor f → slice_get f.ports place ≡ Some p → p.arrival ≡ Some a → is_associated (port_fired 7 row p.states).association ≡ true → AllByRecursion (IsFree place p a.name) f.carriers → Kept row place (arriving (suc place) f)
comes row place f p a valid s is ends free =
    subst (λ o. Kept row place (arrived (suc place) (arrival_at o) f)) (sym s)
    (subst (λ o. Kept row place (arrived (suc place) o f)) (sym is) (arrived-keeps row place f p a valid s ends free))

-- nothing is free of what doesn't come about
pub all_true : {X : Type 0} (P : X → Type 0) (xs : List X) → ((x : X) → P x) → AllByRecursion P xs
all_true P [] f = tt
all_true P (x ∷ xs) f = (f x, all_true P xs f)

-- row 3
keeps_3 : (place : ℕ) (f : Floor) (p : Port) → IsFloor f → slice_get f.ports place ≡ Some p → Begins 3 p → is_some p.arrival ≡ true → Kept 3 place (arriving (suc place) f)
keeps_3 place f p valid s begins may =
    with_arrival p.arrival may (λ a is. comes 3 place f p a valid s is begins.ends (all_true (IsFree place p a.name) f.carriers (λ c held other here its. never c its))) where
      never : {P : Type 0} (c : Carrier) → p.carrier ≡ Some c.name → P
      never c its = let none = begins.none in absurd (cc)

-- row 5
pub own_name : (carrier : Option (List ℕ)) (a : Arrival) → is_own carrier (Some a) ≡ true → carrier ≡ Some a.name
own_name None a e = absurd (cc)
own_name (Some name) a e = ap Some ((bytes_eq-Decides name a.name).0 e)

pub own_some : (carrier : Option (List ℕ)) (arrival : Option Arrival) → is_own carrier arrival ≡ true → is_some arrival ≡ true
own_some None None e = e
own_some None (Some a) e = refl
own_some (Some name) None e = e
own_some (Some name) (Some a) e = refl

keeps_5 : (place : ℕ) (f : Floor) (p : Port) → IsFloor f → slice_get f.ports place ≡ Some p → Stands 5 true p → is_own p.carrier p.arrival ≡ true → Kept 5 place (arriving (suc place) f)
keeps_5 place f p valid s stands may =
    with_arrival p.arrival (own_some p.carrier p.arrival may)
    (λ a is. comes 5 place f p a valid s is stands.ends (all_true (IsFree place p a.name) f.carriers (λ c held other here its. never a is c other its))) where
      never : {P : Type 0} (a : Arrival) → p.arrival ≡ Some a → (c : Carrier) → has_name a.name c ≡ false → p.carrier ≡ Some c.name → P
      never a is c other its =
          let own : is_own p.carrier (Some a) ≡ true = ap (is_own p.carrier) (sym is) ∙ may in
          let named = own_name p.carrier a own in
          let same : c.name ≡ a.name = cc in
          let has = has_its_name a.name c same in
          absurd (cc)

-- row 4
pub forgotten-valid : (f : Floor) (name : List ℕ) → IsFloor f → IsFloor (record { ports = f.ports; carriers = without name f.carriers; next_carrier = f.next_carrier })
forgotten-valid f name valid = record {
  apart = apart_without name f.carriers valid.apart;
  rising = rise_without 1 f.next_carrier name f.carriers valid.rising;
  absent = let less = absent_without name f.carriers in omega (arith, less, valid.absent);
  belong = all_filtered (Belongs f.ports) (Belongs f.ports) (λ c. not (has_name name c)) f.carriers (λ c t b. b) valid.belong;
  read = all_filtered ReadWherePresent ReadWherePresent (λ c. not (has_name name c)) f.carriers (λ c t r. r) valid.read;
  told = valid.told;
  few = valid.few;
}

keeps_4 : (place : ℕ) (f : Floor) (p : Port) → IsFloor f → slice_get f.ports place ≡ Some p → Stands 4 true p → is_some p.arrival ≡ true → Kept 4 place (arriving (suc place) (without_owner (suc place) f))
keeps_4 place f p valid s stands may =
    with_some p.carrier stands.some
    (λ name its. with_arrival p.arrival may
    (λ a is. subst (λ o. Kept 4 place (arriving (suc place) (record { ports = f.ports; carriers = forgets (owner o) f.carriers; next_carrier = f.next_carrier }))) (sym s)
    (subst (λ o. Kept 4 place (arriving (suc place) (record { ports = f.ports; carriers = forgets o f.carriers; next_carrier = f.next_carrier }))) (sym its)
    (comes 4 place (record { ports = f.ports; carriers = without name f.carriers; next_carrier = f.next_carrier }) p a (forgotten-valid f name valid) s is stands.ends
    (all_filtered (Belongs f.ports) (IsFree place p a.name) (λ c. not (has_name name c)) f.carriers (λ c other b held unlike here at. never name its c (not-true _ other) at) valid.belong))))) where
      never : {P : Type 0} (name : List ℕ) → p.carrier ≡ Some name → (c : Carrier) → has_name name c ≡ false → p.carrier ≡ Some c.name → P
      never name its c other at =
          let same : c.name ≡ name = cc in
          let has = has_its_name name c same in
          absurd (cc)

-- row 7
keeps_7 : (place : ℕ) (f : Floor) (p : Port) → IsFloor f → slice_get f.ports place ≡ Some p → Stands 7 false p → is_elsewhere (suc place) p.carrier f.carriers ≡ true → Kept 7 place (with_port (suc place) freed f)
keeps_7 place f p valid s stands may =
    with_some p.carrier stands.some
    (λ name is. freed-keeps place f p name valid s stands is (subst (λ o. is_elsewhere (suc place) o f.carriers ≡ true) is may))

-- each of them
association-keeps : (f : Floor) (port row : ℕ) → IsFloor f → floor_starts (firing 7 port row) f ≡ true → IsFloor (floor_fired (firing 7 port row) f)
association-keeps f port row valid starts =
    starts_at_port association_number association_table (λ s. s.association) (λ to s. record s { association = to })
    (λ (n r : ℕ) (o : Option (PortRow Association)). IsFloor (with_port n (ports.fires_row 7 r) (found_does o n f))) f port row
    (λ place p s. let told = all_at IsTold place f.ports p s valid.told in (
      (λ among wants. keeps_1 place f p valid s (begins 1 p told refl among) wants),
      (
        (λ among wants. keeps_2 2 place f p valid s (stands 2 false p told refl among)),
        (
          (λ among wants. keeps_3 place f p valid s (begins 3 p told refl among) wants),
          (
            (λ among wants. keeps_4 place f p valid s (stands 4 true p told refl among) (and_parts _ _ wants).0),
            (
              (λ among wants. keeps_5 place f p valid s (stands 5 true p told refl among) wants),
              (
                (λ among wants. keeps_2 6 place f p valid s (stands 6 false p told refl among)),
                ((λ among wants. keeps_7 place f p valid s (stands 7 false p told refl among) wants), tt),
              ),
            ),
          ),
        ),
      ),
    ))
    starts

-- ---- all tables

-- the rows of the other tables of ports leave the association, and do no more
transfer-keeps : (f : Floor) (port row : ℕ) → IsFloor f → IsFloor (floor_fired (firing 4 port row) f)
transfer-keeps f port row valid =
    let kept = port-keeps port (ports.fires_row 4 row) f (record { carrier = λ p. refl; association = λ p. refl }) valid in
    looked_for (λ (o : Option (PortRow Transfer)). IsFloor (with_port port (ports.fires_row 4 row) (found_does o port f))) transfer_table row kept (kept, (kept, (kept, (kept, (kept, tt)))))

access-keeps : (f : Floor) (port row : ℕ) → IsFloor f → IsFloor (floor_fired (firing 5 port row) f)
access-keeps f port row valid =
    let kept = port-keeps port (ports.fires_row 5 row) f (record { carrier = λ p. refl; association = λ p. refl }) valid in
    looked_for (λ (o : Option (PortRow Access)). IsFloor (with_port port (ports.fires_row 5 row) (found_does o port f))) access_table row kept (kept, (kept, tt))

reservation-keeps : (f : Floor) (port row : ℕ) → IsFloor f → IsFloor (floor_fired (firing 6 port row) f)
reservation-keeps f port row valid =
    let kept = port-keeps port (ports.fires_row 6 row) f (record { carrier = λ p. refl; association = λ p. refl }) valid in
    looked_for (λ (o : Option (PortRow Reservation)). IsFloor (with_port port (ports.fires_row 6 row) (found_does o port f))) reservation_table row kept (kept, (kept, (kept, tt)))

states_left : (table row : ℕ) → LeavesCarrier (carriers.fires_row table row)
states_left table row = record { number = λ c. refl; name = λ c. refl; port = λ c. refl; present = λ c. refl; bound = λ c. refl }

pub accessing-keeps : (f : Floor) (carrier row : ℕ) → IsFloor f → IsFloor (floor_fired (firing 10 carrier row) f)
accessing-keeps f carrier row valid = carrier-keeps carrier (carriers.fires_row 10 row) f (states_left 10 row) (reads_accessing f carrier row) valid

pub row-keeps : (x : Firing) (f : Floor) → floor_starts x f ≡ true → IsFloor f → IsFloor (floor_fired x f)
row-keeps x f starts valid =
    starts_cases (λ (y : Firing). IsFloor (floor_fired y f)) f x (record {
      transfer = λ s. transfer-keeps f x.object x.row.row valid;
      access = λ s. access-keeps f x.object x.row.row valid;
      reservation = λ s. reservation-keeps f x.object x.row.row valid;
      association = λ s. association-keeps f x.object x.row.row valid s;
      id = λ s. carrier-keeps x.object (carriers.fires_row 8 x.row.row) f (states_left 8 x.row.row) (reads_id f x.object x.row.row s) valid;
      map = λ s. carrier-keeps x.object (carriers.fires_row 9 x.row.row) f (states_left 9 x.row.row) (reads_map f x.object x.row.row s) valid;
      accessing = λ s. carrier-keeps x.object (carriers.fires_row 10 x.row.row) f (states_left 10 x.row.row) (reads_accessing f x.object x.row.row) valid;
    }) starts

-- ---- what came to a port

pub came-keeps : (port : ℕ) (a : Arrival) (f : Floor) → IsFloor f → IsFloor (came port a f)
came-keeps port a f valid = port-keeps port (λ p. record p { arrival = Some a }) f (record { carrier = λ p. refl; association = λ p. refl }) valid
