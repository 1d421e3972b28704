-- A carrier that is present has a port of its own, and one that was read is present.
use Rattle.std.proofs.Common.{◌≡◌, ℕ, zero, suc, ◌==◌, ◌≤◌, Bool, true, false, not, ◌&&◌, List, length, Option, Some, None, IsSomeAnd, Contains, refl, sym, ap, subst, arith, ◌∙◌}
use Rattle.std.specs.List.{AllByRecursion}
use Rattle.std.proofs.lemmas.Bool.{and_parts, or_left}
use Rattle.std.proofs.lemmas.Bool.Decides.{nat_tests}
use Rattle.std.proofs.lemmas.List.Elements.{All-from_recursion, All-contains}
use Rattle.std.proofs.lemmas.Option.{slice_get_within}
use Rattle.gem_ids.specs.declared.numbers.PortNo.{PortNo}
use Rattle.load_port.specs.declared.port.Port.{Port}
use Rattle.load_port.specs.Ports.{port_numbered}
use Rattle.carrier.specs.declared.carrier.Carrier.{Carrier}
use Rattle.carrier.specs.declared.record.IdState.{IdState}
use Rattle.carrier.specs.declared.record.MapState.{MapState}
use Rattle.carrier.specs.declared.record.MapState.TheVariants as slots
use Rattle.carrier.specs.Record.{is_id_not_read, is_map_not_read, is_map_verified}
use Rattle.carrier.specs.Carriers.{is_port, is_present_at, carrier_numbered}
use Rattle.shop_floor.specs.Floor.{Floor}
use Rattle.shop_floor.specs.Rows.{owner}
use Rattle.shop_floor.specs.Valid.{port_of, Belongs, ReadWherePresent, IsFloor}
use Rattle.shop_floor.proofs.Apart.{IsOnly, all_only, found_contained, found_passes, has_its_name}

-- what is true of each carrier is true of one of the list
of_each : (P : Carrier → Type 0) (cs : List Carrier) (c : Carrier) → AllByRecursion P cs → Contains cs c → P c
of_each P cs c all at = All-contains P cs c (All-from_recursion P cs all) at

-- ---- its port

-- it belongs to the port where it is
owned : (f : Floor) (c : Carrier) → IsFloor f → Contains f.carriers c → c.present ≡ true → owner (port_of c.port f.ports) ≡ Some c.name
owned f c valid at present = of_each (Belongs f.ports) f.carriers c valid.belong at (or_left _ _ present)

port_there : (port : Option PortNo) (ps : List Port) (name : List ℕ) → owner (port_of port ps) ≡ Some name → IsSomeAnd port (λ n. IsSomeAnd (port_numbered n.0 ps) (λ p. p.carrier ≡ Some name))
port_there None ps name e = absurd (cc)
port_there (Some n) ps name e = of (port_numbered n.0 ps) e where
  of : (o : Option Port) → owner o ≡ Some name → IsSomeAnd o (λ p. p.carrier ≡ Some name)
  of None q = absurd (cc)
  of (Some p) q = q

pub has_port : (f : Floor) (c : Carrier) → Contains f.carriers c → c.present ≡ true → IsFloor f → IsSomeAnd c.port (λ n. IsSomeAnd (port_numbered n.0 f.ports) (λ p. p.carrier ≡ Some c.name))
has_port f c at present valid = port_there c.port f.ports c.name (owned f c valid at present)

-- the number of a port to which a carrier belongs
number_within : (n : ℕ) (ps : List Port) (name : List ℕ) → owner (port_numbered n ps) ≡ Some name → (1 ≤ n) × (n ≤ length ps)
number_within zero ps name e = absurd (cc)
number_within (suc place) ps name e = of (port_numbered (suc place) ps) refl e where
  of : (o : Option Port) → port_numbered (suc place) ps ≡ o → owner o ≡ Some name → (1 ≤ suc place) × (suc place ≤ length ps)
  of None q is = absurd (cc)
  of (Some p) q is = let within = slice_get_within ps place p q in (omega arith, omega (arith, within))

port_within : (port : Option PortNo) (ps : List Port) (name : List ℕ) → owner (port_of port ps) ≡ Some name → IsSomeAnd port (λ n. (1 ≤ n.0) × (n.0 ≤ length ps))
port_within None ps name e = absurd (cc)
port_within (Some n) ps name e = number_within n.0 ps name e

pub has_number : (f : Floor) (c : Carrier) → Contains f.carriers c → c.present ≡ true → IsFloor f → IsSomeAnd c.port (λ n. (1 ≤ n.0) × (n.0 ≤ length f.ports))
has_number f c at present valid = port_within c.port f.ports c.name (owned f c valid at present)

-- ---- no other is there

-- of a carrier that is present at a port
owns : (f : Floor) (port : ℕ) (c : Carrier) → IsFloor f → Contains f.carriers c → is_present_at port c ≡ true → owner (port_numbered port f.ports) ≡ Some c.name
owns f port c valid at here = let parts = and_parts c.present (is_port port c.port) here in of c.port parts.1 (owned f c valid at parts.0) where
  of : (o : Option PortNo) → is_port port o ≡ true → owner (port_of o f.ports) ≡ Some c.name → owner (port_numbered port f.ports) ≡ Some c.name
  of None is e = absurd (cc)
  of (Some n) is e = let same : n.0 ≡ port = grind (arith, nat_tests) in subst (λ (m : ℕ). owner (port_numbered m f.ports) ≡ Some c.name) same e

pub one_there : (f : Floor) (port : ℕ) (c d : Carrier) → Contains f.carriers c → Contains f.carriers d → is_present_at port c ≡ true → is_present_at port d ≡ true → IsFloor f → c ≡ d
one_there f port c d at other here there valid =
    let first = owns f port c valid at here in
    let second = owns f port d valid other there in
    let same : c.name ≡ d.name = cc in
    let only : AllByRecursion (IsOnly d) f.carriers = of_each (λ e. AllByRecursion (IsOnly e) f.carriers) f.carriers d (all_only f.carriers valid.apart) other in
    of_each (IsOnly d) f.carriers c only at (has_its_name d.name c same)

-- ---- where it is found by its number

pub numbered_contained : (n : ℕ) (cs : List Carrier) (c : Carrier) → carrier_numbered n cs ≡ Some c → Contains cs c
numbered_contained n cs c is = found_contained (λ (d : Carrier). d.number == n) cs c is

pub one_number : (f : Floor) (port n m : ℕ) (c d : Carrier) → carrier_numbered n f.carriers ≡ Some c → carrier_numbered m f.carriers ≡ Some d → is_present_at port c ≡ true → is_present_at port d ≡ true → IsFloor f → n ≡ m
one_number f port n m c d is other here there valid =
    let same = one_there f port c d (numbered_contained n f.carriers c is) (numbered_contained m f.carriers d other) here there valid in
    let first : (c.number == n) ≡ true = found_passes (λ (e : Carrier). e.number == n) f.carriers c is in
    let second : (d.number == m) ≡ true = found_passes (λ (e : Carrier). e.number == m) f.carriers d other in
    let one : c.number ≡ n = grind (arith, nat_tests) in
    let two : d.number ≡ m = grind (arith, nat_tests) in
    sym one ∙ ap (λ (e : Carrier). e.number) same ∙ two

-- ---- it was read

read_map : (s : IdState) (m : MapState) → is_map_not_read m ≡ false → not (is_id_not_read s && is_map_not_read m) ≡ true
read_map s m e = of (is_id_not_read s) where
  of : (b : Bool) → not (b && is_map_not_read m) ≡ true
  of true = rw e refl
  of false = refl

pub map_present : (f : Floor) (c : Carrier) → Contains f.carriers c → is_map_not_read c.states.map ≡ false → IsFloor f → c.present ≡ true
map_present f c at read valid = of_each ReadWherePresent f.carriers c valid.read at (read_map c.states.id c.states.map read)

verified_read : (m : MapState) → is_map_verified m ≡ true → is_map_not_read m ≡ false
verified_read slots.NotRead e = absurd (cc)
verified_read slots.WaitingForHost e = refl
verified_read slots.Verified e = refl
verified_read slots.VerificationFailed e = refl

pub verified_present : (f : Floor) (c : Carrier) → Contains f.carriers c → is_map_verified c.states.map ≡ true → IsFloor f → c.present ≡ true
verified_present f c at verified valid = map_present f c at (verified_read c.states.map verified) valid

pub id_present : (f : Floor) (c : Carrier) → Contains f.carriers c → is_id_not_read c.states.id ≡ false → IsFloor f → c.present ≡ true
id_present f c at read valid = of_each ReadWherePresent f.carriers c valid.read at (rw read refl)
