-- Each row of table 7 keeps what holds of the ports and the carriers.
use Rattle.std.proofs.Common.{◌≡◌, ℕ, suc, ◌≤◌, Bool, true, false, not, ◌&&◌, List, find, Option, Some, None, is_some, slice_get, refl, sym, ap, subst, arith, ◌∙◌}
use Rattle.std.specs.List.{AllByRecursion}
use Rattle.std.proofs.lemmas.Bool.{and_parts, not-true}
use Rattle.std.proofs.lemmas.Bool.Decides.{nat_tests}
use Rattle.gem_tables.specs.Table.{update_at}
use Rattle.gem_tables.proofs.Falling.{length_update}
use Rattle.load_port.specs.declared.port.Port.{Port}
use Rattle.load_port.specs.declared.port.Arrival.{Arrival}
use Rattle.load_port.specs.Ports as ports
use Rattle.load_port.specs.Record.{port_fired, is_associated}
use Rattle.carrier.specs.declared.carrier.Carrier.{Carrier}
use Rattle.carrier.specs.Carriers.{has_name, is_port, change_named, found_or_created, next_number, without, came_to, binds, are_named_apart, absent_count, most_absent}
use Rattle.shop_floor.specs.Floor.{Floor, with_port}
use Rattle.shop_floor.specs.Rows.{freed, owned_by, taken_by, is_directed, bound_to, is_elsewhere, arrived}
use Rattle.shop_floor.specs.Valid.{RiseFrom, Belongs, ReadWherePresent, IsTold, IsFloor}
use Rattle.shop_floor.proofs.Belonging.{is_held, still, now_here, owner_kept, all_updated_twice}
use Rattle.shop_floor.proofs.Apart.{IsOnly, all_both, all_follows, all_filtered, all_changed, all_found, found_only, found_one, found_passes, named_so, has_its_name, apart_changed, apart_without, apart_found, absent_changed, absent_without, absent_comes}
use Rattle.shop_floor.proofs.Association.{Begins, Stands}
use Rattle.shop_floor.proofs.Numbers.{rise_changed, rise_without, rise_found}

-- ---- a change of the carriers and of one port

-- a port of a place that is changed, with these carriers, fires a row of table 7
pub row_keeps : (row place : ℕ) (f : Floor) (p : Port) (change : Port → Port) (cs : List Carrier) (next : ℕ) → IsFloor f → slice_get f.ports place ≡ Some p → is_associated (port_fired 7 row (change p).states).association ≡ is_some (change p).carrier → are_named_apart cs ≡ true → RiseFrom 1 next cs → absent_count cs ≤ most_absent → AllByRecursion (Belongs (update_at place change f.ports)) cs → AllByRecursion ReadWherePresent cs → IsFloor (with_port (suc place) (ports.fires_row 7 row) (record { ports = update_at place change f.ports; carriers = cs; next_carrier = next }))
row_keeps row place f p change cs next valid s told apart rise absent belong read = record {
  apart = apart;
  rising = rise;
  absent = absent;
  belong = all_follows (Belongs (update_at place change f.ports)) (Belongs (update_at place (ports.fires_row 7 row) (update_at place change f.ports))) cs (λ c b held. owner_kept c.port place (ports.fires_row 7 row) (update_at place change f.ports) (λ q. refl) ∙ b held) belong;
  read = read;
  told = all_updated_twice IsTold place change (ports.fires_row 7 row) f.ports p s told valid.told;
  few = let k = length_update (ports.fires_row 7 row) place (update_at place change f.ports) in let j = length_update change place f.ports in rw (k, j) valid.few;
}

not_none : {P : Type 0} (carrier : Option (List ℕ)) (name : List ℕ) → carrier ≡ None → carrier ≡ Some name → P
not_none carrier name none is = absurd (cc)

-- ---- row 1: a carrier is bound

pub binding-keeps : (place : ℕ) (f : Floor) (p : Port) (c : Carrier) → IsFloor f → slice_get f.ports place ≡ Some p → Begins 1 p → find (is_directed (suc place)) f.carriers ≡ Some c → IsFloor (with_port (suc place) (ports.fires_row 7 1) (bound_to (suc place) (Some c) f))
binding-keeps place f p c valid s begins found =
    row_keeps 1 place f p (owned_by c.name) (change_named c.name binds f.carriers) f.next_carrier valid s begins.ends
    (apart_changed c.name binds f.carriers (λ d. refl) valid.apart)
    (rise_changed 1 f.next_carrier c.name binds f.carriers (λ d. refl) valid.rising)
    (let less = absent_changed c.name binds f.carriers (λ d. omega arith) in omega (arith, less, valid.absent))
    (all_changed (λ d. Belongs f.ports d × IsOnly c d) (Belongs (update_at place (owned_by c.name) f.ports)) c.name binds f.carriers
    (λ d named b. at_it d (b.1 named))
    (λ d other b. still place (owned_by c.name) f.ports p d s (λ held here is. not_none p.carrier d.name begins.none is) b.0)
    (all_both (Belongs f.ports) (IsOnly c) f.carriers valid.belong (found_only (is_directed (suc place)) f.carriers c valid.apart found)))
    (all_changed ReadWherePresent ReadWherePresent c.name binds f.carriers (λ d named r. r) (λ d other r. r) valid.read) where
      is_here : is_port (suc place) c.port ≡ true
      is_here = (and_parts (is_port (suc place) c.port) (not c.present && not c.bound) (found_passes (is_directed (suc place)) f.carriers c found)).0

      at_it : (d : Carrier) → d ≡ c → Belongs (update_at place (owned_by c.name) f.ports) (binds d)
      at_it d same = subst (λ e. Belongs (update_at place (owned_by c.name) f.ports) (binds e)) (sym same) (now_here place (owned_by c.name) f.ports p (binds c) s is_here refl)

-- ---- rows 2 and 6: the carrier of a port is forgotten

pub forgetting-keeps : (row place : ℕ) (f : Floor) (p : Port) (name : List ℕ) → IsFloor f → slice_get f.ports place ≡ Some p → Stands row false p → p.carrier ≡ Some name → IsFloor (with_port (suc place) (ports.fires_row 7 row) (record { ports = update_at place freed f.ports; carriers = without name f.carriers; next_carrier = f.next_carrier }))
forgetting-keeps row place f p name valid s stands is =
    row_keeps row place f p freed (without name f.carriers) f.next_carrier valid s stands.ends
    (apart_without name f.carriers valid.apart)
    (rise_without 1 f.next_carrier name f.carriers valid.rising)
    (let less = absent_without name f.carriers in omega (arith, less, valid.absent))
    (all_filtered (Belongs f.ports) (Belongs (update_at place freed f.ports)) (λ c. not (has_name name c)) f.carriers
    (λ c other b. still place freed f.ports p c s (λ held here its. another c (not-true _ other) its) b)
    valid.belong)
    (all_filtered ReadWherePresent ReadWherePresent (λ c. not (has_name name c)) f.carriers (λ c other r. r) valid.read) where
      another : {P : Type 0} (c : Carrier) → has_name name c ≡ false → p.carrier ≡ Some c.name → P
      another c other its = let same : c.name ≡ name = cc in let named = has_its_name name c same in absurd (cc)

-- ---- rows 3 to 5: a carrier comes

-- no other carrier is at the port
abbrev pub IsFree : ℕ → Port → List ℕ → Carrier → Type 0
IsFree place p name c = is_held c ≡ true → has_name name c ≡ false → is_port (suc place) c.port ≡ true → p.carrier ≡ Some c.name → ⊥

pub arrived-keeps : (row place : ℕ) (f : Floor) (p : Port) (a : Arrival) → IsFloor f → slice_get f.ports place ≡ Some p → is_associated (port_fired 7 row p.states).association ≡ true → AllByRecursion (IsFree place p a.name) f.carriers → IsFloor (with_port (suc place) (ports.fires_row 7 row) (arrived (suc place) (Some a) f))
arrived-keeps row place f p a valid s ends free =
    row_keeps row place f p (taken_by a.name) (change_named a.name (came_to (suc place) a.is_read a.map) (found_or_created f.next_carrier a.name f.carriers)) (next_number f.next_carrier a.name f.carriers) valid s ends
    (apart_changed a.name (came_to (suc place) a.is_read a.map) (found_or_created f.next_carrier a.name f.carriers) (λ d. refl) (apart_found f.next_carrier a.name f.carriers valid.apart))
    (rise_changed 1 (next_number f.next_carrier a.name f.carriers) a.name (came_to (suc place) a.is_read a.map) (found_or_created f.next_carrier a.name f.carriers) (λ d. refl) (rise_found 1 f.next_carrier a.name f.carriers valid.rising))
    (let less = absent_comes f.next_carrier a.name (came_to (suc place) a.is_read a.map) f.carriers (λ d. refl) in omega (arith, less, valid.absent))
    (all_changed (λ d. Belongs f.ports d × IsFree place p a.name d) (Belongs (update_at place (taken_by a.name) f.ports)) a.name (came_to (suc place) a.is_read a.map) (found_or_created f.next_carrier a.name f.carriers)
    (λ d named b. now_here place (taken_by a.name) f.ports p (came_to (suc place) a.is_read a.map d) s (grind (arith, nat_tests)) (ap Some (sym (named_so a.name d named))))
    (λ d other b. still place (taken_by a.name) f.ports p d s (λ held here is. b.1 held other here is) b.0)
    (all_found (λ d. Belongs f.ports d × IsFree place p a.name d) f.next_carrier a.name f.carriers
    (λ new. ((λ held. absurd (cc)), (λ held. absurd (cc))))
    (all_both (Belongs f.ports) (IsFree place p a.name) f.carriers valid.belong free)))
    (all_changed ReadWherePresent ReadWherePresent a.name (came_to (suc place) a.is_read a.map) (found_or_created f.next_carrier a.name f.carriers)
    (λ d named r was. refl) (λ d other r. r)
    (all_found ReadWherePresent f.next_carrier a.name f.carriers (λ new was. absurd (cc)) valid.read))

-- ---- row 7: the carrier of a port is at another one

pub freed-keeps : (place : ℕ) (f : Floor) (p : Port) (name : List ℕ) → IsFloor f → slice_get f.ports place ≡ Some p → Stands 7 false p → p.carrier ≡ Some name → is_elsewhere (suc place) (Some name) f.carriers ≡ true → IsFloor (with_port (suc place) (ports.fires_row 7 7) (with_port (suc place) freed f))
freed-keeps place f p name valid s stands is elsewhere =
    row_keeps 7 place f p freed f.carriers f.next_carrier valid s stands.ends valid.apart valid.rising valid.absent
    (all_follows (λ d. Belongs f.ports d × IsOnly at.0 d) (Belongs (update_at place freed f.ports)) f.carriers
    (λ d b. still place freed f.ports p d s (λ held here its. never d here its b.1) b.0)
    (all_both (Belongs f.ports) (IsOnly at.0) f.carriers valid.belong (found_only _ f.carriers at.0 valid.apart at.1)))
    valid.read where
      test : Carrier → Bool
      test c = has_name name c && (c.present && not (is_port (suc place) c.port))

      at : (c : Carrier) × (find (λ (c : Carrier). has_name name c && (c.present && not (is_port (suc place) c.port))) f.carriers ≡ Some c)
      at = found_one (λ (c : Carrier). has_name name c && (c.present && not (is_port (suc place) c.port))) f.carriers elsewhere

      never : {P : Type 0} (d : Carrier) → is_port (suc place) d.port ≡ true → p.carrier ≡ Some d.name → IsOnly at.0 d → P
      never d here its only =
          let passes = found_passes (λ (c : Carrier). has_name name c && (c.present && not (is_port (suc place) c.port))) f.carriers at.0 at.1 in
          let parts = and_parts (has_name name at.0) (at.0.present && not (is_port (suc place) at.0.port)) passes in
          let not_here = not-true _ (and_parts at.0.present (not (is_port (suc place) at.0.port)) parts.1).1 in
          let same : d.name ≡ name = cc in
          let equal : d ≡ at.0 = only (has_its_name at.0.name d (same ∙ sym (named_so name at.0 parts.0))) in
          let there : is_port (suc place) d.port ≡ false = ap (λ (c : Carrier). is_port (suc place) c.port) equal ∙ not_here in
          absurd (cc)
