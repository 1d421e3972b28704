-- How many carriers are known: those that are present are at most as many as the ports.
use Rattle.std.proofs.Common.{◌≡◌, ℕ, zero, suc, ◌+◌, ◌≤◌, Bool, true, false, not, List, [], ◌∷◌, length, Option, Some, None, slice_get, refl, ap, arith, ◌∙◌}
use Rattle.std.specs.List.{AllByRecursion}
use Rattle.std.proofs.lemmas.Bool.{and_parts, not-true, or_left}
use Rattle.gem_tables.specs.Table.{update_at}
use Rattle.gem_ids.specs.declared.numbers.PortNo.{PortNo}
use Rattle.load_port.specs.declared.port.Port.{Port}
use Rattle.load_port.specs.Ports.{port_numbered, most_ports}
use Rattle.carrier.specs.declared.carrier.Carrier.{Carrier}
use Rattle.carrier.specs.Carriers.{has_name, is_known, without, are_named_apart, absent_count, most_absent, most_carriers, AreCarriers}
use Rattle.shop_floor.specs.Floor.{Floor}
use Rattle.shop_floor.specs.Rows.{freed, owner}
use Rattle.shop_floor.specs.Valid.{port_of, Belongs, IsFloor}
use Rattle.shop_floor.proofs.Belonging.{still}
use Rattle.shop_floor.proofs.Apart.{all_both, all_follows, all_filtered, unknown_all, has_its_name, apart_without, absent_without, one_absent, absent_cons}

-- ---- how many

-- 1 for one that is present
abbrev one_present : Bool → ℕ
one_present true = 1
one_present false = 0

abbrev present_count : List Carrier → ℕ
present_count [] = 0
present_count (c ∷ cs) = one_present c.present + present_count cs

one_or_other : (b : Bool) → one_absent b + one_present b ≡ 1
one_or_other true = refl
one_or_other false = refl

length_parts : (cs : List Carrier) → length cs ≡ absent_count cs + present_count cs
length_parts [] = refl
length_parts (c ∷ cs) = omega (arith, absent_cons c cs, length_parts cs, one_or_other c.present)

-- 1 for a port to which a carrier belongs
abbrev one_owned : Option (List ℕ) → ℕ
one_owned None = 0
one_owned (Some name) = 1

abbrev owned : List Port → ℕ
owned [] = 0
owned (p ∷ ps) = one_owned p.carrier + owned ps

owned_one : (carrier : Option (List ℕ)) → one_owned carrier ≤ 1
owned_one None = omega arith
owned_one (Some name) = omega arith

owned_few : (ps : List Port) → owned ps ≤ length ps
owned_few [] = omega arith
owned_few (p ∷ ps) = omega (arith, owned_few ps, owned_one p.carrier)

-- one fewer, where one is freed
owned_freed : (place : ℕ) (ps : List Port) (p : Port) (name : List ℕ) → slice_get ps place ≡ Some p → p.carrier ≡ Some name → owned ps ≡ owned (update_at place freed ps) + 1
owned_freed place [] p name s is = absurd (cc)
owned_freed zero (q ∷ ps) p name s is =
    let same : q ≡ p = cc in
    let one : one_owned q.carrier ≡ 1 = ap (λ (r : Port). one_owned r.carrier) same ∙ ap one_owned is in
    omega (arith, one)
owned_freed (suc place) (q ∷ ps) p name s is = omega (arith, owned_freed place ps p name s is)

freed_fewer : (place : ℕ) (ps : List Port) (p : Port) → slice_get ps place ≡ Some p → owned (update_at place freed ps) + 1 ≤ length ps
freed_fewer place [] p s = absurd (cc)
freed_fewer zero (q ∷ ps) p s = omega (arith, owned_few ps)
freed_fewer (suc place) (q ∷ ps) p s = omega (arith, freed_fewer place ps p s, owned_one q.carrier)

-- ---- each that is present has a port of its own

-- the port to which a carrier belongs, and its place
record Stands (ps : List Port) (name : List ℕ) : Type 0 where
  place : ℕ
  port : Port
  stands : slice_get ps place ≡ Some port
  names : port.carrier ≡ Some name

stands_so : (port : Option PortNo) (ps : List Port) (name : List ℕ) → owner (port_of port ps) ≡ Some name → Stands ps name
stands_so None ps name e = absurd (cc)
stands_so (Some n) ps name e = numbered n.0 e where
  here : (place : ℕ) (o : Option Port) → slice_get ps place ≡ o → owner o ≡ Some name → Stands ps name
  here place None s is = absurd (cc)
  here place (Some p) s is = record { place = place; port = p; stands = s; names = is }

  numbered : (number : ℕ) → owner (port_numbered number ps) ≡ Some name → Stands ps name
  numbered zero is = absurd (cc)
  numbered (suc place) is = here place (slice_get ps place) refl is

-- at a place at which none of these carriers is, they belong to the others
others_belong : (place : ℕ) (ps : List Port) (p : Port) (cs : List Carrier) → slice_get ps place ≡ Some p → AllByRecursion (λ c. p.carrier ≡ Some c.name → ⊥) cs → AllByRecursion (Belongs ps) cs → AllByRecursion (Belongs (update_at place freed ps)) cs
others_belong place ps p cs s none belong =
    all_follows (λ c. Belongs ps c × (p.carrier ≡ Some c.name → ⊥)) (Belongs (update_at place freed ps)) cs
    (λ c b. still place freed ps p c s (λ held here is. b.1 is) b.0)
    (all_both (Belongs ps) (λ c. p.carrier ≡ Some c.name → ⊥) cs belong none)

present_few : (cs : List Carrier) (ps : List Port) → are_named_apart cs ≡ true → AllByRecursion (Belongs ps) cs → present_count cs ≤ owned ps
present_few [] ps apart belong = omega arith
present_few (c ∷ cs) ps apart belong = of c.present refl (and_parts (not (is_known c.name cs)) (are_named_apart cs) apart) (present_few cs) where
  unlike : (name : List ℕ) (d : Carrier) → name ≡ c.name → has_name c.name d ≡ false → name ≡ d.name → ⊥
  unlike name d its other is = let same : d.name ≡ c.name = cc in let named = has_its_name c.name d same in absurd (cc)

  of : (b : Bool) → c.present ≡ b → (not (is_known c.name cs) ≡ true) × (are_named_apart cs ≡ true) → ((qs : List Port) → are_named_apart cs ≡ true → AllByRecursion (Belongs qs) cs → present_count cs ≤ owned qs) → one_present b + present_count cs ≤ owned ps
  of false q parts rest = let few = rest ps parts.1 belong.1 in omega (arith, few)
  of true q parts rest =
      let at : Stands ps c.name = stands_so c.port ps c.name (belong.0 (or_left _ _ q)) in
      let none : AllByRecursion (λ d. at.port.carrier ≡ Some d.name → ⊥) cs =
      all_follows (λ d. has_name c.name d ≡ false) (λ d. at.port.carrier ≡ Some d.name → ⊥) cs
      (λ d other is. unlike c.name d refl other (let n = at.names in cc)) (unknown_all c.name cs (not-true _ parts.0)) in
      let few = rest (update_at at.place freed ps) parts.1 (others_belong at.place ps at.port cs at.stands none belong.1) in
      let fewer = owned_freed at.place ps at.port c.name at.stands at.names in
      omega (arith, few, fewer)

-- ---- the bounds

pub few-carriers : (f : Floor) → IsFloor f → length f.carriers ≤ most_carriers
few-carriers f valid =
    let present = present_few f.carriers f.ports valid.apart valid.belong in
    let ports = owned_few f.ports in
    omega (arith, length_parts f.carriers, present, ports, valid.absent, valid.few)

pub are-carriers : (f : Floor) → IsFloor f → AreCarriers f.carriers
are-carriers f valid = record { apart = valid.apart; few = few-carriers f valid }

-- where fewer than twelve are absent, one more may be known
pub room-absent : (f : Floor) → IsFloor f → suc (absent_count f.carriers) ≤ most_absent → suc (length f.carriers) ≤ most_carriers
room-absent f valid room =
    let present = present_few f.carriers f.ports valid.apart valid.belong in
    let ports = owned_few f.ports in
    omega (arith, length_parts f.carriers, present, ports, room, valid.few)

-- and so where a port is that of none of them
pub room-at : (place : ℕ) (ps : List Port) (p : Port) (cs : List Carrier) → slice_get ps place ≡ Some p → length ps ≤ most_ports → are_named_apart cs ≡ true → absent_count cs ≤ most_absent → AllByRecursion (Belongs ps) cs → AllByRecursion (λ c. p.carrier ≡ Some c.name → ⊥) cs → suc (length cs) ≤ most_carriers
room-at place ps p cs s few apart absent belong none =
    let present = present_few cs (update_at place freed ps) apart (others_belong place ps p cs s none belong) in
    let fewer = freed_fewer place ps p s in
    omega (arith, length_parts cs, present, fewer, absent, few)

-- ---- a row that lets a carrier come

-- row 3: no carrier belongs to the port
pub room_3 : (place : ℕ) (f : Floor) (p : Port) → IsFloor f → slice_get f.ports place ≡ Some p → p.carrier ≡ None → suc (length f.carriers) ≤ most_carriers
room_3 place f p valid s none = room-at place f.ports p f.carriers s valid.few valid.apart valid.absent valid.belong (all_follows (Belongs f.ports) (λ c. p.carrier ≡ Some c.name → ⊥) f.carriers (λ c b is. absurd (cc)) valid.belong)

-- row 5: the port's carrier isn't known
pub room_5 : (place : ℕ) (f : Floor) (p : Port) (name : List ℕ) → IsFloor f → slice_get f.ports place ≡ Some p → p.carrier ≡ Some name → is_known name f.carriers ≡ false → suc (length f.carriers) ≤ most_carriers
room_5 place f p name valid s its new =
    room-at place f.ports p f.carriers s valid.few valid.apart valid.absent valid.belong
    (all_follows (λ c. has_name name c ≡ false) (λ c. p.carrier ≡ Some c.name → ⊥) f.carriers (λ c other is. unlike c other is) (unknown_all name f.carriers new)) where
      unlike : (c : Carrier) → has_name name c ≡ false → p.carrier ≡ Some c.name → ⊥
      unlike c other is = let same : c.name ≡ name = cc in let named = has_its_name name c same in absurd (cc)

-- row 4: the port's carrier is forgotten
pub room_4 : (place : ℕ) (f : Floor) (p : Port) (name : List ℕ) → IsFloor f → slice_get f.ports place ≡ Some p → p.carrier ≡ Some name → suc (length (without name f.carriers)) ≤ most_carriers
room_4 place f p name valid s its =
    room-at place f.ports p (without name f.carriers) s valid.few (apart_without name f.carriers valid.apart)
    (let less = absent_without name f.carriers in omega (arith, less, valid.absent))
    (all_filtered (Belongs f.ports) (Belongs f.ports) (λ c. not (has_name name c)) f.carriers (λ c t b. b) valid.belong)
    (all_filtered (Belongs f.ports) (λ c. p.carrier ≡ Some c.name → ⊥) (λ c. not (has_name name c)) f.carriers (λ c t b is. unlike c (not-true _ t) is) valid.belong) where
      unlike : (c : Carrier) → has_name name c ≡ false → p.carrier ≡ Some c.name → ⊥
      unlike c other is = let same : c.name ≡ name = cc in let named = has_its_name name c same in absurd (cc)
