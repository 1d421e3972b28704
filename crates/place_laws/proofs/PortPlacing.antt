-- A carrier is placed at a port, where no row is ready by itself: row 3 of table 4, and what came is written.
use Rattle.std.proofs.Common.{◌≡◌, ℕ, zero, suc, ◌+◌, ◌==◌, Bool, true, false, cond, not, ◌&&◌, List, [], ◌∷◌, Option, Some, None, is_some, slice_get, refl, sym, ap, subst, arith, ◌∙◌}
use Rattle.std.specs.Prelude.{nat_eq}
use Rattle.std.specs.List.{AllByRecursion, starts_with}
use Rattle.std.proofs.lemmas.Bool.{true≢false, both_ways, and_parts, not-true}
use Rattle.std.proofs.lemmas.Bool.Decides.{nat_tests}
use Rattle.gem_tables.specs.Table.{firing, update_at, is_among}
use Rattle.gem_ids.specs.declared.numbers.PortNo.{PortNo}
use Rattle.load_port.specs.declared.port.Port.{Port}
use Rattle.load_port.specs.declared.port.Arrival.{Arrival}
use Rattle.load_port.specs.declared.record.Transfer.TheVariants.{ReadyToLoad}
use Rattle.load_port.specs.Tables.{transfer_number}
use Rattle.load_port.specs.Ports as ports
use Rattle.load_port.specs.Ports.{port_numbered}
use Rattle.carrier.specs.declared.carrier.Carrier.{Carrier}
use Rattle.carrier.specs.Carriers.{has_name, is_port}
use Rattle.shop_floor.specs.Floor.{Floor, floor_of, is_present, unread, unread_name, is_taken_as_read, arrival_of}
use Rattle.shop_floor.specs.Rows.{is_elsewhere}
use Rattle.shop_floor.specs.Machines.{floor_starts, floor_fired, floor_least}
use Rattle.shop_floor.specs.Requests.{came}
use Rattle.shop_floor.specs.Valid.{port_of, IsFloor}
use Rattle.shop_floor.proofs.Apart.{all_both, all_follows, named_so}
use Rattle.place_laws.specs.Ports.{is_held, IsAtPort, IsItsName, IsNamedHere, IsAwaited, AtPorts}
use Rattle.place_laws.proofs.Away.{none_all, IsAway, all_absent}
use Rattle.place_laws.proofs.PortChanges.{IsHeldHere, IsHeldElse, IsNotHere, at_place, updated_twice, change-at-ports, nobody_here}
use Rattle.place_laws.proofs.PortTransfers.{among_loadable}
use Rattle.place_laws.proofs.QuietPorts.{quiet_port}

-- ---- the name that is given

-- the last of a list, 0 for none
abbrev last_of : List ℕ → ℕ
last_of [] = 0
last_of (n ∷ []) = n
last_of (n ∷ m ∷ ns) = last_of (m ∷ ns)

-- two ports of one such name are one
unread_same : (n m : ℕ) → unread_name n ≡ unread_name m → n ≡ m
unread_same n m e = let same : 48 + n ≡ 48 + m = ap last_of e in omega (arith, same)

-- it begins as those that the tool gives
unread_begins : (n : ℕ) → starts_with nat_eq (unread_name n) unread ≡ true
unread_begins n = refl

-- nobody is present under the name that the tool gives at a port where nobody is
unread_absent : (place : ℕ) (f : Floor) → AllByRecursion (IsNotHere place) f.carriers → AtPorts f → is_present (unread_name (suc place)) f.carriers ≡ false
unread_absent place f nobody kept =
    all_absent (unread_name (suc place)) f.carriers
    (all_follows (λ c. IsNotHere place c × (IsAtPort f.ports c × IsNamedHere c)) (IsAway (unread_name (suc place))) f.carriers
    (λ c b. of c b.0 b.1.0 b.1.1 (has_name (unread_name (suc place)) c) refl c.present refl)
    (all_both (IsNotHere place) (λ c. IsAtPort f.ports c × IsNamedHere c) f.carriers nobody (all_both (IsAtPort f.ports) IsNamedHere f.carriers kept.at kept.named))) where
      here : (c : Carrier) (o : Option PortNo) → c.name ≡ unread_name (suc place) → is_held (port_of o f.ports) ≡ true → ((port : ℕ) → is_port port o ≡ true → IsItsName port c.name) → is_port (suc place) o ≡ true
      here c None named held its = absurd (true≢false (sym held))
      here c (Some n) named held its =
          let begins : starts_with nat_eq c.name unread ≡ true = subst (λ (name : List ℕ). starts_with nat_eq name unread ≡ true) (sym named) (unread_begins (suc place)) in
          let own : (n.0 == n.0) ≡ true = grind (arith, nat_tests) in
          let same : suc place ≡ n.0 = unread_same (suc place) n.0 (sym named ∙ its n.0 own begins) in
          grind (arith, nat_tests)

      of : (c : Carrier) → IsNotHere place c → IsAtPort f.ports c → IsNamedHere c → (b : Bool) → has_name (unread_name (suc place)) c ≡ b → (d : Bool) → c.present ≡ d → (b && d) ≡ false
      of c nobody at named false e d q = refl
      of c nobody at named true e false q = refl
      of c nobody at named true e true q = absurd (nobody q (here c c.port (named_so (unread_name (suc place)) c e) (at q) (named q)))

-- what a name that comes is to be
record IsGiven (f : Floor) (port : ℕ) (name : List ℕ) : Type 0 where
  new : is_present name f.carriers ≡ false
  named : IsItsName port name

-- what came gets such a name
given : (place : ℕ) (name : Option (List ℕ)) (slots : List ℕ) (f : Floor) → AllByRecursion (IsNotHere place) f.carriers → AtPorts f → IsGiven f (suc place) (arrival_of (suc place) name slots f.carriers).name
given place name slots f nobody kept = of name where
  unread_given : IsGiven f (suc place) (unread_name (suc place))
  unread_given = record { new = unread_absent place f nobody kept; named = λ e. refl }

  read : (name : List ℕ) (b : Bool) → is_taken_as_read name f.carriers ≡ b → IsGiven f (suc place) (cond {A = Arrival} b (record { name = name; is_read = true; map = slots }) (record { name = unread_name (suc place); is_read = false; map = slots })).name
  read name true e =
      let parts = and_parts (not (starts_with nat_eq name unread)) (not (is_present name f.carriers)) e in
      record { new = not-true _ parts.1; named = λ begins. absurd (both_ways _ (not-true _ parts.0) begins) }
  read name false e = unread_given

  of : (name : Option (List ℕ)) → IsGiven f (suc place) (arrival_of (suc place) name slots f.carriers).name
  of None = unread_given
  of (Some name) = read name (is_taken_as_read name f.carriers) refl

-- ---- the port's carrier isn't present

owner_absent : (place : ℕ) (f : Floor) (name : List ℕ) → is_elsewhere (suc place) (Some name) f.carriers ≡ false → AllByRecursion (IsNotHere place) f.carriers → is_present name f.carriers ≡ false
owner_absent place f name not_elsewhere nobody =
    all_absent name f.carriers
    (all_follows (λ c. IsNotHere place c × ((has_name name c && (c.present && not (is_port (suc place) c.port))) ≡ false)) (IsAway name) f.carriers
    (λ c b. of c b.0 (has_name name c) c.present refl (is_port (suc place) c.port) refl b.1)
    (all_both (IsNotHere place) (λ c. (has_name name c && (c.present && not (is_port (suc place) c.port))) ≡ false) f.carriers nobody
    (none_all (λ c. has_name name c && (c.present && not (is_port (suc place) c.port))) f.carriers not_elsewhere))) where
      of : (c : Carrier) → IsNotHere place c → (b d : Bool) → c.present ≡ d → (h : Bool) → is_port (suc place) c.port ≡ h → (b && (d && not h)) ≡ false → (b && d) ≡ false
      of c absent false d q h r e = refl
      of c absent true false q h r e = refl
      of c absent true true q true r e = absurd (absent q r)
      of c absent true true q false r e = absurd (true≢false e)

-- ---- all of it

-- what came is written at a port, and row 3 fires there
abbrev placed : Arrival → Port → Port
placed a p = ports.fires_row 4 3 (record p { arrival = Some a })

placed-at-ports : (place : ℕ) (f : Floor) (p : Port) (a : Arrival) → slice_get f.ports place ≡ Some p → p.states.transfer ≡ ReadyToLoad → IsGiven f (suc place) a.name → floor_least f ≡ None → IsFloor f → AtPorts f → AtPorts (floor_of (update_at place (placed a) f.ports) f.carriers f.next_carrier)
placed-at-ports place f p a s loadable named least valid kept =
    change-at-ports place (placed a) f p f.carriers f.next_carrier s (record {
      here = all_follows (IsNotHere place) (IsHeldHere place (placed a p)) f.carriers (λ c absent present here. absurd (absent present here)) nobody;
      others = all_follows (IsAtPort f.ports) (IsHeldElse place f.ports) f.carriers (λ c at e. at) kept.at;
      named = kept.named;
      comes = λ b is. comes b is;
      elsewhere = λ n r b e found arrives. absurd (no_other n r found (ap is_some arrives));
      alone = λ n r e found some too. no_other n r found some;
    }) kept where
      nobody : AllByRecursion (IsNotHere place) f.carriers
      nobody = nobody_here place f p s (rw loadable refl) kept

      -- nothing is awaited at any port
      no_other : (n : ℕ) (r : Port) → port_numbered n f.ports ≡ Some r → is_some r.arrival ≡ true → ⊥
      no_other zero r found some = absurd (cc)
      no_other (suc m) r found some = both_ways _ (quiet_port f m r found least valid).none some

      absent : (name : List ℕ) → p.carrier ≡ Some name → is_present name f.carriers ≡ false
      absent name is = owner_absent place f name (subst (λ (o : Option (List ℕ)). is_elsewhere (suc place) o f.carriers ≡ false) is (quiet_port f place p s least valid).not_elsewhere) nobody

      awaited : IsAwaited f.carriers (suc place) (placed a p) a
      awaited = record { blocked = rw loadable refl; new = named.new; named = named.named; owner = absent }

      comes : (b : Arrival) → Some a ≡ Some b → IsAwaited f.carriers (suc place) (placed a p) b
      comes b is = let same : a ≡ b = cc in subst (λ (c : Arrival). IsAwaited f.carriers (suc place) (placed a p) c) same awaited

pub placing-at-ports : (port : ℕ) (name : Option (List ℕ)) (slots : List ℕ) (f : Floor) → floor_starts (firing 4 port 3) f ≡ true → floor_least f ≡ None → IsFloor f → AtPorts f → AtPorts (floor_fired (firing 4 port 3) (came port (arrival_of port name slots f.carriers) f))
placing-at-ports port name slots f starts least valid kept =
    at_place (λ n. AtPorts (floor_fired (firing 4 n 3) (came n (arrival_of n name slots f.carriers) f))) starts_there f.ports port (λ n. refl) (λ place p s e. there place p s e) starts where
      starts_there : ℕ → Option Port → Bool
      starts_there n None = false
      starts_there n (Some p) = is_among transfer_number (ReadyToLoad ∷ []) p.states.transfer && true

      there : (place : ℕ) (p : Port) → slice_get f.ports place ≡ Some p → (is_among transfer_number (ReadyToLoad ∷ []) p.states.transfer && true) ≡ true → AtPorts (floor_fired (firing 4 (suc place) 3) (came (suc place) (arrival_of (suc place) name slots f.carriers) f))
      there place p s e =
          let loadable = among_loadable p.states.transfer (and_parts (is_among transfer_number (ReadyToLoad ∷ []) p.states.transfer) true e).0 in
          let nobody = nobody_here place f p s (rw loadable refl) kept in
          let a = arrival_of (suc place) name slots f.carriers in
          subst (λ (ps : List Port). AtPorts (floor_of ps f.carriers f.next_carrier)) (sym (updated_twice place (λ q. record q { arrival = Some a }) (ports.fires_row 4 3) f.ports))
          (placed-at-ports place f p a s loadable (given place name slots f nobody kept) least valid kept)
