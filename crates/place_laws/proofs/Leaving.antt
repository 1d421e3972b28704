-- What the rows of the load ports and the carriers leave of the substrates: the carriers of substrates stay, and so does what is
-- registered of each.
use Rattle.std.proofs.Common.{arith, ◌≡◌, ℕ, suc, ◌==◌, Bool, true, false, not, ◌&&◌, if◌then◌else◌, List, length, Option, Some, None, is_some, slice_get, refl, sym, ◌∙◌, ap, subst}
use Rattle.std.specs.List.{AllByRecursion}
use Rattle.std.proofs.lemmas.Bool.{or_parts}
use Rattle.std.proofs.lemmas.Bool.Decides.{nat_tests}
use Rattle.gem_tables.specs.Table.{after}
use Rattle.load_port.specs.declared.port.Port.{Port}
use Rattle.load_port.specs.declared.port.Arrival.{Arrival}
use Rattle.load_port.specs.Ports as ports
use Rattle.carrier.specs.declared.carrier.Carrier.{Carrier}
use Rattle.carrier.specs.declared.record.IdState.{IdState}
use Rattle.carrier.specs.declared.record.MapState.{MapState}
use Rattle.carrier.specs.declared.record.MapState.TheVariants as slots
use Rattle.carrier.specs.Tables.{map_number, map_table}
use Rattle.carrier.specs.Record.{is_id_not_read, is_map_not_read, is_map_verified}
use Rattle.carrier.specs.Carriers as carriers
use Rattle.carrier.specs.Carriers.{has_name, change_named, without, created, found_or_created, came_to, binds}
use Rattle.shop_floor.specs.Floor.{Floor, with_port, with_carrier}
use Rattle.shop_floor.specs.Rows.{bound_to, owner, forgets, arrival_at, arrived, arriving, without_owner}
use Rattle.shop_floor.specs.Valid.{ReadWherePresent, IsFloor}
use Rattle.shop_floor.proofs.Apart.{all_both, all_follows, all_filtered, all_changed, all_found}
use Rattle.shop_floor.proofs.Belonging.{ports_length}
use Rattle.shop_floor.proofs.Keeps.{with_arrival, all_true}
use Rattle.shop_floor.proofs.Numbers.{all_numbered}
use Rattle.floor_model.specs.declared.tracked.Substrate.{Substrate}
use Rattle.floor_model.specs.Substrates.{reaches_verified}
use Rattle.place_laws.specs.Ports.{AtPorts}
use Rattle.place_laws.specs.Standing.{AreRegistered}
use Rattle.place_laws.proofs.Stays.{GoesOn, Stay, stay_same, stay_then, stay_numbered, stay_named, stay_without, stay_found, NonePresent, none_present, LeavesSlots, leaves-registered, not-verified}

-- what a change of the load ports and the carriers leaves of the substrates
pub record Leaves (ss : List Substrate) (f g : Floor) : Type 0 where
  pub stay : Stay f.carriers g.carriers
  pub registered : AllByRecursion (AreRegistered ss) f.carriers → AllByRecursion (AreRegistered ss) g.carriers
  pub ports : length g.ports ≡ length f.ports

-- ---- the slot map

-- a row of the slot map leaves VERIFIED, and but for rows 1 and 3 none becomes so
and_false : (b : Bool) → (b && false) ≡ false
and_false true = refl
and_false false = refl

pub still_verified : (row : ℕ) (m : MapState) → is_map_verified m ≡ true → is_map_verified (after map_number map_table row m) ≡ true
still_verified row slots.Verified v = rw (and_false (1 == row), and_false (2 == row), and_false (3 == row), and_false (4 == row)) refl
still_verified row _ v = absurd (cc)

-- the state behind, by which of the rows it is
behind_not_read : (one two : Bool) → one ≡ false → is_map_verified (if one && true then slots.Verified else (if two && true then slots.WaitingForHost else slots.NotRead)) ≡ false
behind_not_read true two e = absurd (cc)
behind_not_read false true e = refl
behind_not_read false false e = refl

behind_waiting : (three four : Bool) → three ≡ false → is_map_verified (if three && true then slots.Verified else (if four && true then slots.VerificationFailed else slots.WaitingForHost)) ≡ false
behind_waiting true four e = absurd (cc)
behind_waiting false true e = refl
behind_waiting false false e = refl

-- numbers that differ differ the other way round
pub swapped : (n m : ℕ) → (n == m) ≡ false → (m == n) ≡ false
swapped n m e = grind (arith, nat_tests, e)

not_newly : (row : ℕ) (m : MapState) → reaches_verified row ≡ false → is_map_verified (after map_number map_table row m) ≡ true → is_map_verified m ≡ true
not_newly row slots.NotRead other v =
    let parts = or_parts (row == 1) (row == 3) other in
    let one : is_map_verified (after map_number map_table row slots.NotRead) ≡ false = rw (and_false (3 == row), and_false (4 == row)) (behind_not_read (1 == row) (2 == row) (swapped row 1 parts.0)) in
    absurd (cc)
not_newly row slots.WaitingForHost other v =
    let parts = or_parts (row == 1) (row == 3) other in
    let one : is_map_verified (after map_number map_table row slots.WaitingForHost) ≡ false = rw (and_false (1 == row), and_false (2 == row)) (behind_waiting (3 == row) (4 == row) (swapped row 3 parts.1)) in
    absurd (cc)
not_newly row slots.Verified other v = refl
not_newly row slots.VerificationFailed other v =
    let one : is_map_verified (after map_number map_table row slots.VerificationFailed) ≡ false = rw (and_false (1 == row), and_false (2 == row), and_false (3 == row), and_false (4 == row)) refl in
    absurd (cc)

-- ---- what stays

module _ (ss : List Substrate) where
  pub leaves_then : (f g h : Floor) → Leaves ss f g → Leaves ss g h → Leaves ss f h
  leaves_then f g h first next = record { stay = stay_then f.carriers g.carriers h.carriers first.stay next.stay; registered = λ are. next.registered (first.registered are); ports = next.ports ∙ first.ports }

  pub leaves_same : (f : Floor) → Leaves ss f f
  leaves_same f = record { stay = stay_same f.carriers; registered = λ are. are; ports = refl }

  -- ---- a port changes

  pub port_leaves : (number : ℕ) (change : Port → Port) (f : Floor) → Leaves ss f (with_port number change f)
  port_leaves number change f = record { stay = stay_same f.carriers; registered = λ are. are; ports = ports_length number change f.ports }

  -- ---- a carrier changes in its states

  -- it goes on with its number, name, port and map, VERIFIED where it was and nowhere else
  pub record Goes (change : Carrier → Carrier) : Type 0 where
    pub number : (c : Carrier) → (change c).number ≡ c.number
    pub on : (c : Carrier) → c.present ≡ true → is_map_verified c.states.map ≡ true → GoesOn c (change c)
    pub slots : (c : Carrier) → LeavesSlots c (change c)

  pub carrier_leaves : (number : ℕ) (change : Carrier → Carrier) (f : Floor) → Goes change → Leaves ss f (with_carrier number change f)
  carrier_leaves number change f goes = record {
    stay = stay_numbered number change goes.number goes.on f.carriers;
    registered = λ are. all_numbered (AreRegistered ss) number change f.carriers (λ c r. leaves-registered ss c (change c) (goes.slots c) r) are;
    ports = refl;
  }

  pub id_goes : (row : ℕ) → Goes (carriers.fires_row 8 row)
  id_goes row = record {
    number = λ c. refl;
    on = λ c present verified. record { present = present; verified = verified; name = refl; port = refl };
    slots = λ c. record { number = refl; name = refl; port = refl; map = refl; verified = λ v. v };
  }

  pub access_goes : (row : ℕ) → Goes (carriers.fires_row 10 row)
  access_goes row = record {
    number = λ c. refl;
    on = λ c present verified. record { present = present; verified = verified; name = refl; port = refl };
    slots = λ c. record { number = refl; name = refl; port = refl; map = refl; verified = λ v. v };
  }

  pub map_goes : (row : ℕ) → reaches_verified row ≡ false → Goes (carriers.fires_row 9 row)
  map_goes row other = record {
    number = λ c. refl;
    on = λ c present verified. record { present = present; verified = still_verified row c.states.map verified; name = refl; port = refl };
    slots = λ c. record { number = refl; name = refl; port = refl; map = refl; verified = not_newly row c.states.map other };
  }

  -- ---- a carrier comes

  -- one that isn't present isn't VERIFIED
  pub unverified : (c : Carrier) → ReadWherePresent c → (c.present ≡ true → ⊥) → is_map_verified c.states.map ≡ false
  unverified c reads absent = of (is_map_verified c.states.map) refl where
    read : (s : IdState) (m : MapState) → is_map_verified m ≡ true → not (is_id_not_read s && is_map_not_read m) ≡ true
    read s slots.NotRead v = absurd (cc)
    read s slots.WaitingForHost v = absurd (cc)
    read s slots.Verified v = ap not (and_false (is_id_not_read s))
    read s slots.VerificationFailed v = absurd (cc)

    of : (b : Bool) → is_map_verified c.states.map ≡ b → is_map_verified c.states.map ≡ false
    of true v = absurd (absent (reads (read c.states.id c.states.map v)))
    of false v = v

  -- a change of the carrier of a name that is present nowhere, which leaves its number and its states
  absent_registered : (name : List ℕ) (change : Carrier → Carrier) (cs : List Carrier) → ((c : Carrier) → (change c).states.map ≡ c.states.map) → AllByRecursion ReadWherePresent cs → NonePresent name cs → AllByRecursion (AreRegistered ss) cs → AllByRecursion (AreRegistered ss) (change_named name change cs)
  absent_registered name change cs states reads none are =
      all_changed (λ (c : Carrier). AreRegistered ss c × (ReadWherePresent c × (has_name name c ≡ true → c.present ≡ true → ⊥))) (AreRegistered ss) name change cs
      (λ c named all. not-verified ss (change c) (ap is_map_verified (states c) ∙ unverified c all.1.0 (all.1.1 named)))
      (λ c other all. all.0)
      (all_both (AreRegistered ss) (λ (c : Carrier). ReadWherePresent c × (has_name name c ≡ true → c.present ≡ true → ⊥)) cs are (all_both ReadWherePresent (λ (c : Carrier). has_name name c ≡ true → c.present ≡ true → ⊥) cs reads none))

  absent_stays : (name : List ℕ) (change : Carrier → Carrier) (cs : List Carrier) → ((c : Carrier) → (change c).number ≡ c.number) → NonePresent name cs → Stay cs (change_named name change cs)
  absent_stays name change cs keeps none =
      stay_named name change keeps cs
      (all_follows (λ (c : Carrier). has_name name c ≡ true → c.present ≡ true → ⊥) (λ (c : Carrier). has_name name c ≡ true → c.present ≡ true → is_map_verified c.states.map ≡ true → GoesOn c (change c)) cs
      (λ c never named present verified. absurd (never named present)) none)

  -- the carrier of a name that is present nowhere changes, made where it isn't known
  pub found_changes : (name : List ℕ) (change : Carrier → Carrier) (ports : List Port) (next : ℕ) (f : Floor)
      → ((c : Carrier) → (change c).number ≡ c.number) → ((c : Carrier) → (change c).states.map ≡ c.states.map)
      → AllByRecursion ReadWherePresent f.carriers → NonePresent name f.carriers → length ports ≡ length f.ports
      → Leaves ss f (record { ports = ports; carriers = change_named name change (found_or_created f.next_carrier name f.carriers); next_carrier = next })
  found_changes name change ports next f number states reads none same =
      let found = found_or_created f.next_carrier name f.carriers in
      let none_found = all_found (λ (c : Carrier). has_name name c ≡ true → c.present ≡ true → ⊥) f.next_carrier name f.carriers (λ new named present. absurd (cc)) none in
      let reads_found = all_found ReadWherePresent f.next_carrier name f.carriers (λ new was. absurd (cc)) reads in
      record {
        stay = stay_then f.carriers found (change_named name change found) (stay_found f.next_carrier name f.carriers) (absent_stays name change found number none_found);
        registered = λ are. absent_registered name change found states reads_found none_found (all_found (AreRegistered ss) f.next_carrier name f.carriers (λ new. not-verified ss (created f.next_carrier name) refl) are);
        ports = same;
      }

  -- one that is present nowhere is forgotten
  pub forgotten_leaves : (name : List ℕ) (ports : List Port) (next : ℕ) (f : Floor) → NonePresent name f.carriers → length ports ≡ length f.ports → Leaves ss f (record { ports = ports; carriers = without name f.carriers; next_carrier = next })
  forgotten_leaves name ports next f none same = record {
    stay = stay_without name f.carriers none;
    registered = λ are. all_filtered (AreRegistered ss) (AreRegistered ss) (λ (c : Carrier). not (has_name name c)) f.carriers (λ c other r. r) are;
    ports = same;
  }

  -- what came to a port
  comes_leaves : (place : ℕ) (f : Floor) (p : Port) (a : Arrival) → AllByRecursion ReadWherePresent f.carriers → NonePresent a.name f.carriers → slice_get f.ports place ≡ Some p → p.arrival ≡ Some a → Leaves ss f (arriving (suc place) f)
  comes_leaves place f p a reads none s is =
      subst (λ (o : Option Port). Leaves ss f (arrived (suc place) (arrival_at o) f)) (sym s)
      (subst (λ (o : Option Arrival). Leaves ss f (arrived (suc place) o f)) (sym is)
      (found_changes a.name (came_to (suc place) a.is_read a.map) _ _ f (λ c. refl) (λ c. refl) reads none (ports_length (suc place) _ f.ports)))

  -- ---- the rows of table 7

  abbrev pub Left : ℕ → ℕ → Floor → Floor → Type 0
  Left row place f g = Leaves ss f (with_port (suc place) (ports.fires_row 7 row) g)

  pub then_fires : (row place : ℕ) (f g : Floor) → Leaves ss f g → Left row place f g
  then_fires row place f g left = leaves_then f g (with_port (suc place) (ports.fires_row 7 row) g) left (port_leaves (suc place) (ports.fires_row 7 row) g)

  pub bound_leaves : (place : ℕ) (f : Floor) (o : Option Carrier) → Leaves ss f (bound_to (suc place) o f)
  bound_leaves place f None = leaves_same f
  bound_leaves place f (Some c) = record {
    stay = stay_named c.name binds (λ d. refl) f.carriers (all_true _ f.carriers (λ d named present verified. record { present = present; verified = verified; name = refl; port = refl }));
    registered = λ are. all_changed (AreRegistered ss) (AreRegistered ss) c.name binds f.carriers (λ d named r. leaves-registered ss d (binds d) (record { number = refl; name = refl; port = refl; map = refl; verified = λ v. v }) r) (λ d other r. r) are;
    ports = ports_length (suc place) _ f.ports;
  }

  pub arrives_leaves : (place : ℕ) (f : Floor) (p : Port) → IsFloor f → AtPorts f → slice_get f.ports place ≡ Some p → is_some p.arrival ≡ true → Leaves ss f (arriving (suc place) f)
  arrives_leaves place f p valid at s may =
      with_arrival p.arrival may (λ a is. comes_leaves place f p a valid.read (none_present a.name f.carriers ((at.awaited (suc place) p a s is).new)) s is)

  pub replaces_leaves : (place : ℕ) (f : Floor) (p : Port) → IsFloor f → AtPorts f → slice_get f.ports place ≡ Some p → is_some p.arrival ≡ true → Leaves ss f (arriving (suc place) (without_owner (suc place) f))
  replaces_leaves place f p valid at s may =
      with_arrival p.arrival may (λ a is. subst (λ (o : Option Port). Leaves ss f (arriving (suc place) (record f { carriers = forgets (owner o) f.carriers }))) (sym s) (of a is p.carrier refl)) where
        of : (a : Arrival) → p.arrival ≡ Some a → (o : Option (List ℕ)) → p.carrier ≡ o → Leaves ss f (arriving (suc place) (record f { carriers = forgets o f.carriers }))
        of a is None its = comes_leaves place f p a valid.read (none_present a.name f.carriers ((at.awaited (suc place) p a s is).new)) s is
        of a is (Some name) its =
            let waits = at.awaited (suc place) p a s is in
            let none = none_present a.name f.carriers waits.new in
            let g : Floor = record f { carriers = without name f.carriers } in
            leaves_then f g (arriving (suc place) g)
            (forgotten_leaves name f.ports f.next_carrier f (none_present name f.carriers (waits.owner name its)) refl)
            (comes_leaves place g p a
            (all_filtered ReadWherePresent ReadWherePresent (λ (c : Carrier). not (has_name name c)) f.carriers (λ c other r. r) valid.read)
            (all_filtered (λ (c : Carrier). has_name a.name c ≡ true → c.present ≡ true → ⊥) (λ (c : Carrier). has_name a.name c ≡ true → c.present ≡ true → ⊥) (λ (c : Carrier). not (has_name name c)) f.carriers (λ c other r. r) none)
            s is)
