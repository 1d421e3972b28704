-- The rows of a carrier that is created: which there are, that they change nothing, and that they start.
use Rattle.std.proofs.Common.{◌≡◌, ℕ, ◌==◌, ◌≤◌, Bool, true, false, not, cond, List, [], ◌∷◌, length, Option, Some, None, is_some, refl, sym, ap, subst, arith, ◌∙◌}
use Rattle.std.specs.List.{AllByRecursion}
use Rattle.std.proofs.lemmas.Bool.{not-true}
use Rattle.std.proofs.lemmas.Bool.Decides.{nat_tests}
use Rattle.gem_tables.specs.Table.{firing, row_of}
use Rattle.gem_tables.specs.declared.firing.Firing.{Firing}
use Rattle.shop_floor.proofs.EachTable.{either_creates}
use Rattle.load_port.specs.declared.port.Arrival.{Arrival}
use Rattle.load_port.specs.Tables as word
use Rattle.load_port.specs.Tables.{PortEffect, PortRow, transfer_table, access_table, reservation_table, association_table}
use Rattle.load_port.specs.Ports.{port_numbered}
use Rattle.carrier.specs.declared.carrier.Carrier.{Carrier}
use Rattle.carrier.specs.Carriers.{carrier_numbered, found_or_created}
use Rattle.shop_floor.specs.Floor.{Floor}
use Rattle.shop_floor.specs.Rows.{forgets, owner, without_owner, is_new, arrival_at, arrived, creation_of_arrival, port_does, port_creates, found_does, found_creates}
use Rattle.shop_floor.specs.Machines.{floor_starts, floor_fired, creation_rows}
use Rattle.shop_floor.proofs.Apart.{known_without}
use Rattle.shop_floor.proofs.Numbers.{numbered_same, created_found, still_found}

-- the row that creates a carrier leaves all as it is
pub creation_same : (f : Floor) (carrier : ℕ) → floor_fired (firing 8 carrier 1) f ≡ f
creation_same f carrier = ap (λ (cs : List Carrier). record f { carriers = cs }) (numbered_same carrier f.carriers)

-- and creates no other
pub creation_last : (f : Floor) (carrier : ℕ) → creation_rows (firing 8 carrier 1) f ≡ []
creation_last f carrier = refl

-- ---- what follows a firing

-- the rows that follow a row, and the floor behind it: those start there, and there is at most one
record Follows (rows : List Firing) (f : Floor) : Type 0 where
  creations : AllByRecursion (λ (d : Firing). d ≡ firing 8 d.object 1) rows
  start : AllByRecursion (λ (d : Firing). floor_starts d f ≡ true) rows
  few : length rows ≤ 1

none_follows : (f : Floor) → Follows [] f
none_follows f = record { creations = tt; start = tt; few = omega arith }

-- a carrier is there, so that the row that creates it starts
starts_there : (n : ℕ) (f : Floor) → is_some (carrier_numbered n f.carriers) ≡ true → floor_starts (firing 8 n 1) f ≡ true
starts_there n f e = of (carrier_numbered n f.carriers) refl e where
  of : (o : Option Carrier) → carrier_numbered n f.carriers ≡ o → is_some o ≡ true → floor_starts (firing 8 n 1) f ≡ true
  of None q s = absurd (cc)
  of (Some c) q s = rw q refl

one_follows : (n : ℕ) (f : Floor) → is_some (carrier_numbered n f.carriers) ≡ true → Follows (firing 8 n 1 ∷ []) f
one_follows n f e = record { creations = (refl, tt); start = (starts_there n f e, tt); few = omega arith }

own_number : (n : ℕ) → (n == n) ≡ true
own_number n = grind (arith, nat_tests)

-- what came is there behind its row, where it isn't known before
made_there : (port : ℕ) (a : Option Arrival) (f : Floor) → is_new a f.carriers ≡ true → is_some (carrier_numbered f.next_carrier (arrived port a f).carriers) ≡ true
made_there port None f new = absurd (cc)
made_there port (Some a) f new =
    still_found f.next_carrier a.name _ (found_or_created f.next_carrier a.name f.carriers) (λ c. refl)
    ∙ rw (not-true _ new) (created_found f.next_carrier a.name f.carriers (own_number f.next_carrier))

-- what isn't known isn't either where one is forgotten
still_new : (a : Option Arrival) (name : Option (List ℕ)) (cs : List Carrier) → is_new a cs ≡ true → is_new a (forgets name cs) ≡ true
still_new None name cs e = absurd (cc)
still_new (Some a) None cs e = e
still_new (Some a) (Some name) cs e = ap not (known_without a.name name cs (not-true _ e))

arrival_follows : (a : Option Arrival) (f after : Floor) → (is_new a f.carriers ≡ true → is_some (carrier_numbered f.next_carrier after.carriers) ≡ true) → Follows (creation_of_arrival a f) after
arrival_follows a f after there = of (is_new a f.carriers) refl where
  of : (b : Bool) → is_new a f.carriers ≡ b → Follows (cond b (firing 8 f.next_carrier 1 ∷ []) []) after
  of true q = one_follows f.next_carrier after (there q)
  of false q = none_follows after

-- behind what a row does
effect_follows : (e : PortEffect) (port : ℕ) (f : Floor) → Follows (port_creates e port f) (port_does e port f)
effect_follows word.no_more port f = none_follows _
effect_follows word.binds port f = none_follows _
effect_follows word.forgets port f = none_follows _
effect_follows word.arrives port f =
    arrival_follows (arrival_at (port_numbered port f.ports)) f _ (made_there port (arrival_at (port_numbered port f.ports)) f)
effect_follows word.replaces port f =
    arrival_follows (arrival_at (port_numbered port f.ports)) f _
    (λ new. made_there port (arrival_at (port_numbered port f.ports)) (without_owner port f) (still_new (arrival_at (port_numbered port f.ports)) (owner (port_numbered port f.ports)) f.carriers new))
effect_follows word.frees port f = none_follows _

-- and behind the state of the port, which the rows don't see
found_follows : {S : Type 0} (o : Option (PortRow S)) (port : ℕ) (f after : Floor) → after.carriers ≡ (found_does o port f).carriers → Follows (found_creates o port f) after
found_follows None port f after same = none_follows after
found_follows (Some r) port f after same =
    let here = effect_follows r.does port f in
    record { creations = here.creations; start = seen (port_creates r.does port f) here.creations here.start; few = here.few } where
      seen : (rows : List Firing) → AllByRecursion (λ (d : Firing). d ≡ firing 8 d.object 1) rows → AllByRecursion (λ (d : Firing). floor_starts d (port_does r.does port f) ≡ true) rows → AllByRecursion (λ (d : Firing). floor_starts d after ≡ true) rows
      seen [] is starts = tt
      seen (d ∷ ds) is starts =
          let first : floor_starts (firing 8 d.object 1) (port_does r.does port f) ≡ true = subst (λ (y : Firing). floor_starts y (port_does r.does port f) ≡ true) is.0 starts.0 in
          let now : floor_starts (firing 8 d.object 1) after ≡ true = rw same first in
          (subst (λ (y : Firing). floor_starts y after ≡ true) (sym is.0) now, seen ds is.1 starts.1)

-- whatever fires
follows : (x : Firing) (f : Floor) → Follows (creation_rows x f) (floor_fired x f)
follows x f =
    either_creates Follows f x (none_follows f) (record {
      transfer = found_follows (row_of transfer_table x.row.row) x.object f _ refl;
      access = found_follows (row_of access_table x.row.row) x.object f _ refl;
      reservation = found_follows (row_of reservation_table x.row.row) x.object f _ refl;
      association = found_follows (row_of association_table x.row.row) x.object f _ refl;
      id = none_follows _;
      map = none_follows _;
      accessing = none_follows _;
    })

-- the rows that follow a firing are those of a carrier that it created
pub creations : (f : Floor) (x : Firing) → AllByRecursion (λ (d : Firing). d ≡ firing 8 d.object 1) (creation_rows x f)
creations f x = (follows x f).creations

-- they start behind it
pub creations_start : (f : Floor) (x : Firing) → AllByRecursion (λ (d : Firing). floor_starts d (floor_fired x f) ≡ true) (creation_rows x f)
creations_start f x = (follows x f).start

-- at most one does
pub few_creations : (f : Floor) (x : Firing) → length (creation_rows x f) ≤ 1
few_creations f x = (follows x f).few
