-- What changes of carriers leave of the states of accessing: a carrier that is present is found behind them in the same state.
use Rattle.std.proofs.Common.{◌≡◌, ◌≤◌, ℕ, suc, ◌==◌, Bool, true, false, if◌then◌else◌, List, [], ◌∷◌, ◌++◌, find, Option, Some, None, is_some, slice_get, refl, sym, ◌∙◌, ap, subst}
use Rattle.std.proofs.lemmas.Bool.{and_parts}
use Rattle.std.proofs.lemmas.Bool.Decides.{Decides-eqb}
use Rattle.gem_tables.specs.Table.{firing}
use Rattle.gem_tables.proofs.Rows.{looked_for}
use Rattle.load_port.specs.declared.port.Port.{Port}
use Rattle.load_port.specs.declared.port.Arrival.{Arrival}
use Rattle.load_port.specs.declared.record.Transfer.{Transfer}
use Rattle.load_port.specs.declared.record.Access.{Access}
use Rattle.load_port.specs.declared.record.Reservation.{Reservation}
use Rattle.load_port.specs.declared.record.Association.{Association}
use Rattle.load_port.specs.Tables.{PortRow, transfer_table, access_table, reservation_table, association_number, association_table}
use Rattle.load_port.specs.Ports as ports
use Rattle.load_port.specs.Ports.{port_numbered}
use Rattle.carrier.specs.declared.carrier.Carrier.{Carrier}
use Rattle.carrier.specs.Carriers as carriers
use Rattle.carrier.specs.Carriers.{has_name, carrier_numbered, change_numbered, change_named, without, with_created, found_or_created, is_known, came_to, binds}
use Rattle.shop_floor.specs.Floor.{Floor, with_port}
use Rattle.shop_floor.specs.Rows.{bound_to, is_directed, owner, forgets, arrived, arrival_at, without_owner, found_does}
use Rattle.shop_floor.specs.Machines.{floor_starts, floor_fired}
use Rattle.shop_floor.proofs.Cases.{starts_at_port}
use Rattle.shop_floor.proofs.Keeps.{with_arrival}
use Rattle.floor_model.specs.declared.tracked.Substrate.{Substrate}
use Rattle.floor_model.specs.Floor.{ToolFloor}
use Rattle.floor_moves.specs.Valid.{Valid}
use Rattle.place_laws.specs.Picture.{picture, of_one}
use Rattle.place_laws.specs.Ports.{AtPorts}
use Rattle.place_laws.specs.Sound.{Base}
use Rattle.place_laws.proofs.Stays.{NonePresent, none_present, found_without, at_found}
use Rattle.place_laws.proofs.ShopRows.{is_gentle}
use Rattle.place_laws.proofs.Holding.{kept_there, its_carrier}
use Rattle.floor_laws.proofs.ShopBase.{accessing, StayOpen}

-- ---- the same carriers are found

-- each that is present is found as it was
abbrev pub Finds : List Carrier → List Carrier → Type 0
Finds cs ds = (n : ℕ) (c : Carrier) → carrier_numbered n cs ≡ Some c → c.present ≡ true → carrier_numbered n ds ≡ Some c

pub finds_same : (cs : List Carrier) → Finds cs cs
finds_same cs n c found present = found

pub finds_then : (cs ds es : List Carrier) → Finds cs ds → Finds ds es → Finds cs es
finds_then cs ds es first next n c found present = next n c (first n c found present) present

-- behind one that isn't present and is forgotten
pub finds_without : (name : List ℕ) (cs : List Carrier) → NonePresent name cs → Finds cs (without name cs)
finds_without name cs none n c found present = found_without name n c cs (unlike (has_name name c) refl) found where
  unlike : (b : Bool) → has_name name c ≡ b → has_name name c ≡ false
  unlike true is = absurd (at_found (λ (x : Carrier). has_name name x ≡ true → x.present ≡ true → ⊥) (λ (x : Carrier). x.number == n) cs c none found is present)
  unlike false is = is

pub finds_forgets : (o : Option (List ℕ)) (cs : List Carrier) → ((name : List ℕ) → o ≡ Some name → NonePresent name cs) → Finds cs (forgets o cs)
finds_forgets None cs none = finds_same cs
finds_forgets (Some name) cs none = finds_without name cs (none name refl)

-- with one more behind the others
pub finds_more : (cs : List Carrier) (y : Carrier) → Finds cs (cs ++ y ∷ [])
finds_more [] y n c found present = absurd (cc)
finds_more (x ∷ xs) y n c found present = of (x.number == n) found (λ f. finds_more xs y n c f present) where
  of : (b : Bool) → (if b then Some x else carrier_numbered n xs) ≡ Some c → (carrier_numbered n xs ≡ Some c → carrier_numbered n (xs ++ y ∷ []) ≡ Some c) → (if b then Some x else carrier_numbered n (xs ++ y ∷ [])) ≡ Some c
  of true f later = f
  of false f later = later f

pub finds_found : (number : ℕ) (name : List ℕ) (cs : List Carrier) → Finds cs (found_or_created number name cs)
finds_found number name cs = of (is_known name cs) where
  of : (b : Bool) → Finds cs (if b then cs else with_created number name cs)
  of true = finds_same cs
  of false = finds_more cs _

-- ---- a carrier behind a change

-- the one of a number behind a change of the one of a name
found_named : (name : List ℕ) (change : Carrier → Carrier) → ((c : Carrier) → (change c).number ≡ c.number) → (n : ℕ) (c : Carrier) (cs : List Carrier) → carrier_numbered n cs ≡ Some c → carrier_numbered n (change_named name change cs) ≡ Some (if has_name name c then change c else c)
found_named name change keeps n c [] found = absurd (cc)
found_named name change keeps n c (x ∷ xs) found = ap (λ (m : ℕ). if m == n then Some (if has_name name x then change x else x) else carrier_numbered n (change_named name change xs)) (number (has_name name x)) ∙ of (x.number == n) found (found_named name change keeps n c xs) where
  number : (b : Bool) → (if b then change x else x).number ≡ x.number
  number true = keeps x
  number false = refl

  of : (b : Bool) → (if b then Some x else carrier_numbered n xs) ≡ Some c → (carrier_numbered n xs ≡ Some c → carrier_numbered n (change_named name change xs) ≡ Some (if has_name name c then change c else c))
      → (if b then Some (if has_name name x then change x else x) else carrier_numbered n (change_named name change xs)) ≡ Some (if has_name name c then change c else c)
  of true f later = let same : x ≡ c = cc in ap (λ (d : Carrier). Some (if has_name name d then change d else d)) same
  of false f later = later f

-- two tests of one number
tests_alike : (a k n : ℕ) → (a == k) ≡ true → (b : Bool) → (a == n) ≡ b → (n == k) ≡ b
tests_alike a k n is true e = (Decides-eqb n k).1 (sym ((Decides-eqb a n).0 e) ∙ (Decides-eqb a k).0 is)
tests_alike a k n is false e = of (n == k) refl where
  of : (b : Bool) → (n == k) ≡ b → (n == k) ≡ false
  of true t = let both = (Decides-eqb a n).1 ((Decides-eqb a k).0 is ∙ sym ((Decides-eqb n k).0 t)) in absurd (let clash : true ≡ false = sym both ∙ e in cc)
  of false t = t

-- the one of a number behind a change of the one of a number
pub found_numbered : (k : ℕ) (change : Carrier → Carrier) → ((c : Carrier) → (change c).number ≡ c.number) → (n : ℕ) (c : Carrier) (cs : List Carrier) → carrier_numbered n cs ≡ Some c → carrier_numbered n (change_numbered k change cs) ≡ Some (if n == k then change c else c)
found_numbered k change keeps n c [] found = absurd (cc)
found_numbered k change keeps n c (x ∷ xs) found = of (x.number == k) refl (x.number == n) refl found (found_numbered k change keeps n c xs) where
  of : (here : Bool) → (x.number == k) ≡ here → (there : Bool) → (x.number == n) ≡ there → (if there then Some x else carrier_numbered n xs) ≡ Some c → (carrier_numbered n xs ≡ Some c → carrier_numbered n (change_numbered k change xs) ≡ Some (if n == k then change c else c))
      → carrier_numbered n (if here then change x ∷ xs else x ∷ change_numbered k change xs) ≡ Some (if n == k then change c else c)
  of true h true t f later =
      let same : x ≡ c = cc in
      ap (λ (m : ℕ). if m == n then Some (change x) else carrier_numbered n xs) (keeps x)
      ∙ ap (λ (b : Bool). if b then Some (change x) else carrier_numbered n xs) t
      ∙ ap (λ (d : Carrier). Some (change d)) same
      ∙ ap (λ (b : Bool). Some (if b then change c else c)) (sym (tests_alike x.number k n h true t))
  of true h false t f later =
      ap (λ (m : ℕ). if m == n then Some (change x) else carrier_numbered n xs) (keeps x)
      ∙ ap (λ (b : Bool). if b then Some (change x) else carrier_numbered n xs) t
      ∙ f
      ∙ ap (λ (b : Bool). Some (if b then change c else c)) (sym (tests_alike x.number k n h false t))
  of false h true t f later =
      ap (λ (b : Bool). if b then Some x else carrier_numbered n (change_numbered k change xs)) t
      ∙ f
      ∙ ap (λ (b : Bool). Some (if b then change c else c)) (sym (subst (λ (m : ℕ). (m == k) ≡ false) ((Decides-eqb x.number n).0 t) h))
  of false h false t f later = ap (λ (b : Bool). if b then Some x else carrier_numbered n (change_numbered k change xs)) t ∙ later f

-- ---- accessing

-- each that is present is found behind the change in the same state of accessing
abbrev pub SameAccess : List Carrier → List Carrier → Type 0
SameAccess cs ds = (n : ℕ) (c : Carrier) → carrier_numbered n cs ≡ Some c → c.present ≡ true → (d : Carrier) × (carrier_numbered n ds ≡ Some d) × (accessing d ≡ accessing c)

pub access_found : (cs ds : List Carrier) → Finds cs ds → SameAccess cs ds
access_found cs ds finds n c found present = (c, finds n c found present, refl)

pub access_same : (cs : List Carrier) → SameAccess cs cs
access_same cs = access_found cs cs (finds_same cs)

-- behind a change of the carrier of a name that leaves its number and that state
pub access_named : (name : List ℕ) (change : Carrier → Carrier) → ((c : Carrier) → (change c).number ≡ c.number) → ((c : Carrier) → accessing (change c) ≡ accessing c) → (cs ds : List Carrier) → SameAccess cs ds → SameAccess cs (change_named name change ds)
access_named name change number state cs ds same n c found present =
    let before = same n c found present in
    (_, found_named name change number n before.0 ds before.1, of before.0 (has_name name before.0) ∙ before.2) where
      of : (d : Carrier) (b : Bool) → accessing (if b then change d else d) ≡ accessing d
      of d true = state d
      of d false = refl

-- of the carrier of a number
pub access_numbered : (k : ℕ) (change : Carrier → Carrier) → ((c : Carrier) → (change c).number ≡ c.number) → ((c : Carrier) → accessing (change c) ≡ accessing c) → (cs : List Carrier) → SameAccess cs (change_numbered k change cs)
access_numbered k change number state cs n c found present = (_, found_numbered k change number n c cs found, of (n == k)) where
  of : (b : Bool) → accessing (if b then change c else c) ≡ accessing c
  of true = state c
  of false = refl

-- so the carriers of members are NOT ACCESSED or IN ACCESS still
pub stays_open : (f : ToolFloor) (s : Floor) → Base f → SameAccess f.shop.carriers s.carriers → Valid (picture f) → StayOpen f s
stays_open f s b same v n is =
    let h = kept_there f b.carried n (v.members.kept n is) in
    let which : (picture f).carrier_of n ≡ h.one.carrier = ap (of_one 0 (λ (t : Substrate). t.carrier)) h.found in
    let there = same h.one.carrier h.its h.known h.of.present in
    let now = ap (λ (c : ℕ). of_one 0 accessing (carrier_numbered c s.carriers)) which ∙ ap (of_one 0 accessing) there.1 ∙ there.2 in
    let before = its_carrier f 0 accessing n h in
    subst (λ (k : ℕ). k ≤ 1) (before ∙ sym now) (v.members.here n is)

-- ---- the rows of load ports

module _ (f : Floor) where
  abbrev pub Same : Floor → Type 0
  Same g = SameAccess f.carriers g.carriers

  still : Same f
  still = access_same f.carriers

  pub transfer_access : (port row : ℕ) → Same (floor_fired (firing 4 port row) f)
  transfer_access port row = looked_for (λ (o : Option (PortRow Transfer)). Same (with_port port (ports.fires_row 4 row) (found_does o port f))) transfer_table row still (still, (still, (still, (still, (still, tt)))))

  pub mode_access : (port row : ℕ) → Same (floor_fired (firing 5 port row) f)
  mode_access port row = looked_for (λ (o : Option (PortRow Access)). Same (with_port port (ports.fires_row 5 row) (found_does o port f))) access_table row still (still, (still, tt))

  pub reservation_access : (port row : ℕ) → Same (floor_fired (firing 6 port row) f)
  reservation_access port row = looked_for (λ (o : Option (PortRow Reservation)). Same (with_port port (ports.fires_row 6 row) (found_does o port f))) reservation_table row still (still, (still, (still, tt)))

  -- ---- association

  bound_access : (port : ℕ) (o : Option Carrier) → Same (bound_to port o f)
  bound_access port None = still
  bound_access port (Some c) = access_named c.name binds (λ d. refl) (λ d. refl) f.carriers f.carriers still

  -- what came to a port
  came_access : (port : ℕ) (o : Option Arrival) (g : Floor) → Finds f.carriers g.carriers → Same (arrived port o g)
  came_access port None g finds = access_found f.carriers g.carriers finds
  came_access port (Some a) g finds =
      let there = found_or_created g.next_carrier a.name g.carriers in
      access_named a.name (came_to port a.is_read a.map) (λ d. refl) (λ d. refl) f.carriers there
      (access_found f.carriers there (finds_then f.carriers g.carriers there finds (finds_found g.next_carrier a.name g.carriers)))

  -- where something came, the port's own carrier is not present
  replaced_finds : (place : ℕ) (p : Port) → AtPorts f → slice_get f.ports place ≡ Some p → is_some p.arrival ≡ true → Finds f.carriers (without_owner (suc place) f).carriers
  replaced_finds place p at s may = with_arrival p.arrival may (λ a is. finds_forgets (owner (port_numbered (suc place) f.ports)) f.carriers (λ name its. none_present name f.carriers ((at.awaited (suc place) p a s is).owner name (sym (ap owner s) ∙ its))))

  pub association_access : (port row : ℕ) → AtPorts f → is_gentle row ≡ true → floor_starts (firing 7 port row) f ≡ true → Same (floor_fired (firing 7 port row) f)
  association_access port row at gentle starts =
      starts_at_port association_number association_table (λ s. s.association) (λ to s. record s { association = to })
      (λ (n r : ℕ) (o : Option (PortRow Association)). is_gentle r ≡ true → Same (with_port n (ports.fires_row 7 r) (found_does o n f))) f port row
      (λ place p s. (
        (λ among wants kind. bound_access (suc place) (find (is_directed (suc place)) f.carriers)),
        (
          (λ among wants kind. absurd (cc)),
          (
            (λ among wants kind. came_access (suc place) (arrival_at (port_numbered (suc place) f.ports)) f (finds_same f.carriers)),
            (
              (λ among wants kind. came_access (suc place) (arrival_at (port_numbered (suc place) f.ports)) (without_owner (suc place) f) (replaced_finds place p at s (and_parts _ _ wants).0)),
              (
                (λ among wants kind. came_access (suc place) (arrival_at (port_numbered (suc place) f.ports)) f (finds_same f.carriers)),
                ((λ among wants kind. absurd (cc)), ((λ among wants kind. still), tt)),
              ),
            ),
          ),
        ),
      ))
      starts gentle

  -- ---- the ids and the slot maps of carriers

  pub id_access : (carrier row : ℕ) → Same (floor_fired (firing 8 carrier row) f)
  id_access carrier row = access_numbered carrier (carriers.fires_row 8 row) (λ c. refl) (λ c. refl) f.carriers

  pub map_access : (carrier row : ℕ) → Same (floor_fired (firing 9 carrier row) f)
  map_access carrier row = access_numbered carrier (carriers.fires_row 9 row) (λ c. refl) (λ c. refl) f.carriers
