-- A row that starts at the state of its object and finds what it wants is one that may fire.
use Rattle.std.proofs.Common.{◌≡◌, ℕ, ◌==◌, Bool, true, false, cond, ◌||◌, ◌&&◌, List, [], ◌∷◌, drop, Option, Some, None, refl, sym, ap, subst, arith, ◌∙◌}
use Rattle.std.specs.Prelude.{⊤}
use Rattle.std.specs.List.{AllByRecursion}
use Rattle.std.proofs.lemmas.Bool.Decides.{nat_tests}
use Rattle.gem_tables.specs.Table.{Row, firing, is_creation, is_among, is_one_of, by_creation, row_of, starts, found_starts, wants_found, may_fire}
use Rattle.gem_tables.specs.declared.firing.Firing.{Firing}
use Rattle.gem_tables.proofs.Rows.{one_of_cases, looked_for}
use Rattle.load_port.specs.declared.port.Port.{Port}
use Rattle.load_port.specs.declared.record.PortRecord.{PortRecord}
use Rattle.load_port.specs.Record.{port_starts as states_start}
use Rattle.load_port.specs.Tables.{PortRow, transfer_number, transfer_table, access_number as mode_number, access_table, reservation_number, reservation_table, association_number, association_table}
use Rattle.load_port.specs.Ports.{port_numbered}
use Rattle.carrier.specs.declared.carrier.Carrier.{Carrier}
use Rattle.carrier.specs.declared.record.IdState.{IdState}
use Rattle.carrier.specs.declared.record.MapState.{MapState}
use Rattle.carrier.specs.declared.record.Accessing.{Accessing}
use Rattle.carrier.specs.declared.record.CarrierRecord.{CarrierRecord}
use Rattle.carrier.specs.Record.{carrier_starts as states_begin}
use Rattle.carrier.specs.declared.record.IdState.TheVariants as id
use Rattle.carrier.specs.Tables as word
use Rattle.carrier.specs.Tables.{CarrierRow, id_number, id_table, map_number, map_table, access_number, accessing_table}
use Rattle.carrier.specs.Wants.{carrier_wants}
use Rattle.carrier.specs.Carriers.{carrier_numbered}
use Rattle.shop_floor.specs.Floor.{Floor}
use Rattle.shop_floor.specs.Rows.{port_wants}
use Rattle.shop_floor.specs.Machines.{port_starts, carrier_starts, floor_starts}

or_false : (a : Bool) → (a || false) ≡ a
or_false true = refl
or_false false = refl

-- ---- any table

module _ {S W E : Type 0} where
  -- no row has the number of one before it
  abbrev pub NumberedApart : List (Row S W E) → Type 0
  NumberedApart [] = ⊤
  NumberedApart (r ∷ rows) = (row_of rows r.number ≡ None) × NumberedApart rows

  -- the row that was looked for is one of an object that was just created
  abbrev pub found_creation : Option (Row S W E) → Bool
  found_creation None = false
  found_creation (Some r) = is_creation r.by

  module _ (number : S → ℕ) (state : S) where
    -- where there is no row of the number, none starts
    none_starts : (rows : List (Row S W E)) (row : ℕ) → row_of rows row ≡ None → starts number rows row state ≡ false
    none_starts [] row e = refl
    none_starts (r ∷ rows) row e = by_test (r.number == row) e (none_starts rows row) where
      by_test : (b : Bool) → cond b (Some r) (row_of rows row) ≡ None → (row_of rows row ≡ None → starts number rows row state ≡ false) → ((b && is_among number r.from state) || starts number rows row state) ≡ false
      by_test true f later = absurd (cc)
      by_test false f later = later f

    -- what starts, or is of an object that was just created, and finds what it wants
    pub starts_and_finds : (finds : W → Bool) (rows : List (Row S W E)) (row : ℕ) → NumberedApart rows
        → ((found_creation (row_of rows row) || starts number rows row state) && wants_found finds (row_of rows row)) ≡ may_fire number finds rows row state
    starts_and_finds finds [] row apart = refl
    starts_and_finds finds (r ∷ rows) row apart = by_test (r.number == row) refl (starts_and_finds finds rows row apart.1) where
      by_test : (b : Bool) → (r.number == row) ≡ b
          → ((found_creation (row_of rows row) || starts number rows row state) && wants_found finds (row_of rows row)) ≡ found_starts number finds state (row_of rows row)
          → ((found_creation (cond b (Some r) (row_of rows row)) || ((b && is_among number r.from state) || starts number rows row state)) && wants_found finds (cond b (Some r) (row_of rows row)))
          ≡ found_starts number finds state (cond b (Some r) (row_of rows row))
      by_test true t later =
          let same : r.number ≡ row = grind (arith, nat_tests) in
          let none = none_starts rows row (subst (λ (n : ℕ). row_of rows n ≡ None) same apart.0) in
          ap (λ (b : Bool). (is_creation r.by || b) && finds r.wants) (ap (λ (b : Bool). is_among number r.from state || b) none ∙ or_false (is_among number r.from state))
      by_test false t later = later

    -- the same in a table that creates nothing
    pub starts_found : (finds : W → Bool) (rows : List (Row S W E)) (row : ℕ) → NumberedApart rows → AllByRecursion (λ r. is_creation r.by ≡ false) rows
        → (starts number rows row state && wants_found finds (row_of rows row)) ≡ may_fire number finds rows row state
    starts_found finds rows row apart none =
        ap (λ (b : Bool). (b || starts number rows row state) && wants_found finds (row_of rows row)) (sym (looked_for (λ (o : Option (Row S W E)). found_creation o ≡ false) rows row refl none))
        ∙ starts_and_finds finds rows row apart

-- ---- at a port

module _ {S : Type 0} (number : S → ℕ) (rows : List (PortRow S)) (state : PortRecord → S) (put : S → PortRecord → PortRecord) where
  at_port : (f : Floor) (object row n : ℕ) (p : Port) (finds : Bool) → NumberedApart rows → AllByRecursion (λ r. is_creation r.by ≡ false) rows
      → port_numbered object f.ports ≡ Some p → n ≡ object → finds ≡ wants_found (λ want. port_wants want n p f.carriers) (row_of rows row)
      → (starts number rows row (state p.states) && finds) ≡ port_starts number rows state put row object f (port_numbered object f.ports)
  at_port f object row n p finds apart none here same e =
      ap (λ (b : Bool). starts number rows row (state p.states) && b) (e ∙ ap (λ (k : ℕ). wants_found (λ want. port_wants want k p f.carriers) (row_of rows row)) same)
      ∙ starts_found number (state p.states) (λ want. port_wants want object p f.carriers) rows row apart none
      ∙ ap (port_starts number rows state put row object f) (sym here)

-- a row of a table of ports starts where it does at the states of its port, and finds what it wants
pub port_so : (x : Firing) (f : Floor) (p : Port) (n : ℕ) (finds : Bool)
    → is_one_of (4 ∷ 5 ∷ 6 ∷ 7 ∷ []) x.row.table ≡ true → port_numbered x.object f.ports ≡ Some p → n ≡ x.object
    → (x.row.table ≡ 4 → finds ≡ wants_found (λ want. port_wants want n p f.carriers) (row_of transfer_table x.row.row))
    → (x.row.table ≡ 5 → finds ≡ wants_found (λ want. port_wants want n p f.carriers) (row_of access_table x.row.row))
    → (x.row.table ≡ 6 → finds ≡ wants_found (λ want. port_wants want n p f.carriers) (row_of reservation_table x.row.row))
    → (x.row.table ≡ 7 → finds ≡ wants_found (λ want. port_wants want n p f.carriers) (row_of association_table x.row.row))
    → (states_start x.row.table x.row.row p.states && finds) ≡ floor_starts x f
port_so x f p n finds among here same a b c d =
    one_of_cases
    (λ (t : ℕ).
    (t ≡ 4 → finds ≡ wants_found (λ want. port_wants want n p f.carriers) (row_of transfer_table x.row.row))
    → (t ≡ 5 → finds ≡ wants_found (λ want. port_wants want n p f.carriers) (row_of access_table x.row.row))
    → (t ≡ 6 → finds ≡ wants_found (λ want. port_wants want n p f.carriers) (row_of reservation_table x.row.row))
    → (t ≡ 7 → finds ≡ wants_found (λ want. port_wants want n p f.carriers) (row_of association_table x.row.row))
    → (states_start t x.row.row p.states && finds) ≡ floor_starts (firing t x.object x.row.row) f)
    (4 ∷ 5 ∷ 6 ∷ 7 ∷ []) x.row.table (
      (λ a b c d. at_port transfer_number transfer_table (λ s. s.transfer) (λ to s. record s { transfer = to }) f x.object x.row.row n p finds (refl, (refl, (refl, (refl, (refl, tt))))) (refl, (refl, (refl, (refl, (refl, tt))))) here same (a refl)),
      (
        (λ a b c d. at_port mode_number access_table (λ s. s.access) (λ to s. record s { access = to }) f x.object x.row.row n p finds (refl, (refl, tt)) (refl, (refl, tt)) here same (b refl)),
        (
          (λ a b c d. at_port reservation_number reservation_table (λ s. s.reservation) (λ to s. record s { reservation = to }) f x.object x.row.row n p finds (refl, (refl, (refl, tt))) (refl, (refl, (refl, tt))) here same (c refl)),
          (
            (λ a b c d. at_port association_number association_table (λ s. s.association) (λ to s. record s { association = to }) f x.object x.row.row n p finds (refl, (refl, (refl, (refl, (refl, (refl, (refl, tt))))))) (refl, (refl, (refl, (refl, (refl, (refl, (refl, tt))))))) here same (d refl)),
            tt,
          ),
        ),
      ),
    ) among a b c d

-- where the row starts at the states of the port
pub port_begins : (x : Firing) (f : Floor) (p : Port) (n : ℕ) (finds : Bool)
    → is_one_of (4 ∷ 5 ∷ 6 ∷ 7 ∷ []) x.row.table ≡ true → port_numbered x.object f.ports ≡ Some p → n ≡ x.object → states_start x.row.table x.row.row p.states ≡ true
    → (x.row.table ≡ 4 → finds ≡ wants_found (λ want. port_wants want n p f.carriers) (row_of transfer_table x.row.row))
    → (x.row.table ≡ 5 → finds ≡ wants_found (λ want. port_wants want n p f.carriers) (row_of access_table x.row.row))
    → (x.row.table ≡ 6 → finds ≡ wants_found (λ want. port_wants want n p f.carriers) (row_of reservation_table x.row.row))
    → (x.row.table ≡ 7 → finds ≡ wants_found (λ want. port_wants want n p f.carriers) (row_of association_table x.row.row))
    → finds ≡ floor_starts x f
port_begins x f p n finds among here same on a b c d = ap (λ (b : Bool). b && finds) (sym on) ∙ port_so x f p n finds among here same a b c d

-- where it doesn't
pub port_stays : (x : Firing) (f : Floor) (p : Port) → is_one_of (4 ∷ 5 ∷ 6 ∷ 7 ∷ []) x.row.table ≡ true → port_numbered x.object f.ports ≡ Some p
    → states_start x.row.table x.row.row p.states ≡ false → false ≡ floor_starts x f
port_stays x f p among here =
    one_of_cases (λ (t : ℕ). states_start t x.row.row p.states ≡ false → false ≡ floor_starts (firing t x.object x.row.row) f) (4 ∷ 5 ∷ 6 ∷ 7 ∷ []) x.row.table (
      (λ off. ap (λ (b : Bool). b && wants_found (λ want. port_wants want x.object p f.carriers) (row_of transfer_table x.row.row)) (sym off) ∙ at_port transfer_number transfer_table (λ s. s.transfer) (λ to s. record s { transfer = to }) f x.object x.row.row x.object p _ (refl, (refl, (refl, (refl, (refl, tt))))) (refl, (refl, (refl, (refl, (refl, tt))))) here refl refl),
      (
        (λ off. ap (λ (b : Bool). b && wants_found (λ want. port_wants want x.object p f.carriers) (row_of access_table x.row.row)) (sym off) ∙ at_port mode_number access_table (λ s. s.access) (λ to s. record s { access = to }) f x.object x.row.row x.object p _ (refl, (refl, tt)) (refl, (refl, tt)) here refl refl),
        (
          (λ off. ap (λ (b : Bool). b && wants_found (λ want. port_wants want x.object p f.carriers) (row_of reservation_table x.row.row)) (sym off) ∙ at_port reservation_number reservation_table (λ s. s.reservation) (λ to s. record s { reservation = to }) f x.object x.row.row x.object p _ (refl, (refl, (refl, tt))) (refl, (refl, (refl, tt))) here refl refl),
          (
            (λ off. ap (λ (b : Bool). b && wants_found (λ want. port_wants want x.object p f.carriers) (row_of association_table x.row.row)) (sym off) ∙ at_port association_number association_table (λ s. s.association) (λ to s. record s { association = to }) f x.object x.row.row x.object p _ (refl, (refl, (refl, (refl, (refl, (refl, (refl, tt))))))) (refl, (refl, (refl, (refl, (refl, (refl, (refl, tt))))))) here refl refl),
            tt,
          ),
        ),
      ),
    ) among

-- where there is no port
pub port_lacks : (x : Firing) (f : Floor) → is_one_of (4 ∷ 5 ∷ 6 ∷ 7 ∷ []) x.row.table ≡ true → port_numbered x.object f.ports ≡ None → false ≡ floor_starts x f
port_lacks x f among none =
    one_of_cases (λ (t : ℕ). false ≡ floor_starts (firing t x.object x.row.row) f) (4 ∷ 5 ∷ 6 ∷ 7 ∷ []) x.row.table (
      ap (port_starts transfer_number transfer_table (λ s. s.transfer) (λ to s. record s { transfer = to }) x.row.row x.object f) (sym none),
      (
        ap (port_starts mode_number access_table (λ s. s.access) (λ to s. record s { access = to }) x.row.row x.object f) (sym none),
        (
          ap (port_starts reservation_number reservation_table (λ s. s.reservation) (λ to s. record s { reservation = to }) x.row.row x.object f) (sym none),
          (ap (port_starts association_number association_table (λ s. s.association) (λ to s. record s { association = to }) x.row.row x.object f) (sym none), tt),
        ),
      ),
    ) among

-- ---- at a carrier

module _ {S : Type 0} (number : S → ℕ) (rows : List (CarrierRow S)) (state : CarrierRecord → S) (put : S → CarrierRecord → CarrierRecord) where
  at_carrier : (row : ℕ) (c : Carrier) (created finds : Bool) (o : Option Carrier) → NumberedApart rows → created ≡ found_creation (row_of rows row)
      → o ≡ Some c → finds ≡ wants_found (λ want. carrier_wants want c) (row_of rows row)
      → ((created || starts number rows row (state c.states)) && finds) ≡ carrier_starts number rows state put row o
  at_carrier row c created finds o apart creates here e =
      ap (λ (b : Bool). (b || starts number rows row (state c.states)) && finds) creates
      ∙ ap (λ (b : Bool). (found_creation (row_of rows row) || starts number rows row (state c.states)) && b) e
      ∙ starts_and_finds number (state c.states) (λ want. carrier_wants want c) rows row apart
      ∙ ap (carrier_starts number rows state put row) (sym here)

-- row 1 of table 8 is that of a carrier that was just created
creation_row : (row : ℕ) → (row == 1) ≡ found_creation (row_of id_table row)
creation_row row = of (row == 1) (1 == row) refl refl where
  first : CarrierRow IdState
  first = by_creation 1 word.nothing_more id.NotRead word.no_more

  of : (a b : Bool) → (row == 1) ≡ a → (1 == row) ≡ b → a ≡ found_creation (cond b (Some first) (row_of (drop 1 id_table) row))
  of true true e f = refl
  of false false e f = looked_for (λ (o : Option (CarrierRow IdState)). false ≡ found_creation o) (drop 1 id_table) row refl (refl, (refl, (refl, (refl, tt))))
  of true false e f = absurd (grind (arith, nat_tests))
  of false true e f = absurd (grind (arith, nat_tests))

-- tables 9 and 10 create nothing
map_creates : (row : ℕ) → false ≡ found_creation (row_of map_table row)
map_creates row = looked_for (λ (o : Option (CarrierRow MapState)). false ≡ found_creation o) map_table row refl (refl, (refl, (refl, (refl, tt))))

accessing_creates : (row : ℕ) → false ≡ found_creation (row_of accessing_table row)
accessing_creates row = looked_for (λ (o : Option (CarrierRow Accessing)). false ≡ found_creation o) accessing_table row refl (refl, (refl, (refl, (refl, tt))))

-- a row of a table of carriers starts where it does at the states of its carrier or creates it, and finds what it wants
pub carrier_so : (x : Firing) (f : Floor) (c : Carrier) (finds : Bool)
    → is_one_of (8 ∷ 9 ∷ 10 ∷ []) x.row.table ≡ true → carrier_numbered x.object f.carriers ≡ Some c
    → (x.row.table ≡ 8 → finds ≡ wants_found (λ want. carrier_wants want c) (row_of id_table x.row.row))
    → (x.row.table ≡ 9 → finds ≡ wants_found (λ want. carrier_wants want c) (row_of map_table x.row.row))
    → (x.row.table ≡ 10 → finds ≡ wants_found (λ want. carrier_wants want c) (row_of accessing_table x.row.row))
    → ((((x.row.table == 8) && (x.row.row == 1)) || states_begin x.row.table x.row.row c.states) && finds) ≡ floor_starts x f
carrier_so x f c finds among here a b d =
    one_of_cases
    (λ (t : ℕ).
    (t ≡ 8 → finds ≡ wants_found (λ want. carrier_wants want c) (row_of id_table x.row.row))
    → (t ≡ 9 → finds ≡ wants_found (λ want. carrier_wants want c) (row_of map_table x.row.row))
    → (t ≡ 10 → finds ≡ wants_found (λ want. carrier_wants want c) (row_of accessing_table x.row.row))
    → ((((t == 8) && (x.row.row == 1)) || states_begin t x.row.row c.states) && finds) ≡ floor_starts (firing t x.object x.row.row) f)
    (8 ∷ 9 ∷ 10 ∷ []) x.row.table (
      (λ a b d. at_carrier id_number id_table (λ s. s.id) (λ to s. record s { id = to }) x.row.row c (x.row.row == 1) finds (carrier_numbered x.object f.carriers) (refl, (refl, (refl, (refl, (refl, tt))))) (creation_row x.row.row) here (a refl)),
      (
        (λ a b d. at_carrier map_number map_table (λ s. s.map) (λ to s. record s { map = to }) x.row.row c false finds (carrier_numbered x.object f.carriers) (refl, (refl, (refl, (refl, tt)))) (map_creates x.row.row) here (b refl)),
        (
          (λ a b d. at_carrier access_number accessing_table (λ s. s.access) (λ to s. record s { access = to }) x.row.row c false finds (carrier_numbered x.object f.carriers) (refl, (refl, (refl, (refl, tt)))) (accessing_creates x.row.row) here (d refl)),
          tt,
        ),
      ),
    ) among a b d

-- a row of this table that starts at the states of its carrier, or creates it
abbrev pub starts_or_creates : ℕ → ℕ → CarrierRecord → Bool
starts_or_creates table row states = ((table == 8) && (row == 1)) || states_begin table row states

-- where it does
pub carrier_begins : (x : Firing) (f : Floor) (c : Carrier) (finds : Bool)
    → is_one_of (8 ∷ 9 ∷ 10 ∷ []) x.row.table ≡ true → carrier_numbered x.object f.carriers ≡ Some c → starts_or_creates x.row.table x.row.row c.states ≡ true
    → (x.row.table ≡ 8 → finds ≡ wants_found (λ want. carrier_wants want c) (row_of id_table x.row.row))
    → (x.row.table ≡ 9 → finds ≡ wants_found (λ want. carrier_wants want c) (row_of map_table x.row.row))
    → (x.row.table ≡ 10 → finds ≡ wants_found (λ want. carrier_wants want c) (row_of accessing_table x.row.row))
    → finds ≡ floor_starts x f
carrier_begins x f c finds among here on a b d = ap (λ (b : Bool). b && finds) (sym on) ∙ carrier_so x f c finds among here a b d

-- where it doesn't
pub carrier_stays : (x : Firing) (f : Floor) (c : Carrier) → is_one_of (8 ∷ 9 ∷ 10 ∷ []) x.row.table ≡ true → carrier_numbered x.object f.carriers ≡ Some c
    → starts_or_creates x.row.table x.row.row c.states ≡ false → false ≡ floor_starts x f
carrier_stays x f c among here =
    one_of_cases (λ (t : ℕ). starts_or_creates t x.row.row c.states ≡ false → false ≡ floor_starts (firing t x.object x.row.row) f) (8 ∷ 9 ∷ 10 ∷ []) x.row.table (
      (λ off. ap (λ (b : Bool). b && wants_found (λ want. carrier_wants want c) (row_of id_table x.row.row)) (sym off) ∙ at_carrier id_number id_table (λ s. s.id) (λ to s. record s { id = to }) x.row.row c (x.row.row == 1) _ (carrier_numbered x.object f.carriers) (refl, (refl, (refl, (refl, (refl, tt))))) (creation_row x.row.row) here refl),
      (
        (λ off. ap (λ (b : Bool). b && wants_found (λ want. carrier_wants want c) (row_of map_table x.row.row)) (sym off) ∙ at_carrier map_number map_table (λ s. s.map) (λ to s. record s { map = to }) x.row.row c false _ (carrier_numbered x.object f.carriers) (refl, (refl, (refl, (refl, tt)))) (map_creates x.row.row) here refl),
        (
          (λ off. ap (λ (b : Bool). b && wants_found (λ want. carrier_wants want c) (row_of accessing_table x.row.row)) (sym off) ∙ at_carrier access_number accessing_table (λ s. s.access) (λ to s. record s { access = to }) x.row.row c false _ (carrier_numbered x.object f.carriers) (refl, (refl, (refl, (refl, tt)))) (accessing_creates x.row.row) here refl),
          tt,
        ),
      ),
    ) among

-- where there is no carrier
pub carrier_lacks : (x : Firing) (f : Floor) → is_one_of (8 ∷ 9 ∷ 10 ∷ []) x.row.table ≡ true → carrier_numbered x.object f.carriers ≡ None → false ≡ floor_starts x f
carrier_lacks x f among none =
    one_of_cases (λ (t : ℕ). false ≡ floor_starts (firing t x.object x.row.row) f) (8 ∷ 9 ∷ 10 ∷ []) x.row.table (
      ap (carrier_starts id_number id_table (λ s. s.id) (λ to s. record s { id = to }) x.row.row) (sym none),
      (
        ap (carrier_starts map_number map_table (λ s. s.map) (λ to s. record s { map = to }) x.row.row) (sym none),
        (ap (carrier_starts access_number accessing_table (λ s. s.access) (λ to s. record s { access = to }) x.row.row) (sym none), tt),
      ),
    ) among
