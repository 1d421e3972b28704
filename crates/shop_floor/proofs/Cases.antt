-- What is true of each row of a table is true of the one that is ready, or starts, at a port or a carrier.
use Rattle.std.proofs.Common.{◌≡◌, ℕ, zero, suc, true, ◌||◌, List, Option, Some, None, slice_get, refl, sym, subst}
use Rattle.std.specs.List.{AllByRecursion}
use Rattle.std.proofs.lemmas.Bool.{true≢false, and_parts}
use Rattle.gem_tables.specs.Table.{is_itself, is_creation, is_among, row_of, found_starts}
use Rattle.gem_tables.proofs.Rows.{found_row, ready_row}
use Rattle.load_port.specs.declared.port.Port.{Port}
use Rattle.load_port.specs.declared.record.PortRecord.{PortRecord}
use Rattle.load_port.specs.Tables.{PortRow}
use Rattle.load_port.specs.Ports.{port_numbered}
use Rattle.carrier.specs.declared.carrier.Carrier.{Carrier}
use Rattle.carrier.specs.declared.record.CarrierRecord.{CarrierRecord}
use Rattle.carrier.specs.Tables.{CarrierRow}
use Rattle.carrier.specs.Wants.{carrier_wants}
use Rattle.carrier.specs.Carriers.{carrier_numbered}
use Rattle.shop_floor.specs.Floor.{Floor}
use Rattle.shop_floor.specs.Rows.{port_wants}
use Rattle.shop_floor.specs.Machines.{port_starts, port_ready, carrier_starts, carrier_ready}

module _ {S : Type 0} (number : S → ℕ) (rows : List (PortRow S)) (state : PortRecord → S) (put : S → PortRecord → PortRecord) where
  -- a row that is ready is so at a port that is there
  pub ready_at_port : (P : ℕ → ℕ → Type 0) (f : Floor) (port row : ℕ)
      → ((place : ℕ) (p : Port) → slice_get f.ports place ≡ Some p
      → AllByRecursion (λ (r : PortRow S). is_itself r.by ≡ true → is_among number r.from (state p.states) ≡ true → port_wants r.wants (suc place) p f.carriers ≡ true → P (suc place) r.number) rows)
      → port_ready number rows state put port f (port_numbered port f.ports) ≡ Some row → P port row
  ready_at_port P f zero row all e = absurd (cc)
  ready_at_port P f (suc place) row all e = by_port (slice_get f.ports place) refl e where
    by_port : (o : Option Port) → slice_get f.ports place ≡ o → port_ready number rows state put (suc place) f o ≡ Some row → P (suc place) row
    by_port None s r = absurd (cc)
    by_port (Some p) s r = ready_row (P (suc place)) number (λ want. port_wants want (suc place) p f.carriers) rows row (state p.states) (all place p s) r

  -- a row that starts does so at a port that is there
  pub starts_at_port : (P : ℕ → ℕ → Option (PortRow S) → Type 0) (f : Floor) (port row : ℕ)
      → ((place : ℕ) (p : Port) → slice_get f.ports place ≡ Some p
      → AllByRecursion (λ (r : PortRow S). (is_creation r.by || is_among number r.from (state p.states)) ≡ true → port_wants r.wants (suc place) p f.carriers ≡ true → P (suc place) r.number (Some r)) rows)
      → port_starts number rows state put row port f (port_numbered port f.ports) ≡ true → P port row (row_of rows row)
  starts_at_port P f zero row all e = absurd (true≢false (sym e))
  starts_at_port P f (suc place) row all e = by_port (slice_get f.ports place) refl e where
    by_row : (p : Port) → slice_get f.ports place ≡ Some p → (o : Option (PortRow S)) → row_of rows row ≡ o → found_starts number (λ want. port_wants want (suc place) p f.carriers) (state p.states) o ≡ true → P (suc place) row o
    by_row p s None q w = absurd (true≢false (sym w))
    by_row p s (Some r) q w =
        let parts = and_parts (is_creation r.by || is_among number r.from (state p.states)) (port_wants r.wants (suc place) p f.carriers) w in
        let here = found_row (λ (one : PortRow S). (is_creation one.by || is_among number one.from (state p.states)) ≡ true → port_wants one.wants (suc place) p f.carriers ≡ true → P (suc place) one.number (Some one)) rows row r (all place p s) q in
        subst (λ (n : ℕ). P (suc place) n (Some r)) here.1 (here.0 parts.0 parts.1)

    by_port : (o : Option Port) → slice_get f.ports place ≡ o → port_starts number rows state put row (suc place) f o ≡ true → P (suc place) row (row_of rows row)
    by_port None s w = absurd (true≢false (sym w))
    by_port (Some p) s w = by_row p s (row_of rows row) refl w

module _ {S : Type 0} (number : S → ℕ) (rows : List (CarrierRow S)) (state : CarrierRecord → S) (put : S → CarrierRecord → CarrierRecord) where
  -- a row that starts at a carrier
  pub starts_at_carrier : (P : ℕ → Type 0) (c : Carrier) (row : ℕ)
      → AllByRecursion (λ (r : CarrierRow S). (is_creation r.by || is_among number r.from (state c.states)) ≡ true → carrier_wants r.wants c ≡ true → P r.number) rows
      → carrier_starts number rows state put row (Some c) ≡ true → P row
  starts_at_carrier P c row all e = by_row (row_of rows row) refl e where
    by_row : (o : Option (CarrierRow S)) → row_of rows row ≡ o → found_starts number (λ want. carrier_wants want c) (state c.states) o ≡ true → P row
    by_row None q w = absurd (true≢false (sym w))
    by_row (Some r) q w =
        let parts = and_parts (is_creation r.by || is_among number r.from (state c.states)) (carrier_wants r.wants c) w in
        let here = found_row (λ (one : CarrierRow S). (is_creation one.by || is_among number one.from (state c.states)) ≡ true → carrier_wants one.wants c ≡ true → P one.number) rows row r all q in
        subst P here.1 (here.0 parts.0 parts.1)

  pub ready_at_carrier : (P : ℕ → Type 0) (f : Floor) (carrier row : ℕ)
      → ((c : Carrier) → carrier_numbered carrier f.carriers ≡ Some c
      → AllByRecursion (λ (r : CarrierRow S). is_itself r.by ≡ true → is_among number r.from (state c.states) ≡ true → carrier_wants r.wants c ≡ true → P r.number) rows)
      → carrier_ready number rows state put (carrier_numbered carrier f.carriers) ≡ Some row → P row
  ready_at_carrier P f carrier row all e = by_carrier (carrier_numbered carrier f.carriers) refl e where
    by_carrier : (o : Option Carrier) → carrier_numbered carrier f.carriers ≡ o → carrier_ready number rows state put o ≡ Some row → P row
    by_carrier None s r = absurd (cc)
    by_carrier (Some c) s r = ready_row P number (λ want. carrier_wants want c) rows row (state c.states) (all c s) r
