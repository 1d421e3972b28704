-- Only a carrier that is present is read: the rows that begin it want it to be present, and the others go on from there.
use Rattle.std.proofs.Common.{◌≡◌, ℕ, true, not, ◌&&◌, [], ◌∷◌, Some, refl, subst}
use Rattle.std.proofs.lemmas.Bool.{and_parts}
use Rattle.gem_tables.specs.Table.{is_among}
use Rattle.carrier.specs.declared.carrier.Carrier.{Carrier}
use Rattle.carrier.specs.declared.record.IdState.{IdState}
use Rattle.carrier.specs.declared.record.IdState.TheVariants as id
use Rattle.carrier.specs.declared.record.MapState.{MapState}
use Rattle.carrier.specs.declared.record.MapState.TheVariants as slots
use Rattle.carrier.specs.Tables.{id_number, id_table, map_number, map_table}
use Rattle.carrier.specs.Record.{is_id_not_read, is_map_not_read}
use Rattle.carrier.specs.Wants.{is_verified}
use Rattle.carrier.specs.Carriers.{carrier_numbered, is_usable, is_host_map, fires_row}
use Rattle.shop_floor.specs.Floor.{Floor}
use Rattle.shop_floor.specs.Machines.{carrier_starts}
use Rattle.shop_floor.specs.Valid.{ReadWherePresent}
use Rattle.shop_floor.proofs.Cases.{starts_at_carrier}

-- ---- what waits for the host was read

id_waits : (s : IdState) (m : MapState) → is_among id_number (id.WaitingForHost ∷ []) s ≡ true → not (is_id_not_read s && is_map_not_read m) ≡ true
id_waits id.NotRead m e = absurd (cc)
id_waits id.WaitingForHost m e = refl
id_waits id.Verified m e = refl
id_waits id.VerificationFailed m e = refl

map_waits : (s : IdState) (m : MapState) → is_among map_number (slots.WaitingForHost ∷ []) m ≡ true → not (is_id_not_read s && is_map_not_read m) ≡ true
map_waits id.NotRead slots.NotRead e = absurd (cc)
map_waits id.NotRead slots.WaitingForHost e = refl
map_waits id.NotRead slots.Verified e = refl
map_waits id.NotRead slots.VerificationFailed e = refl
map_waits id.WaitingForHost m e = refl
map_waits id.Verified m e = refl
map_waits id.VerificationFailed m e = refl

-- ---- the rows of a carrier

-- what a row is to keep
abbrev Reads : ℕ → Carrier → ℕ → Type 0
Reads table c row = ReadWherePresent c → ReadWherePresent (fires_row table row c)

-- table 8: rows 2 and 3 want the carrier to be present
id_rows : (c : Carrier) (row : ℕ) → carrier_starts id_number id_table (λ s. s.id) (λ to s. record s { id = to }) row (Some c) ≡ true → Reads 8 c row
id_rows c row starts =
    starts_at_carrier id_number id_table (λ s. s.id) (λ to s. record s { id = to }) (Reads 8 c) c row (
      (λ among wants r. r),
      (
        (λ among wants r was. (and_parts c.present (c.bound && c.is_read) wants).0),
        (
          (λ among wants r was. wants),
          ((λ among wants r was. r (id_waits c.states.id c.states.map among)), ((λ among wants r was. r (id_waits c.states.id c.states.map among)), tt)),
        ),
      ),
    )
    starts

-- table 9: rows 1 and 2 do
map_rows : (c : Carrier) (row : ℕ) → carrier_starts map_number map_table (λ s. s.map) (λ to s. record s { map = to }) row (Some c) ≡ true → Reads 9 c row
map_rows c row starts =
    starts_at_carrier map_number map_table (λ s. s.map) (λ to s. record s { map = to }) (Reads 9 c) c row (
      (λ among wants r was. (and_parts c.present _ (and_parts (is_verified c) (is_usable c.map && is_host_map c.map c.host_map) wants).0).0),
      (
        (λ among wants r was. (and_parts c.present _ wants).0),
        ((λ among wants r was. r (map_waits c.states.id c.states.map among)), ((λ among wants r was. r (map_waits c.states.id c.states.map among)), tt)),
      ),
    )
    starts

-- ---- at a carrier of the floor

pub reads_id : (f : Floor) (carrier row : ℕ) → carrier_starts id_number id_table (λ s. s.id) (λ to s. record s { id = to }) row (carrier_numbered carrier f.carriers) ≡ true → (c : Carrier) → carrier_numbered carrier f.carriers ≡ Some c → Reads 8 c row
reads_id f carrier row starts c is = id_rows c row (subst (λ o. carrier_starts id_number id_table (λ s. s.id) (λ to s. record s { id = to }) row o ≡ true) is starts)

pub reads_map : (f : Floor) (carrier row : ℕ) → carrier_starts map_number map_table (λ s. s.map) (λ to s. record s { map = to }) row (carrier_numbered carrier f.carriers) ≡ true → (c : Carrier) → carrier_numbered carrier f.carriers ≡ Some c → Reads 9 c row
reads_map f carrier row starts c is = map_rows c row (subst (λ o. carrier_starts map_number map_table (λ s. s.map) (λ to s. record s { map = to }) row o ≡ true) is starts)

-- table 10 reads nothing
pub reads_accessing : (f : Floor) (carrier row : ℕ) (c : Carrier) → carrier_numbered carrier f.carriers ≡ Some c → Reads 10 c row
reads_accessing f carrier row c is r = r
