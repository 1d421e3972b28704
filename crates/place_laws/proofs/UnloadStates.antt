-- A carrier that has finished goes on to have, and its slot map is read only where its id is VERIFIED: what the rows of tables 8 to 10 do.
use Rattle.std.proofs.Common.{◌≡◌, ℕ, ◌==◌, Bool, true, false, ◌&&◌, ◌||◌, [], ◌∷◌, Option, Some, refl, subst}
use Rattle.std.proofs.Math.Bool.{and-false}
use Rattle.std.proofs.lemmas.Bool.{or_left, or_right, and_parts}
use Rattle.gem_tables.specs.Table.{is_among, after}
use Rattle.carrier.specs.declared.carrier.Carrier.{Carrier}
use Rattle.carrier.specs.declared.record.CarrierRecord.{CarrierRecord}
use Rattle.carrier.specs.declared.record.IdState.{IdState}
use Rattle.carrier.specs.declared.record.IdState.TheVariants as id
use Rattle.carrier.specs.declared.record.MapState.{MapState}
use Rattle.carrier.specs.declared.record.MapState.TheVariants as slots
use Rattle.carrier.specs.declared.record.Accessing.{Accessing}
use Rattle.carrier.specs.declared.record.Accessing.TheVariants as access
use Rattle.carrier.specs.Tables.{id_number, id_table, map_number, map_table, access_number, accessing_table}
use Rattle.carrier.specs.Record.{carrier_fired, is_id_verified, is_id_failed, is_map_not_read, is_map_failed, is_done}
use Rattle.carrier.specs.Wants.{is_verified}
use Rattle.carrier.specs.Carriers.{carrier_numbered, is_usable, is_host_map, is_finished, fires_row}
use Rattle.shop_floor.specs.Floor.{Floor}
use Rattle.shop_floor.specs.Machines.{carrier_starts}
use Rattle.shop_floor.proofs.Cases.{starts_at_carrier}
use Rattle.place_laws.specs.Ports.{IsReadById}

-- ---- no row leaves these states

still_id : (row : ℕ) (s : IdState) → is_id_verified s ≡ true → is_id_verified (after id_number id_table row s) ≡ true
still_id row id.Verified e = rw (and-false (1 == row), and-false (2 == row), and-false (3 == row), and-false (4 == row), and-false (5 == row)) refl
still_id row _ e = absurd (cc)

failed_id : (row : ℕ) (s : IdState) → is_id_failed s ≡ true → is_id_failed (after id_number id_table row s) ≡ true
failed_id row id.VerificationFailed e = rw (and-false (1 == row), and-false (2 == row), and-false (3 == row), and-false (4 == row), and-false (5 == row)) refl
failed_id row _ e = absurd (cc)

failed_map : (row : ℕ) (s : MapState) → is_map_failed s ≡ true → is_map_failed (after map_number map_table row s) ≡ true
failed_map row slots.VerificationFailed e = rw (and-false (1 == row), and-false (2 == row), and-false (3 == row), and-false (4 == row)) refl
failed_map row _ e = absurd (cc)

still_done : (row : ℕ) (a : Accessing) → is_done a ≡ true → is_done (after access_number accessing_table row a) ≡ true
still_done row access.Complete e = rw (and-false (1 == row), and-false (2 == row), and-false (3 == row), and-false (4 == row)) refl
still_done row access.Stopped e = rw (and-false (1 == row), and-false (2 == row), and-false (3 == row), and-false (4 == row)) refl
still_done row _ e = absurd (cc)

-- ---- a carrier that has finished

-- one of two goes on to be so
either_on : (a b x y : Bool) → (a ≡ true → x ≡ true) → (b ≡ true → y ≡ true) → (a || b) ≡ true → (x || y) ≡ true
either_on true b x y f g e = or_left x y (f refl)
either_on false b x y f g e = or_right x y (g e)

-- and one of three
one_on : (a b c x y z : Bool) → (a ≡ true → x ≡ true) → (b ≡ true → y ≡ true) → (c ≡ true → z ≡ true) → (a || (b || c)) ≡ true → (x || (y || z)) ≡ true
one_on a b c x y z f g h e = either_on a (b || c) x (y || z) f (λ t. either_on b c y z g h t) e

-- the states of a carrier that has finished are so behind a row of this table
abbrev pub StaysFinished : ℕ → ℕ → Type 0
StaysFinished table row = (s : CarrierRecord) → is_finished s ≡ true → is_finished (carrier_fired table row s) ≡ true

pub id_finished : (row : ℕ) → StaysFinished 8 row
id_finished row s e = one_on (is_done s.access) (is_id_failed s.id) (is_map_failed s.map) (is_done s.access) (is_id_failed (after id_number id_table row s.id)) (is_map_failed s.map) (λ t. t) (λ t. failed_id row s.id t) (λ t. t) e

pub map_finished : (row : ℕ) → StaysFinished 9 row
map_finished row s e = one_on (is_done s.access) (is_id_failed s.id) (is_map_failed s.map) (is_done s.access) (is_id_failed s.id) (is_map_failed (after map_number map_table row s.map)) (λ t. t) (λ t. t) (λ t. failed_map row s.map t) e

pub access_finished : (row : ℕ) → StaysFinished 10 row
access_finished row s e = one_on (is_done s.access) (is_id_failed s.id) (is_map_failed s.map) (is_done (after access_number accessing_table row s.access)) (is_id_failed s.id) (is_map_failed s.map) (λ t. still_done row s.access t) (λ t. t) (λ t. t) e

-- ---- a slot map that is read

-- table 8 leaves an id that is VERIFIED
pub id_by_id : (row : ℕ) (c : Carrier) → IsReadById c → IsReadById (fires_row 8 row c)
id_by_id row c by_id read = still_id row c.states.id (by_id read)

-- a map that waits for the host was read
map_waits : (m : MapState) → is_among map_number (slots.WaitingForHost ∷ []) m ≡ true → is_map_not_read m ≡ false
map_waits slots.NotRead e = absurd (cc)
map_waits slots.WaitingForHost e = refl
map_waits slots.Verified e = refl
map_waits slots.VerificationFailed e = refl

-- rows 1 and 2 of table 9 want the id to be VERIFIED
map_rows : (c : Carrier) (row : ℕ) → carrier_starts map_number map_table (λ s. s.map) (λ to s. record s { map = to }) row (Some c) ≡ true → IsReadById c → IsReadById (fires_row 9 row c)
map_rows c row starts =
    starts_at_carrier map_number map_table (λ s. s.map) (λ to s. record s { map = to }) (λ (r : ℕ). IsReadById c → IsReadById (fires_row 9 r c)) c row (
      (λ among wants by_id read. (and_parts c.present (is_id_verified c.states.id) (and_parts (is_verified c) (is_usable c.map && is_host_map c.map c.host_map) wants).0).1),
      (
        (λ among wants by_id read. (and_parts c.present (is_id_verified c.states.id) wants).1),
        ((λ among wants by_id read. by_id (map_waits c.states.map among)), ((λ among wants by_id read. by_id (map_waits c.states.map among)), tt)),
      ),
    )
    starts

pub map_by_id : (f : Floor) (carrier row : ℕ) → carrier_starts map_number map_table (λ s. s.map) (λ to s. record s { map = to }) row (carrier_numbered carrier f.carriers) ≡ true
    → (c : Carrier) → carrier_numbered carrier f.carriers ≡ Some c → IsReadById c → IsReadById (fires_row 9 row c)
map_by_id f carrier row starts c is = map_rows c row (subst (λ (o : Option Carrier). carrier_starts map_number map_table (λ s. s.map) (λ to s. record s { map = to }) row o ≡ true) is starts)
