-- The functions of the messages that are read.
use Rattle.std.proofs.Common.{◌≡◌, ℕ, ◌<◌, ◌==◌, ◌&&◌, nat_lt, Bool, true, false, if◌then◌else◌, List, [], ◌∷◌, Option, Some, None, Ok, refl, subst}
use Rattle.std.specs.List.{find, list_all}
use Rattle.std.proofs.lemmas.Bool.{and_parts, eqb-true, ltb-true}
use Rattle.item_model.specs.Data.{Data}
use Rattle.message_model.specs.declared.gem_primary.GemMsg.{GemMsg}
use Rattle.message_model.specs.MessageTable.{MessageRow, row_of, has_stream, by_found}
use Rattle.message_model.specs.GemPrimaries.{primaries, reading}
use Rattle.message_model.specs.ShopPrimaries.{Message, primaries as shop_primaries, reading as shop_reading}

-- its function has one behind it
abbrev has_next : {M : Type 0} → MessageRow M → Bool
has_next r = nat_lt r.function 255

abbrev is_row : {M : Type 0} → ℕ → ℕ → MessageRow M → Bool
is_row stream function r = (r.stream == stream) && (r.function == function)

first_or_rest : {M : Type 0} (b : Bool) (stream function : ℕ) (first r : MessageRow M) (rows : List (MessageRow M)) → is_row stream function first ≡ b → has_next first ≡ true → (find (is_row stream function) rows ≡ Some r → function < 255) → (if b then Some first else find (is_row stream function) rows) ≡ Some r → function < 255
first_or_rest true stream function first r rows is next rest found =
    subst (λ n. n < 255) (eqb-true first.function function (and_parts (first.stream == stream) _ is).1) (ltb-true first.function 255 next)
first_or_rest false stream function first r rows is next rest found = rest found

row_next : {M : Type 0} (rows : List (MessageRow M)) (stream function : ℕ) (r : MessageRow M) → list_all has_next rows ≡ true → find (is_row stream function) rows ≡ Some r → function < 255
row_next [] stream function r all found = absurd (cc)
row_next (first ∷ rows) stream function r all found =
    let parts = and_parts (has_next first) (list_all has_next rows) all in
    first_or_rest (is_row stream function first) stream function first r rows refl parts.0 (row_next rows stream function r parts.1) found

found_next : {M : Type 0} (rows : List (MessageRow M)) (stream function : ℕ) (item : Option Data) (found : Option (MessageRow M)) (m : M) → list_all has_next rows ≡ true → row_of rows stream function ≡ found → by_found (has_stream rows stream) found item ≡ Ok m → function < 255
found_next rows stream function item None m all is read = absurd (cc)
found_next rows stream function item (Some r) m all is read = row_next rows stream function r all is

-- a message that is read has a function behind it
pub read_function : (stream function : ℕ) (item : Option Data) (m : GemMsg) → reading stream function item ≡ Ok m → function < 255
read_function stream function item m read = found_next primaries stream function item (row_of primaries stream function) m refl refl read

-- and so has one of carriers and ports
pub shop_function : (stream function : ℕ) (item : Option Data) (m : Message) → shop_reading stream function item ≡ Ok m → function < 255
shop_function stream function item m read = found_next shop_primaries stream function item (row_of shop_primaries stream function) m refl refl read
