-- The tables of a carrier (after SEMI E87, carrier states; this tool's profile, tables 8 to 10). What a row wants besides the
-- state of its carrier is told here by a word, and is said of the carrier in Wants.antt.
use Rattle.std.specs.Prelude.{ℕ, List, [], ◌∷◌}
use Rattle.gem_tables.specs.Table.{Row, by_input, by_itself, by_creation}
use Rattle.carrier.specs.declared.record.IdState.{IdState}
use Rattle.carrier.specs.declared.record.IdState.TheVariants as id
use Rattle.carrier.specs.declared.record.MapState.{MapState}
use Rattle.carrier.specs.declared.record.MapState.TheVariants as slots
use Rattle.carrier.specs.declared.record.Accessing.{Accessing}
use Rattle.carrier.specs.declared.record.Accessing.TheVariants as access

-- what a row wants besides the state of its carrier
pub data CarrierWant : Type 0 where
  nothing_more : CarrierWant
  -- the carrier is present
  present : CarrierWant
  -- it is present and bound to its port, and its id was read
  bound_and_read : CarrierWant
  -- it is present, and its id is VERIFIED
  id_verified : CarrierWant
  -- besides, its map is usable, and the one that the host gave
  map_of_the_host : CarrierWant
  -- a substrate of it is outside its slot
  substrate_outside : CarrierWant
  -- no process job names it, and each of its substrates is in its slot or removed; it is not marked stopped, or it is
  quiet : CarrierWant
  quiet_and_stopped : CarrierWant

-- what a row does besides the state of its carrier
pub data CarrierEffect : Type 0 where
  no_more : CarrierEffect

-- a row of a table of a carrier over these states
abbrev pub CarrierRow : Type 0 → Type 0
CarrierRow S = Row S CarrierWant CarrierEffect

-- ---- carrier id
--
--    1 created   +-------------+    3 by itself    +------------------+
--   -----------> | ID NOT READ | ----------------> | WAITING FOR HOST |
--                +-------------+                   +------------------+
--                       |                            |             |
--                       | 2 by itself                | 4 Proceed-  | 5 CancelCarrier
--                       v                            v WithCarrier v
--                +-------------+ <-------------------+    +------------------------+
--                | ID VERIFIED |                          | ID VERIFICATION FAILED |
--                +-------------+                          +------------------------+

-- the numbers of the states, as the tables print them (after SEMI E87)
abbrev pub id_number : IdState → ℕ
id_number id.NotRead = 0
id_number id.WaitingForHost = 1
id_number id.Verified = 2
id_number id.VerificationFailed = 3

-- Table 8.
abbrev pub id_table : List (CarrierRow IdState)
id_table =
    by_creation 1 nothing_more id.NotRead no_more
    ∷ by_itself 2 (id.NotRead ∷ []) bound_and_read id.Verified no_more
    -- otherwise
    ∷ by_itself 3 (id.NotRead ∷ []) present id.WaitingForHost no_more
    -- ProceedWithCarrier
    ∷ by_input 4 (id.WaitingForHost ∷ []) nothing_more id.Verified no_more
    -- CancelCarrier
    ∷ by_input 5 (id.WaitingForHost ∷ []) nothing_more id.VerificationFailed no_more
    ∷ []

-- ---- slot map
--
--   +----------+    2 by itself    +------------------+
--   | NOT READ | ----------------> | WAITING FOR HOST |
--   +----------+                   +------------------+
--        |                           |             |
--        | 1 by itself               | 3 Proceed-  | 4 CancelCarrier
--        v                           v WithCarrier v
--   +----------+ <-------------------+      +---------------------+
--   | VERIFIED |                            | VERIFICATION FAILED |
--   +----------+                            +---------------------+

abbrev pub map_number : MapState → ℕ
map_number slots.NotRead = 0
map_number slots.WaitingForHost = 1
map_number slots.Verified = 2
map_number slots.VerificationFailed = 3

-- Table 9.
abbrev pub map_table : List (CarrierRow MapState)
map_table =
    by_itself 1 (slots.NotRead ∷ []) map_of_the_host slots.Verified no_more
    -- otherwise
    ∷ by_itself 2 (slots.NotRead ∷ []) id_verified slots.WaitingForHost no_more
    -- ProceedWithCarrier
    ∷ by_input 3 (slots.WaitingForHost ∷ []) nothing_more slots.Verified no_more
    -- CancelCarrier
    ∷ by_input 4 (slots.WaitingForHost ∷ []) nothing_more slots.VerificationFailed no_more
    ∷ []

-- ---- accessing
--
--   +--------------+    1 by itself    +-----------+    2 by itself    +------------------+
--   | NOT ACCESSED | ----------------> | IN ACCESS | ----------------> | CARRIER COMPLETE |
--   +--------------+                   +-----------+                   +------------------+
--          |                                 |
--          | 4 CancelCarrier                 | 3 by itself
--          |        +-----------------+      |
--          +------> | CARRIER STOPPED | <----+
--                   +-----------------+

abbrev pub access_number : Accessing → ℕ
access_number access.NotAccessed = 0
access_number access.InAccess = 1
access_number access.Complete = 2
access_number access.Stopped = 3

-- Table 10. What rows 1 to 3 want is so of substrates and process jobs; a carrier alone doesn't tell it.
abbrev pub accessing_table : List (CarrierRow Accessing)
accessing_table =
    by_itself 1 (access.NotAccessed ∷ []) substrate_outside access.InAccess no_more
    ∷ by_itself 2 (access.InAccess ∷ []) quiet access.Complete no_more
    ∷ by_itself 3 (access.InAccess ∷ []) quiet_and_stopped access.Stopped no_more
    -- CancelCarrier
    ∷ by_input 4 (access.NotAccessed ∷ []) nothing_more access.Stopped no_more
    ∷ []
