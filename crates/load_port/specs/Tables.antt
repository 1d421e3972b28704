-- The tables of a load port (after SEMI E87, load port states; this tool's profile, tables 4 to 7). What a row wants and does
-- besides the states of its port is told here by a word, and is said of ports and carriers together in shop_floor.
use Rattle.std.specs.Prelude.{ℕ, List, [], ◌∷◌}
use Rattle.gem_tables.specs.Table.{Row, by_input, by_itself}
use Rattle.load_port.specs.declared.record.Transfer.{Transfer}
use Rattle.load_port.specs.declared.record.Transfer.TheVariants.{OutOfService, TransferBlocked, ReadyToLoad, ReadyToUnload}
use Rattle.load_port.specs.declared.record.Access.{Access}
use Rattle.load_port.specs.declared.record.Access.TheVariants.{Manual, Auto}
use Rattle.load_port.specs.declared.record.Reservation.{Reservation}
use Rattle.load_port.specs.declared.record.Reservation.TheVariants.{NotReserved, Reserved}
use Rattle.load_port.specs.declared.record.Association.{Association}
use Rattle.load_port.specs.declared.record.Association.TheVariants.{NotAssociated, Associated}

-- what a row wants besides the states of its port
pub data PortWant : Type 0 where
  nothing_more : PortWant
  -- the carrier that is present is complete or stopped, or a verification of it failed
  carrier_finished : PortWant
  carrier_present : PortWant
  -- a carrier waits to be bound to the port
  carrier_directed : PortWant
  carrier_came : PortWant
  -- another came than that of the port
  other_came : PortWant
  -- that of the port came
  own_came : PortWant
  -- the port's carrier is present at another port
  own_elsewhere : PortWant

-- what a row does besides the state of its port
pub data PortEffect : Type 0 where
  no_more : PortEffect
  -- the carrier that waits belongs to the port, and is bound to it
  binds : PortEffect
  -- the port's carrier is forgotten
  forgets : PortEffect
  -- what came belongs to the port, and is present there
  arrives : PortEffect
  -- what came does, and the port's carrier is forgotten
  replaces : PortEffect
  -- no carrier belongs to the port
  frees : PortEffect

-- a row of a table of a port over these states
abbrev pub PortRow : Type 0 → Type 0
PortRow S = Row S PortWant PortEffect

-- ---- transfer
--
--   +----------------+   1 in    +---------------+   3 Placed   +------------------+
--   | OUT OF SERVICE | --------> | READY TO LOAD | -----------> | TRANSFER BLOCKED |
--   +----------------+ <-------- +---------------+              +------------------+
--                        2 out          ^                                 |
--                                       | 5 Removed                       | 4 by itself
--                                       |       +-----------------+       |
--                                       +------ | READY TO UNLOAD | <-----+
--                                               +-----------------+

-- the numbers of the states, as variables print them (after SEMI E87)
abbrev pub transfer_number : Transfer → ℕ
transfer_number OutOfService = 0
transfer_number TransferBlocked = 1
transfer_number ReadyToLoad = 2
transfer_number ReadyToUnload = 3

-- Table 4.
abbrev pub transfer_table : List (PortRow Transfer)
transfer_table =
    -- the operator puts the port in service
    by_input 1 (OutOfService ∷ []) nothing_more ReadyToLoad no_more
    -- and out of service
    ∷ by_input 2 (ReadyToLoad ∷ []) nothing_more OutOfService no_more
    -- a carrier is placed
    ∷ by_input 3 (ReadyToLoad ∷ []) nothing_more TransferBlocked no_more
    ∷ by_itself 4 (TransferBlocked ∷ []) carrier_finished ReadyToUnload no_more
    -- the carrier is removed
    ∷ by_input 5 (ReadyToUnload ∷ []) nothing_more ReadyToLoad no_more
    ∷ []

-- ---- access
--
--   +--------+   1 auto     +------+
--   | MANUAL | -----------> | AUTO |
--   +--------+ <----------- +------+
--                2 manual

abbrev pub access_number : Access → ℕ
access_number Manual = 0
access_number Auto = 1

-- Table 5. Its rows are fired by S3F27 and by the operator: in MANUAL the operator hands carriers over, and in AUTO the
-- transport of the factory does.
abbrev pub access_table : List (PortRow Access)
access_table =
    by_input 1 (Manual ∷ []) nothing_more Auto no_more
    ∷ by_input 2 (Auto ∷ []) nothing_more Manual no_more
    ∷ []

-- ---- reservation
--
--   +--------------+   1 Bind, ReserveAtPort      +----------+
--   | NOT RESERVED | ---------------------------> | RESERVED |
--   +--------------+ <--------------------------- +----------+
--                      2 CancelBind, CancelReservationAtPort
--                      3 by itself

abbrev pub reservation_number : Reservation → ℕ
reservation_number NotReserved = 0
-- a carrier is expected
reservation_number Reserved = 1

-- Table 6.
abbrev pub reservation_table : List (PortRow Reservation)
reservation_table =
    -- Bind, ReserveAtPort
    by_input 1 (NotReserved ∷ []) nothing_more Reserved no_more
    -- CancelBind, CancelReservationAtPort
    ∷ by_input 2 (Reserved ∷ []) nothing_more NotReserved no_more
    ∷ by_itself 3 (Reserved ∷ []) carrier_present NotReserved no_more
    ∷ []

-- ---- association
--
--                         1 Bind
--   +----------------+    3 a carrier came                +------------+ --+  4 another carrier came
--   | NOT ASSOCIATED | ---------------------------------> | ASSOCIATED |   |  5 the carrier came
--   +----------------+ <--------------------------------- +------------+ <-+
--                         2 CancelBind
--                         6 Removed
--                         7 its carrier is present at another port

abbrev pub association_number : Association → ℕ
association_number NotAssociated = 0
-- a carrier belongs to the port
association_number Associated = 1

-- Table 7.
abbrev pub association_table : List (PortRow Association)
association_table =
    -- Bind
    by_input 1 (NotAssociated ∷ []) carrier_directed Associated binds
    -- CancelBind
    ∷ by_input 2 (Associated ∷ []) nothing_more NotAssociated forgets
    ∷ by_itself 3 (NotAssociated ∷ []) carrier_came Associated arrives
    ∷ by_itself 4 (Associated ∷ []) other_came Associated replaces
    ∷ by_itself 5 (Associated ∷ []) own_came Associated arrives
    -- Removed
    ∷ by_input 6 (Associated ∷ []) nothing_more NotAssociated forgets
    ∷ by_itself 7 (Associated ∷ []) own_elsewhere NotAssociated frees
    ∷ []
