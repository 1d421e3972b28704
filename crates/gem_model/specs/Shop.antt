-- What the host asks of carriers and load ports: the actions of S3F17, S3F25 and S3F27, and their acknowledge codes (SEMI E87,
-- carrier action, port action and change access; this tool's profile, messages).
use Rattle.std.specs.Prelude.{ℕ, Bool, true, false, not, nat_le, if◌then◌else◌, List, [], ◌∷◌, codes, Option, None, is_some}
use Rattle.std.specs.Str.{bytes_eq}
use Rattle.gem_states.specs.declared.control.Control.{Control}
use Rattle.gem_states.specs.declared.control.Control.TheVariants as control
use Rattle.item_model.specs.Data.{Data}
use Rattle.message_model.specs.Bodies.{Form, meeting, of_count, all_of, small_id, ◌>>=◌}
use Rattle.load_port.specs.declared.action.PortAction.{PortAction}
use Rattle.load_port.specs.declared.caack.Caack.{Caack}
use Rattle.load_port.specs.declared.caack.Caack.TheVariants.{Unknown, NotNow}
use Rattle.load_port.specs.declared.action.PortAction.TheVariants as port
use Rattle.carrier.specs.declared.action.CarrierAction.{CarrierAction}
use Rattle.carrier.specs.declared.action.CarrierWord.{CarrierWord}
use Rattle.carrier.specs.declared.action.CarrierWord.TheVariants as word
use Rattle.carrier.specs.Verdict.{is_unknown}
use Rattle.shop_floor.specs.Requests.{port_code}
use Rattle.floor_model.specs.Jobs.{carrier_code}
use Rattle.gem_model.specs.State.{State}

-- ---- the actions

-- the action on a carrier of a name (SEMI E87, CARRIERACTION; this tool's profile, S3F17)
abbrev pub carrier_word : List ℕ → CarrierWord
carrier_word name =
    if bytes_eq name (codes "Bind") then word.Bind
    else (if bytes_eq name (codes "CancelBind") then word.CancelBind
    else (if bytes_eq name (codes "ProceedWithCarrier") then word.Proceed
    else (if bytes_eq name (codes "CancelCarrier") then word.Cancel
    else (if bytes_eq name (codes "CarrierNotification") then word.Notify
    else (if bytes_eq name (codes "CancelCarrierNotification") then word.CancelNotify else word.Unknown)))))

-- the action on a port of a name, at a port of this number (SEMI E87, PORTACTION; this tool's profile, S3F25)
abbrev pub port_word : List ℕ → ℕ → PortAction
port_word name number =
    if bytes_eq name (codes "ReserveAtPort") then port.Reserve number
    else (if bytes_eq name (codes "CancelReservationAtPort") then port.CancelReserve number else port.Unknown)

-- the code of a slot: u1, at most 5 (SEMI E87, slot map; this tool's profile, S3F17)
abbrev pub slot_code : Form ℕ
slot_code d = small_id d >>= meeting (λ code. nat_le code 5)

-- a slot map: L of the codes of 25 slots
abbrev pub slot_map : Form (List ℕ)
slot_map d = of_count 25 d >>= all_of slot_code

-- the map of the one attribute that there is, SlotMap
abbrev pub map_given : List (List ℕ × Data) → Option (List ℕ)
map_given [] = None
map_given (a ∷ []) = if bytes_eq a.0 (codes "SlotMap") then slot_map a.1 else None
map_given (a ∷ (b ∷ others)) = None

-- an attribute is faulty: another than SlotMap, one that is no slot map, or one that is given twice
abbrev pub are_faulty : List (List ℕ × Data) → Bool
are_faulty [] = false
are_faulty (a ∷ others) = not (is_some (map_given (a ∷ others)))

-- the action on a carrier that an S3F17 says
abbrev pub carrier_action : List ℕ → List ℕ → ℕ → List (List ℕ × Data) → CarrierAction
carrier_action action carrier number attributes =
    record { word = carrier_word action; id = carrier; port = number; map = map_given attributes; bad_attr = are_faulty attributes }

-- ---- the acknowledge codes

-- the operator commands: ON-LINE LOCAL (SEMI E30)
abbrev pub is_local : Control → Bool
is_local control.Local = true
is_local _ = false

-- the action on ports isn't known
abbrev pub is_unknown_action : PortAction → Bool
is_unknown_action port.Unknown = true
is_unknown_action _ = false

-- CAACK: an unknown action is told first, and in ON-LINE LOCAL all others are not done now (this tool's profile, messages)
abbrev pub carrier_caack : CarrierAction → State → Caack
carrier_caack a g = if is_unknown a.word then Unknown else (if is_local g.control then NotNow else carrier_code a g.floor)

abbrev pub port_caack : PortAction → State → Caack
port_caack a g = if is_unknown_action a then Unknown else (if is_local g.control then NotNow else port_code g.floor.shop a)
