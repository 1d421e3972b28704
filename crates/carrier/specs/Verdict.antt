-- What the host is answered of carriers (SEMI E87, S3F17; this tool's profile, S3F17).
use Rattle.std.specs.Prelude.{ℕ, zero, suc, ◌==◌, Bool, true, false, not, ◌&&◌, ◌||◌, nat_lt, nat_le, if◌then◌else◌, List, length, Option, Some, None, is_some, slice_get}
use Rattle.load_port.specs.declared.caack.Caack.{Caack}
use Rattle.load_port.specs.declared.caack.Caack.TheVariants as caack
use Rattle.load_port.specs.declared.action.PortView.{PortView}
use Rattle.carrier.specs.Record.{is_id_waiting, is_map_waiting, is_map_verified, is_not_accessed}
use Rattle.carrier.specs.Carriers.{carrier_named, is_port, is_usable, absent_count, most_absent}
use Rattle.carrier.specs.declared.carrier.Carrier.{Carrier}
use Rattle.carrier.specs.declared.action.CarrierAction.{CarrierAction}
use Rattle.carrier.specs.declared.action.CarrierWord.{CarrierWord}
use Rattle.carrier.specs.declared.action.CarrierWord.TheVariants as word

-- the name of a carrier has 1 to 64 bytes (this tool's profile, names)
abbrev pub is_carrier_name : List ℕ → Bool
is_carrier_name name = nat_le 1 (length name) && nat_le (length name) 64

-- the port of a number, counted from 1
abbrev pub view_numbered : ℕ → List PortView → Option PortView
view_numbered zero ports = None
view_numbered (suc n) ports = slice_get ports n

-- one more carrier can be known that isn't present: fewer than 12 are
abbrev pub has_room : List Carrier → Bool
has_room carriers = nat_lt (absent_count carriers) most_absent

-- the carrier of a Bind: one that is present or bound can't be bound, and a new one wants room
abbrev pub bind_carrier_code : Option Carrier → List Carrier → Caack
bind_carrier_code None carriers = if has_room carriers then caack.Done else caack.NotNow
bind_carrier_code (Some c) carriers = if c.present || c.bound then caack.Impossible else caack.Done

-- Bind: the port is there, in service, and has no carrier
abbrev pub bind_code : Option Carrier → List Carrier → Option PortView → Caack
bind_code known carriers None = caack.Faulty
bind_code known carriers (Some p) =
    if not p.in_service then caack.NotNow else (if is_some p.carrier || p.present then caack.Impossible else bind_carrier_code known carriers)

-- CancelBind: of a carrier that is bound and not present, with its own port or 0
abbrev pub cancel_bind_code : Option Carrier → ℕ → Caack
cancel_bind_code None port = caack.Faulty
cancel_bind_code (Some c) port =
    if not c.bound || c.present then caack.Impossible else (if (port == 0) || is_port port c.port then caack.Done else caack.Faulty)

-- ProceedWithCarrier: of a carrier whose id, or whose usable map, waits for the host
abbrev pub proceed_code : Option Carrier → Caack
proceed_code None = caack.Faulty
proceed_code (Some c) =
    if is_id_waiting c.states.id then caack.Done
    else (if is_map_waiting c.states.map then (if is_usable c.map then caack.Done else caack.Faulty) else caack.Impossible)

-- the carrier can be stopped: its map is VERIFIED, it is NOT ACCESSED, and no process job names it
abbrev pub can_be_stopped : Carrier → Bool → Bool
can_be_stopped c job_names_it = is_map_verified c.states.map && (is_not_accessed c.states.access && not job_names_it)

-- CancelCarrier: of a carrier whose id or map waits for the host, or that can be stopped
abbrev pub cancel_code : Option Carrier → Bool → Caack
cancel_code None job_names_it = caack.Faulty
cancel_code (Some c) job_names_it =
    if is_id_waiting c.states.id || (is_map_waiting c.states.map || can_be_stopped c job_names_it) then caack.Done else caack.Impossible

-- CarrierNotification: of a carrier that isn't known
abbrev pub notify_code : Option Carrier → List Carrier → Caack
notify_code None carriers = if has_room carriers then caack.Done else caack.NotNow
notify_code (Some c) carriers = caack.Impossible

-- CancelCarrierNotification: of one that is neither present nor bound
abbrev pub cancel_notify_code : Option Carrier → Caack
cancel_notify_code None = caack.Faulty
cancel_notify_code (Some c) = if c.present || c.bound then caack.Impossible else caack.Done

-- what an action is answered whose parameters are well formed
abbrev pub word_code : List Carrier → List PortView → CarrierAction → Bool → Caack
word_code carriers ports a job_names_it = of a.word
  where
    of : CarrierWord → Caack
    of word.Bind = bind_code (carrier_named a.id carriers) carriers (view_numbered a.port ports)
    of word.CancelBind = cancel_bind_code (carrier_named a.id carriers) a.port
    of word.Proceed = proceed_code (carrier_named a.id carriers)
    of word.Cancel = cancel_code (carrier_named a.id carriers) job_names_it
    of word.Notify = notify_code (carrier_named a.id carriers) carriers
    of word.CancelNotify = cancel_notify_code (carrier_named a.id carriers)
    of word.Unknown = caack.Unknown

abbrev pub is_unknown : CarrierWord → Bool
is_unknown word.Unknown = true
is_unknown _ = false

-- what is answered of an action on a carrier, by the states before it. An unknown action is told first, then a faulty attribute, a name
-- that is none of a carrier, and a port that isn't there (this tool's profile, S3F17)
abbrev pub carrier_caack : List Carrier → List PortView → CarrierAction → Bool → Caack
carrier_caack carriers ports a job_names_it =
    if is_unknown a.word then caack.Unknown
    else (if a.bad_attr || (not (is_carrier_name a.id) || nat_lt (length ports) a.port) then caack.Faulty else word_code carriers ports a job_names_it)
