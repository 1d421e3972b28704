-- What becomes of a data message of the host before it is done, by the state before it (SEMI E5, streams and functions; this
-- tool's profile, data messages).
use Rattle.std.specs.Prelude.{ℕ, ◌%◌, ◌==◌, Bool, true, false, not, ◌&&◌, ◌||◌, nat_le, if◌then◌else◌, List, [], ◌∷◌, Option, Some, None, unwrap_or, Result, Ok, Err}
use Rattle.gem_tables.specs.Table.{choose}
use Rattle.hsms_frame.specs.declared.frame.Header.{Header}
use Rattle.hsms_frame.specs.declared.frame.Arrival.{Arrival}
use Rattle.hsms_frame.specs.declared.frame.Arrival.TheVariants as arrival
use Rattle.item_model.specs.Data.{Data}
use Rattle.item_model.specs.One.{one_item}
use Rattle.message_model.specs.declared.fault.BodyFault.{BodyFault}
use Rattle.message_model.specs.declared.fault.BodyFault.TheVariants as fault
use Rattle.message_model.specs.declared.gem_primary.GemMsg.{GemMsg}
use Rattle.message_model.specs.GemPrimaries.{reading}
use Rattle.message_model.specs.ShopPrimaries.{Message, is_shop_stream}
use Rattle.message_model.specs.ShopPrimaries as shop
use Rattle.transactions.specs.declared.transaction.Open.{Open}
use Rattle.transactions.specs.declared.transaction.What.TheVariants as what
use Rattle.transactions.specs.Endings.{answered, same_kind}
use Rattle.gem_model.specs.State.{State, is_disabled, is_communicating, is_online}
use Rattle.gem_model.specs.HostMessages.{HostMessage, Gem, Shop}

-- ---- the arrival

-- the header of what arrived
abbrev pub header_of : Arrival → Header
header_of (arrival.Frame f) = f.header
header_of (arrival.TooLong header field) = header

-- its text is too long to be taken (this tool's profile, limits)
abbrev pub is_too_long : Arrival → Bool
is_too_long (arrival.Frame f) = false
is_too_long (arrival.TooLong header field) = true

-- its text as one item, where it is one (SEMI E5, message text)
abbrev pub item_of : Arrival → Option Data
item_of (arrival.Frame f) = one_item f.text
item_of (arrival.TooLong header field) = None

-- the W-bit, the highest of header byte 2, asks for a reply (SEMI E37, message header)
abbrev pub wants_reply : Header → Bool
wants_reply h = nat_le 128 h.byte2

-- the stream is the rest of header byte 2, and the function is header byte 3 (SEMI E37, message header)
abbrev pub stream_of : Header → ℕ
stream_of h = h.byte2 % 128

abbrev pub function_of : Header → ℕ
function_of h = h.byte3

-- it is this stream and function
abbrev pub is_message : ℕ → ℕ → Header → Bool
is_message stream function h = (stream_of h == stream) && (function_of h == function)

-- ---- the verdict

-- what a data message does: nothing; it is told by a message of stream 9 of this function; it is answered by function 0
-- of its stream; it answers a transaction of the tool, if that is open; or it is taken
pub data Verdict : Type 0 where
  Discarded : Verdict
  Stream9 : ℕ → Verdict
  Aborted : Verdict
  Answers : Verdict
  Taken : HostMessage → Verdict

-- the transaction is the tool's S1F13
abbrev pub is_establish : Option Open → Bool
is_establish None = false
is_establish (Some one) = same_kind one.what what.Establish

-- the message may establish communication: S1F13, or S1F14 or S1F0 that answers the tool's S1F13
abbrev pub may_establish : State → Header → Bool
may_establish g h = is_message 1 13 h || is_establish (answered h.system (stream_of h) (function_of h) g.transactions.opened)

-- an unknown stream is told by S9F3, an unknown function by S9F5, and a text that is no item of the body by S9F7
abbrev pub told_by : BodyFault → Verdict
told_by fault.UnknownStream = Stream9 3
told_by fault.UnknownFunction = Stream9 5
told_by fault.IllegalData = Stream9 7
told_by fault.NoMemory = Discarded

-- a message that is read is taken, and a fault of it is told
abbrev pub read_as : Result GemMsg BodyFault → Verdict
read_as (Ok m) = Taken (Gem m)
read_as (Err f) = told_by f

-- the same for a message of carriers and ports
abbrev pub shop_read_as : Result Message BodyFault → Verdict
shop_read_as (Ok m) = Taken (Shop m)
shop_read_as (Err f) = told_by f

-- a message of this stream and function, whose text is this item, is read by the table of its stream
abbrev pub read_message : ℕ → ℕ → Option Data → Verdict
read_message stream function item =
    if is_shop_stream stream then shop_read_as (shop.reading stream function item) else read_as (reading stream function item)

-- The rules that come before a message is read, of which the first that fits decides: communication is DISABLED; it is
-- not COMMUNICATING, and the message cannot establish it; another device, S9F1; too long a text, S9F11; a message of
-- stream 9; an even function; and while control is not ON-LINE all but S1F13 and S1F17 (SEMI E5, stream 9; SEMI E30,
-- communication and control; this tool's profile, data messages).
abbrev pub first_rules : State → Header → Bool → List (Bool × Verdict)
first_rules g h too_long =
    (is_disabled g.comm, Discarded)
    ∷ (not (is_communicating g.comm) && not (may_establish g h), Discarded)
    ∷ (not (h.session == g.config.device), Stream9 1)
    ∷ (too_long, Stream9 11)
    ∷ (stream_of h == 9, Discarded)
    ∷ (function_of h % 2 == 0, Answers)
    ∷ (not (is_online g.control) && not (is_message 1 13 h || is_message 1 17 h), Aborted)
    ∷ []

-- what a data message does, by the state before it
abbrev pub verdict : State → Arrival → Verdict
verdict g arrival =
    unwrap_or (choose (first_rules g (header_of arrival) (is_too_long arrival)))
    (read_message (stream_of (header_of arrival)) (function_of (header_of arrival)) (item_of arrival))
