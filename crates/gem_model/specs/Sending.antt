-- What the tool sends, and how (SEMI E5, messages; this tool's profile, data messages and tool primaries).
use Rattle.std.specs.Prelude.{ℕ, ◌+◌, ◌%◌, Bool, true, false, if◌then◌else◌, List}
use Rattle.hsms_frame.specs.declared.frame.Header.{Header}
use Rattle.hsms_frame.specs.Spelling.{header_bytes, message_bytes}
use Rattle.item_model.specs.Plain.{plain}
use Rattle.message_model.specs.GemReplies.{B, identity}
use Rattle.tool_events.specs.declared.config.Config.{Config}
use Rattle.transactions.specs.declared.transaction.What.{What}
use Rattle.transactions.specs.Table.{is_full}
use Rattle.transactions.specs.SystemBytes.{drawn, after_draw, after_start}
use Rattle.gem_model.specs.State.{State, t3, with_frame}

-- the header of a data message of the tool: the device id as session id, the seven bits of the stream behind the W-bit,
-- which is set where a reply is wanted, and the function (SEMI E37, message header)
abbrev pub data_header : ℕ → Bool → ℕ → ℕ → ℕ → Header
data_header device wants stream function system =
    record { session = device; byte2 = (if wants then 128 else 0) + stream % 128; byte3 = function; ptype = 0; stype = 0; system = system }

-- a data message of the tool
abbrev pub data_frame : ℕ → Bool → ℕ → ℕ → ℕ → List ℕ → List ℕ
data_frame device wants stream function system text = message_bytes (data_header device wants stream function system) text

-- the text of S1F2 and S1F13: the model and the software revision (SEMI E5, S1F2 and S1F13)
abbrev pub identity_text : Config → List ℕ
identity_text c = plain (identity c.mdln c.softrev)

-- the text of a message of stream 9: the ten bytes of the header that it is about (SEMI E5, stream 9)
abbrev pub stream9_text : Header → List ℕ
stream9_text about = plain (B (header_bytes about))

-- a reply waits for the writer, under the system bytes of its primary
abbrev pub replies : ℕ → ℕ → ℕ → List ℕ → State → State
replies stream function system text g = with_frame (data_frame g.config.device false stream function system text) g

-- the next system bytes are drawn
abbrev pub draws : State → State
draws g = record g { transactions = after_draw g.transactions }

-- a message of stream 9 about a header waits for the writer, under system bytes that are drawn (SEMI E5, stream 9)
abbrev pub sends_stream9 : ℕ → Header → State → State
sends_stream9 function about g =
    with_frame (data_frame g.config.device false 9 function (drawn g.transactions) (stream9_text about)) (draws g)

-- A primary of the tool waits for the writer, with the W-bit, and its transaction is open until T3. Where no more can be
-- open nothing is sent, which no reachable state meets: law `laws::no_start_meets_a_full_table` (this tool's profile, tool
-- primaries).
abbrev pub asks : ℕ → ℕ → What → List ℕ → State → State
asks stream function what text g =
    if is_full g.transactions then g
    else with_frame (data_frame g.config.device true stream function (drawn g.transactions) text)
    (record g { transactions = after_start stream function (g.moment + t3 g) what g.transactions })
