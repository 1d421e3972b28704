-- The host of a batch: what it asks first, which messages of the tool it answers, and how (this tool's profile, batch).
use Rattle.std.specs.Prelude.{ℕ, ◌+◌, ◌==◌, nat_le, Bool, true, ◌&&◌, if◌then◌else◌, List, [], ◌∷◌, length, drop, Option, Some, None}
use Rattle.item_model.specs.Data.{boolean}
use Rattle.item_model.specs.Plain.{plain}
use Rattle.message_model.specs.Printed.{B, L}
use Rattle.hsms_frame.specs.Cut.{header_at}
use Rattle.hsms_frame.specs.declared.frame.Header.{Header}
use Rattle.hsms_frame.specs.declared.frame.Frame.{Frame}
use Rattle.sim_modules.specs.Lot.{asked_header}
use Rattle.batch_model.specs.declared.primary.Primary.{Primary}
use Rattle.batch_model.specs.declared.primary.Primary.TheVariants as primary

-- ---- what it asks first

-- the select request, under system bytes 1 (SEMI E37, select)
abbrev pub select_request : Frame
select_request = record { header = record { session = 65535; byte2 = 0; byte3 = 0; ptype = 0; stype = 1; system = 1 }; text = [] }

-- all events are enabled: S2F37 L[BOOL true, L[]] of a device, under system bytes 2 (SEMI E5, S2F37)
abbrev pub enable_request : ℕ → Frame
enable_request device = record { header = asked_header device 2 37 2; text = plain (L (boolean (true ∷ []) ∷ (L [] ∷ []))) }

-- ---- what it answers

-- the header is that of this data message, with the W-bit (SEMI E37, message header)
abbrev pub is_asked : ℕ → ℕ → Header → Bool
is_asked stream function h = (h.ptype == 0) && ((h.stype == 0) && ((h.byte2 == 128 + stream) && (h.byte3 == function)))

-- the message of a header, where it is S1F13 or S6F11 (this tool's profile, batch)
abbrev pub primary_of : Header → Option Primary
primary_of h =
    if is_asked 1 13 h then Some (primary.EstablishRequest h.system)
    else if is_asked 6 11 h then Some (primary.EventReport h.system) else None

-- that of a frame that was taken, whose header stands behind its length (SEMI E37, message format)
abbrev pub primary_in : List ℕ → Option Primary
primary_in frame = if nat_le 14 (length frame) then primary_of (header_at (drop 4 frame)) else None

-- the header of an answer: no W-bit, and the system bytes of what is answered (SEMI E37, message header)
abbrev pub answer_header : ℕ → ℕ → ℕ → ℕ → Header
answer_header device stream function system =
    record { session = device; byte2 = stream; byte3 = function; ptype = 0; stype = 0; system = system }

-- the answer of a host of this device: S1F14 L[B 0, L[]] accepts communication, and S6F12 B 0 takes an event report (SEMI E5)
abbrev pub answer_to : ℕ → Primary → Frame
answer_to device (primary.EstablishRequest system) = record { header = answer_header device 1 14 system; text = plain (L (B (0 ∷ []) ∷ (L [] ∷ []))) }
answer_to device (primary.EventReport system) = record { header = answer_header device 6 12 system; text = plain (B (0 ∷ [])) }
