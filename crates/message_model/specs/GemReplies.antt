-- The bodies of the tool's replies and of its own primaries, as they are printed (SEMI E5; this tool's profile, messages).
use Rattle.std.specs.Prelude.{ℕ, List, [], ◌∷◌, Option, Some, None}
use Rattle.item_model.specs.Data.{Data, DataList, list}
pub use Rattle.message_model.specs.Printed.{items, L, each, A, B, U1, U4, U8, code}
use Rattle.message_model.specs.declared.gem_reply.AlarmPart.{AlarmPart}
use Rattle.message_model.specs.declared.gem_reply.GemReply.{GemReply}
use Rattle.message_model.specs.declared.gem_reply.GemReply.TheVariants as reply
use Rattle.message_model.specs.declared.gem_reply.ParameterAcknowledge.{ParameterAcknowledge}
use Rattle.message_model.specs.declared.gem_reply.StreamRefusal.{StreamRefusal}
use Rattle.message_model.specs.declared.gem_reply.VariableName.{VariableName}

-- what the tool tells of itself: L[A mdln, A softrev]
abbrev pub identity : List ℕ → List ℕ → Data
identity mdln softrev = L (A mdln ∷ (A softrev ∷ []))

-- a variable's name: L[U4 svid, A name, A ""]
abbrev pub variable_name : VariableName → Data
variable_name v = L (U4 v.svid ∷ (A v.name ∷ (A [] ∷ [])))

-- a parameter that is refused: L[A name, code CPACK]
abbrev pub parameter_acknowledge : ParameterAcknowledge → Data
parameter_acknowledge p = L (A p.name ∷ (code p.cpack ∷ []))

-- a stream that is refused: L[U1 stream, code STRACK, L[U1 function*]]
abbrev pub stream_refusal : StreamRefusal → Data
stream_refusal r = L (U1 r.stream ∷ (code r.strack ∷ (each U1 r.functions ∷ [])))

-- what the host's choice of streams is answered: L[code RSPACK, L[stream_refusal*]]
abbrev pub spooling : ℕ → List StreamRefusal → Data
spooling rspack refusals = L (code rspack ∷ (each stream_refusal refusals ∷ []))

-- ALCD: B of one byte, and without elements where the alarm is unknown
abbrev pub alarm_code : Option ℕ → Data
alarm_code (Some alcd) = code alcd
alarm_code None = B []

-- an alarm: L[B alcd, U4 alid, A text]
abbrev pub alarm : Option ℕ → ℕ → List ℕ → Data
alarm alcd alid text = L (alarm_code alcd ∷ (U4 alid ∷ (A text ∷ [])))

-- the same of an alarm in a list
abbrev pub alarm_part : AlarmPart → Data
alarm_part a = alarm a.alcd a.alid a.text

-- an event and its reports, each L[U4 rptid, L[value*]]: L[U8 note, U4 ceid, L[report*]]
abbrev pub event : ℕ → ℕ → DataList → Data
event note ceid reports = L (U8 note ∷ (U4 ceid ∷ (list reports ∷ [])))

-- the body of each reply (SEMI E5, streams 1, 2, 5, 6 and 9; this tool's profile, messages)
abbrev pub reply_body : GemReply → Data
reply_body (reply.S1F2 mdln softrev) = identity mdln softrev
reply_body (reply.S1F4 values) = list values
reply_body (reply.S1F12 names) = each variable_name names
reply_body (reply.S1F13 mdln softrev) = identity mdln softrev
reply_body (reply.S1F14 tool) = L (code 0 ∷ (identity tool.mdln tool.softrev ∷ []))
reply_body reply.S1F16 = code 0
reply_body (reply.S1F18 onlack) = code onlack
reply_body (reply.S2F14 values) = list values
reply_body (reply.S2F16 eac) = code eac
reply_body (reply.S2F18 time) = A time
reply_body (reply.S2F30 constants) = list constants
reply_body (reply.S2F32 tiack) = code tiack
reply_body (reply.S2F34 drack) = code drack
reply_body (reply.S2F36 lrack) = code lrack
reply_body (reply.S2F38 erack) = code erack
reply_body (reply.S2F42 hcack parameters) = L (code hcack ∷ (each parameter_acknowledge parameters ∷ []))
reply_body (reply.S2F44 rspack refusals) = spooling rspack refusals
reply_body (reply.S5F1 alcd alid text) = alarm (Some alcd) alid text
reply_body (reply.S5F4 ackc5) = code ackc5
reply_body (reply.S5F6 alarms) = each alarm_part alarms
reply_body (reply.S5F8 alarms) = each alarm_part alarms
reply_body (reply.S6F11 note ceid reports) = event note ceid reports
reply_body (reply.S6F16 ceid reports) = event 0 ceid reports
reply_body (reply.S6F20 values) = list values
reply_body (reply.S6F24 rsda) = code rsda
reply_body (reply.S9F1 header) = B header
reply_body (reply.S9F3 header) = B header
reply_body (reply.S9F5 header) = B header
reply_body (reply.S9F7 header) = B header
reply_body (reply.S9F9 header) = B header
reply_body (reply.S9F11 header) = B header
