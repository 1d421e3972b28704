-- Which replies can be sent.
use Rattle.std.specs.Prelude.{ℕ, ◌<◌, ◌≤◌, ◌^◌, List, length, map}
use Rattle.std.specs.List.{All}
use Rattle.item_model.specs.Data.{DataList}
use Rattle.item_model.specs.Plain.{count_of}
use Rattle.item_model.specs.Sendable.{IsLength}
use Rattle.item_model.specs.Weight.{AreBounded}
use Rattle.message_model.specs.Functions.{AreFewFunctions}
use Rattle.message_model.specs.declared.gem_reply.GemReply.{GemReply}
use Rattle.message_model.specs.declared.gem_reply.GemReply.TheVariants as reply

-- characters that an A can have: each is ASCII, and three length bytes hold their number (SEMI E5, item formats)
abbrev pub AreCharacters : List ℕ → Type 0
AreCharacters text = IsLength (length text) × All (λ b. b < 128) text

-- at most so many items, the lists of each at most so deep, and each at most so many bytes long where it is sent
abbrev pub AreFew : (count deep most : ℕ) → DataList → Type 0
AreFew count deep most ds = (count_of ds ≤ count) × AreBounded deep most ds

-- Each part of the reply can be sent in the format that it is printed with (SEMI E5, item formats), and the parts
-- together are no longer than a frame may be. A text is one that can be sent by its type.
abbrev pub HasSendableParts : GemReply → Type 0
HasSendableParts (reply.S1F2 mdln softrev) = AreCharacters mdln × AreCharacters softrev
HasSendableParts (reply.S1F4 values) = AreFew 1024 1 84 values
HasSendableParts (reply.S1F12 names) = length names ≤ 1024
HasSendableParts (reply.S1F13 mdln softrev) = AreCharacters mdln × AreCharacters softrev
HasSendableParts (reply.S1F14 tool) = AreCharacters tool.mdln × AreCharacters tool.softrev
HasSendableParts reply.S1F16 = Unit {0}
HasSendableParts (reply.S1F18 onlack) = Unit {0}
HasSendableParts (reply.S2F14 values) = AreFew 1024 1 84 values
HasSendableParts (reply.S2F16 eac) = Unit {0}
HasSendableParts (reply.S2F18 time) = AreCharacters time
HasSendableParts (reply.S2F30 constants) = AreFew 1024 1 210 constants
HasSendableParts (reply.S2F32 tiack) = Unit {0}
HasSendableParts (reply.S2F34 drack) = Unit {0}
HasSendableParts (reply.S2F36 lrack) = Unit {0}
HasSendableParts (reply.S2F38 erack) = Unit {0}
HasSendableParts (reply.S2F42 hcack parameters) = length parameters < 2 ^ 24
HasSendableParts (reply.S2F44 rspack refusals) = AreFewFunctions (map (λ r. r.functions) refusals)
HasSendableParts (reply.S5F1 alcd alid text) = Unit {0}
HasSendableParts (reply.S5F4 ackc5) = Unit {0}
HasSendableParts (reply.S5F6 alarms) = length alarms ≤ 1024
HasSendableParts (reply.S5F8 alarms) = length alarms ≤ 1024
HasSendableParts (reply.S6F11 note ceid reports) = AreFew 16 3 5392 reports
HasSendableParts (reply.S6F16 ceid reports) = AreFew 16 3 5392 reports
HasSendableParts (reply.S6F20 values) = AreFew 1024 1 84 values
HasSendableParts (reply.S6F24 rsda) = Unit {0}
HasSendableParts (reply.S9F1 header) = IsLength (length header)
HasSendableParts (reply.S9F3 header) = IsLength (length header)
HasSendableParts (reply.S9F5 header) = IsLength (length header)
HasSendableParts (reply.S9F7 header) = IsLength (length header)
HasSendableParts (reply.S9F9 header) = IsLength (length header)
HasSendableParts (reply.S9F11 header) = IsLength (length header)
