-- Which replies can be sent.
use Rattle.std.specs.Prelude.{◌≤◌, length}
use Rattle.message_model.specs.declared.shop_reply.ShopReply.{ShopReply}
use Rattle.message_model.specs.declared.shop_reply.ShopReply.TheVariants as reply

-- the lists of the reply have at most 1,024 parts each, of which every one can be sent by its type; the tool keeps at most
-- 64 process jobs (this tool's profile, limits)
abbrev pub HasSendableParts : ShopReply → Type 0
HasSendableParts (reply.S3F18 caack) = Unit {0}
HasSendableParts (reply.S3F26 caack) = Unit {0}
HasSendableParts (reply.S3F28 caack) = Unit {0}
HasSendableParts (reply.S14F10 id told) = length told.errors ≤ 1024
HasSendableParts (reply.S16F6 job told) = length told.errors ≤ 1024
HasSendableParts (reply.S16F12 job told) = length told.errors ≤ 1024
HasSendableParts (reply.S16F18 jobs told) = (length jobs ≤ 1024) × (length told.errors ≤ 1024)
HasSendableParts (reply.S16F20 jobs) = length jobs ≤ 1024
HasSendableParts (reply.S16F22 space) = Unit {0}
HasSendableParts (reply.S16F28 ok errors) = length errors ≤ 1024
