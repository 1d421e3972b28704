-- Messages of the host that are read, and what they are answered, of all streams (SEMI E5, messages).
use Rattle.std.specs.Prelude.{ℕ, List}
use Rattle.item_model.specs.Plain.{plain}
use Rattle.message_model.specs.declared.gem_primary.GemMsg.{GemMsg}
use Rattle.message_model.specs.declared.gem_reply.GemReply.{GemReply}
use Rattle.message_model.specs.GemReplies.{reply_body}
use Rattle.message_model.specs.ShopPrimaries.{Message}
use Rattle.message_model.specs.declared.shop_reply.ShopReply.{ShopReply}
use Rattle.message_model.specs.ShopReplies.{shop_reply_body}
use Rattle.gem_tables.specs.declared.firing.Firing.{Firing}
use Rattle.gem_model.specs.State.{State}

-- a primary of the host: of streams 1, 2, 5 and 6, or of carriers and ports
pub data HostMessage : Type 0 where
  Gem : GemMsg → HostMessage
  Shop : Message → HostMessage

-- a reply of the tool
pub data HostReply : Type 0 where
  GemTold : GemReply → HostReply
  ShopTold : ShopReply → HostReply

-- its text
abbrev pub reply_text : HostReply → List ℕ
reply_text (GemTold r) = plain (reply_body r)
reply_text (ShopTold r) = plain (shop_reply_body r)

-- what a message does: its reply, the state behind what it writes, and its direct rows
pub record Done : Type 0 where
  pub reply : HostReply
  pub after : State
  pub rows : List Firing
