-- What the code's record of what a message did stands for.
use Rattle.message_model.specs.GemSendable.{HasSendableParts}
use Rattle.message_model.specs.ShopSendable.{HasSendableParts as HasShopParts}
use Rattle.gem_model.specs.State.{State}
use Rattle.gem_model.specs.HostMessages as model
use Rattle.host_messages.specs.declared.done.HostReply.{HostReply}
use Rattle.host_messages.specs.declared.done.HostReply.TheVariants as code
use Rattle.host_messages.specs.declared.done.Done.{Done}

-- the reply of the definitions that a reply of the code stands for
abbrev pub reply_view : HostReply → model.HostReply
reply_view (code.Gem r) = model.GemTold r
reply_view (code.Shop r) = model.ShopTold r

-- its parts can be sent
abbrev pub CanBeSent : HostReply → Type 0
CanBeSent (code.Gem r) = HasSendableParts r
CanBeSent (code.Shop r) = HasShopParts r

-- what was done, with the plant behind it
abbrev pub done_view : Done → State → model.Done
done_view told after = record { reply = reply_view told.reply; after = after; rows = told.rows }
