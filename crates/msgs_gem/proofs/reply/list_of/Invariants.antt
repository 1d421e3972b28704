use Rattle.std.proofs.Common.{◌≡◌, map, take}
use Rattle.item_model.specs.Weight.{AreBounded}
use Rattle.message_model.specs.Printed.{items}
use Rattle.msgs_gem.proofs.reply.list_of.Given as goal

-- the items are those of the parts so far, each within its bounds
abbrev pub invariant-loop-part : goal.invariant-loop-part
invariant-loop-part g l =
    (l.items ≡ items (map g.T.Printed.body (take l.part-index l.parts))) × AreBounded 1 110 l.items
