use Rattle.std.proofs.Common.{◌≡◌, drop}
use Rattle.item_model.specs.View.{items_of}
use Rattle.message_model.specs.Bodies.{all_of}
use Rattle.body_parts.proofs.Parts.{behind}
use Rattle.body_parts.proofs.reading.list_of.Given as goal

-- what was read stands before what the rest gives
abbrev pub invariant-loop-part : goal.invariant-loop-part
invariant-loop-part g l =
    all_of g.T.Part.form (items_of l.part-items) ≡ behind l.parts (all_of g.T.Part.form (items_of (drop l.part-index l.part-items)))
