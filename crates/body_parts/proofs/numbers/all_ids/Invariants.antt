use Rattle.std.proofs.Common.{◌≡◌, drop}
use Rattle.message_model.specs.Bodies.{all_ids}
use Rattle.body_parts.proofs.Parts.{behind}
use Rattle.body_parts.proofs.numbers.all_ids.Given as goal

-- what was read stands before what the rest gives
abbrev pub invariant-loop-number : goal.invariant-loop-number
invariant-loop-number g l =
    all_ids g.N.Number.id_from l.numbers ≡ behind l.ids (all_ids g.N.Number.id_from (drop l.number-index l.numbers))
