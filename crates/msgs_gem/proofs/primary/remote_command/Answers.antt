use Rattle.message_model.specs.Bodies.{named_value}
use Rattle.msgs_gem.proofs.Parts.{few_parts, second_short}
use Rattle.msgs_gem.proofs.SpooledParts.{short_bodies}
use Rattle.msgs_gem.proofs.primary.remote_command.Goals as goal

pub returns-clause-few : goal.returns-clause-few
returns-clause-few c short =
    few_parts named_value _ c.in_ok-list_of.field-0 c.in_ok-list_of.ensures (second_short _ c.in_ok-command.field-0.now _ c.in_ok-command.ensures (short_bodies _ short))
