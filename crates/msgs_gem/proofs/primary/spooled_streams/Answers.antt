use Rattle.msgs_gem.proofs.SpooledParts.{few_functions}
use Rattle.msgs_gem.proofs.primary.spooled_streams.Goals as goal

pub returns-clause-few : goal.returns-clause-few
returns-clause-few c short = few_functions _ c.in_ok-list_of.field-0 c.in_ok-list_of.ensures short
