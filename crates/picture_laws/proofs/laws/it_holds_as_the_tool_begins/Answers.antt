use Rattle.picture_laws.proofs.Opening.{opening-keeps}
use Rattle.picture_laws.proofs.laws.it_holds_as_the_tool_begins.Goals as goal

pub returns : goal.returns
returns c = opening-keeps
