use Rattle.floor_laws.proofs.FloorRows.{opening_sound}
use Rattle.floor_laws.proofs.laws.it_holds_as_the_tool_begins.Goals as goal

pub returns : goal.returns
returns c = opening_sound
