use Rattle.std.proofs.Common.{refl}
use Rattle.gem_rows.specs.Events.{event_lines}
use Rattle.gem_rows.proofs.EventRows.{among_lines}
use Rattle.gem_rows.proofs.laws.the_list_has_each_ceid_once.Goals as goal

pub returns-clause-each : goal.returns-clause-each
returns-clause-each c number = among_lines event_lines number refl
