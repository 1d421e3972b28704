use Rattle.secs_items.proofs.Fronts.{read_or_fault}
use Rattle.secs_items.proofs.laws.bytes_spell_or_have_a_fault.Goals as goal

pub returns : goal.returns
returns c = read_or_fault
