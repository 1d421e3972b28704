use Rattle.secs_items.proofs.Fronts.{fault_open}
use Rattle.secs_items.proofs.laws.a_fault_stands_behind_open_bytes.Goals as goal

pub returns : goal.returns
returns c = fault_open
