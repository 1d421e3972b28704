use Rattle.std.proofs.Common.{rules, append_assoc}
use Rattle.tool_texts.proofs.print.slot_text.Goals as goal

pub returns : goal.returns
returns c = simp append_assoc (search (rules, append_assoc))
