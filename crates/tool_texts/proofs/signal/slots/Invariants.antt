use Rattle.std.proofs.Common.{◌≡◌, ◌++◌, take, drop}
use Rattle.line_grammar.specs.Lines.{slot_codes}
use Rattle.tool_texts.proofs.signal.slots.Given as goal

abbrev pub invariant-loop-i : goal.invariant-loop-i
invariant-loop-i l = l.slots ≡ slot_codes (take l.i l.digits) ++ drop l.i l.digits
