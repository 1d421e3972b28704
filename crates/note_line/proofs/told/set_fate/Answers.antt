use Rattle.std.proofs.Common.{arith}
use Rattle.note_line.proofs.Numbers.{written, written-past}
use Rattle.note_line.proofs.told.set_fate.Goals as goal

pub returns-then-place-len : goal.returns-then-place-len
returns-then-place-len c = let n = c.in-Some.ensures in written _ _ _ _ _ (omega arith) c.index_mut.ensures.value

pub returns-else-place-len : goal.returns-else-place-len
returns-else-place-len c = let n = c.in-Some.ensures in written-past _ _ c.in-Some.place _ (omega arith) (omega (arith, c.args.told.now.ok.0))
