use Rattle.std.proofs.Common.{arith}
use Rattle.program_words.proofs.Values.{value-over}
use Rattle.program_words.proofs.number.value_of.Goals as goal

pub returns-then-more-from-clause-none : goal.returns-then-more-from-clause-none
returns-then-more-from-clause-none c none =
    rw c.loop-byte.invariant.value (value-over c.args.most c.loop-byte.value c.loop-byte.byte-index 0 c.args.word.now c.loop-byte-test.true (omega (arith, c.from.ensures, c.from-in-loop-byte.ensures, c.from-in-loop-byte-2.ensures)))
