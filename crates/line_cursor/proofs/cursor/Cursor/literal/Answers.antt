use Rattle.std.proofs.Common.{◌∙◌, sym}
use Rattle.line_cursor.proofs.Literals.{literal_short}
use Rattle.line_cursor.proofs.cursor.Cursor.literal.Goals as goal

pub returns-in_default-clause-read : goal.returns-in_default-clause-read
returns-in_default-clause-read c =
    rw c.place.ensures (sym c.loop-byte.invariant.read ∙ literal_short _ c.loop-byte.byte-index _ _ c.loop-byte-test.true c.in_default.len_below)
