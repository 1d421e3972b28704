use Rattle.std.proofs.Common.{◌≡◌, ℕ, Err, length}
use Rattle.line_grammar.specs.Reading.{pairs_at}
use Rattle.line_cursor.proofs.cursor.Cursor.leaves_hex.Given as goal

-- where the whole leaves the grammar, what is left leaves it there too
abbrev pub invariant-loop-left : goal.invariant-loop-left
invariant-loop-left l = record {
  leaves : (place : ℕ) → pairs_at l.fn.self.total l.fn.self.rest.now ≡ Err place → pairs_at l.left.total l.left.rest.now ≡ Err place;
  total : l.left.total ≡ l.fn.self.total;
}

abbrev pub decreases-loop-left : goal.decreases-loop-left
decreases-loop-left l = length l.left.rest.now
