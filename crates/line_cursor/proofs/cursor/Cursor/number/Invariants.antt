use Rattle.std.proofs.Common.{◌≡◌, ◌≤◌, length}
use Rattle.line_grammar.specs.Reading.{number_at, digits_at}
use Rattle.line_cursor.proofs.cursor.Cursor.number.Given as goal

abbrev pub invariant-loop-left : goal.invariant-loop-left
invariant-loop-left l = record {
  read : digits_at l.top l.left.total l.value l.left.rest.now ≡ number_at l.top l.fn.self.total l.fn.self.rest.now;
  within : l.value ≤ l.top;
}

abbrev pub decreases-loop-left : goal.decreases-loop-left
decreases-loop-left l = length l.left.rest.now
