use Rattle.std.proofs.Common.{◌≡◌, ◌≤◌, length}
use Rattle.line_grammar.specs.Reading.{run_at}
use Rattle.line_grammar.specs.Words.{most}
use Rattle.line_cursor.proofs.cursor.Cursor.is_run.Given as goal

abbrev pub invariant-loop-left : goal.invariant-loop-left
invariant-loop-left l = record {
  read : run_at l.kind l.left.total l.count l.left.rest.now ≡ run_at l.kind l.fn.self.total 0 l.fn.self.rest.now;
  total : l.left.total ≡ l.fn.self.total;
  count : l.count ≤ most l.kind;
}

abbrev pub decreases-loop-left : goal.decreases-loop-left
decreases-loop-left l = length l.left.rest.now
