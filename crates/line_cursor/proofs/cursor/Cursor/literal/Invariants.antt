use Rattle.std.proofs.Common.{◌≡◌, drop}
use Rattle.line_grammar.specs.Reading.{literal_at}
use Rattle.line_cursor.proofs.cursor.Cursor.literal.Given as goal

abbrev pub invariant-loop-byte : goal.invariant-loop-byte
invariant-loop-byte l = record {
  read : literal_at (drop l.byte-index l.text) l.self.total l.self.rest.now ≡ literal_at l.text l.initial.self.total l.initial.self.rest.now;
  total : l.self.total ≡ l.initial.self.total;
}
