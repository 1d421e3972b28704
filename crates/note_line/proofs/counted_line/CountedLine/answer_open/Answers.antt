use Rattle.std.proofs.Common.{◌≡◌, true, is_some, ap, sym, ◌∙◌}
use Rattle.note_line.specs.Line.{Line}
use Rattle.note_line.proofs.Counting.{counted_answer}
use Rattle.note_line.proofs.counted_line.CountedLine.answer_open.Goals as goal

pub invariant_of-self : goal.invariant_of-self
invariant_of-self c =
    let some : is_some c.self.inside.line.opened ≡ true = ap (λ (l : Line). is_some l.opened) c.self.view_is ∙ (sym c.has_open.ensures ∙ c.if-has_open.true) in
    rw c.answer_open.ensures (counted_answer c.self.inside.line c.self.inside.answered some c.self.invariant)
