use Rattle.std.proofs.Common.{ℕ, ◌≤◌, sym, ap, subst, ◌∙◌, arith}
use Rattle.substrate.specs.Places.{PlaceMap, is_taken_at}
use Rattle.substrate.proofs.Numbering.{shown_there, none_there}
use Rattle.substrate.proofs.places.Places.is_taken_at.Goals.{else-number-ge1-via-then-number-ge1+else-number-len, else-number-ge1-via-else-number-ge1}
use Rattle.substrate.proofs.places.Places.is_taken_at.Goals as goal

pub returns-then-number-len : goal.returns-then-number-len
returns-then-number-len c =
    shown_there c.self.inside.board c.self.inside.names c.args.number c.is_taken.result c.if-number-ge1.true (subst (λ (n : ℕ). c.args.number ≤ n) c.len.ensures c.if-number-len.true) c.self.invariant.places.within c.self.invariant.shown c.is_taken.ensures
    ∙ ap (λ (p : PlaceMap). is_taken_at c.args.number p) c.self.view_is

pub returns-else-number-ge1 : goal.returns-else-number-ge1
returns-else-number-ge1 c =
    sym (none_there c.self.inside.board.ports c.self.inside.board.chambers c.args.number c.self.inside.names c.self.invariant.places.within
    (λ first last. elim c.else-number-ge1.branch [
      | else-number-ge1-via-then-number-ge1+else-number-len w ↦ (let count = w.len.ensures in omega (arith, last, count, w.if-number-len.false))
      | else-number-ge1-via-else-number-ge1 w ↦ (omega (arith, first, w.if-number-ge1.false))
    ]))
    ∙ ap (λ (p : PlaceMap). is_taken_at c.args.number p) c.self.view_is
