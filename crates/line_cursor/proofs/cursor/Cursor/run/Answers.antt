use Rattle.std.proofs.Common.{arith, ◌≡◌, ℕ, List, Result, Ok, IfOk, sym, ◌∙◌, subst}
use Rattle.line_grammar.proofs.WordsExact.{run_ran, run_text}
use Rattle.line_cursor.proofs.cursor.Cursor.run.Goals as goal

is_text : {E : Type 0} (r : Result (List ℕ) E) (t text : List ℕ) → r ≡ Ok t → IfOk r (λ u. u ≡ text) → t ≡ text
is_text {E = E} r t text is same = let P : Result (List ℕ) E → Type 0 = λ r. IfOk r (λ u. u ≡ text) in subst P is same

pub unwrap-requires : goal.unwrap-requires
unwrap-requires c = c.read.ensures.ok.1 (run_text c.args.kind _ (run_ran c.args.kind c.args.self.total c.args.self.rest.now (sym c.is_run.ensures ∙ c.in-Ok.is)))

pub returns-in-Ok-clause-least : goal.returns-in-Ok-clause-least
returns-in-Ok-clause-least c =
    let r = run_ran c.args.kind c.args.self.total c.args.self.rest.now (sym c.is_run.ensures ∙ c.in-Ok.is) in
    rw (is_text _ _ _ c.unwrap.ensures c.read.ensures.text) (omega (arith, r.low))

pub returns-in-Ok-clause-most : goal.returns-in-Ok-clause-most
returns-in-Ok-clause-most c =
    let r = run_ran c.args.kind c.args.self.total c.args.self.rest.now (sym c.is_run.ensures ∙ c.in-Ok.is) in
    rw (is_text _ _ _ c.unwrap.ensures c.read.ensures.text) (omega (arith, r.high))
