use Rattle.std.proofs.Common.{◌≡◌, ℕ, suc, ◌-◌, ◌≤◌, ◌+◌, ◌*◌, List, [], ◌∷◌, length, take, drop, get_or, Some, Result, Ok, Err, sym, ◌∙◌, arith}
use Rattle.std.proofs.Math.Seq.{take-length}
use Rattle.line_grammar.specs.Words.{hex_digit}
use Rattle.line_grammar.specs.Reading.{pairs_at, ◌>>=◌}
use Rattle.line_cursor.proofs.cursor.Cursor.leaves_hex.Goals as goal

behind_pair : (byte place : ℕ) (r : Result (List ℕ) ℕ) → (r >>= λ bytes. Ok (byte ∷ bytes)) ≡ Err place → r ≡ Err place
behind_pair byte place (Ok x) is = absurd cc
behind_pair byte place (Err e) is = is

next : (total place : ℕ) (text : List ℕ) (h l : ℕ) → 2 ≤ length text → hex_digit (get_or text 0 0) ≡ Some h → hex_digit (get_or text 1 0) ≡ Some l →
    pairs_at total text ≡ Err place → pairs_at total (take (length text - 2) (drop 2 text)) ≡ Err place
unfolding pairs_at
next total place [] h l low high_is low_is is = absurd (omega arith)
next total place (a ∷ []) h l low high_is low_is is = absurd (omega arith)
next total place (a ∷ b ∷ bs) h l low high_is low_is is =
    let size : suc (suc (length bs)) - 2 ≡ length bs = omega arith in
    rw (size, take-length bs) (behind_pair (16 * h + l) place (pairs_at total bs) (rw (high_is, low_is) at is))

pub loop-left-preserved : goal.loop-left-preserved
loop-left-preserved c = record {
  leaves = λ place is.
      next c.loop-left.left.total place c.loop-left.left.rest.now c.in-Some.field-0 c.in-Some-hex_digit.field-0
      c.in-len2-up.len_at_least (sym c.hex_digit.ensures.value ∙ c.in-Some.is) (sym c.hex_digit-in-len2-up.ensures.value ∙ c.in-Some-hex_digit.is) (c.loop-left.invariant.leaves place is);
  total = c.loop-left.invariant.total;
}
