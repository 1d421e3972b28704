-- Lines that begin with W.
use Rattle.std.proofs.Common.{◌≡◌, ℕ, ◌-◌, nat_eq, true, false, List, [], ◌∷◌, length, codes, max, inl, inr, refl, sym, ap, Result, Ok, Err, arith}
use Rattle.std.proofs.lemmas.Bool.{cases_eq, ne_eqb}
use Rattle.std.specs.List.{starts_with}
use Rattle.line_grammar.specs.Reading.{read, either_of, end_at, literal_at}
use Rattle.line_grammar.specs.Lines.{all_lines, feed_lines, common_lines, link_lines, watch_line, skipped_line, comment_line, moment_line, signal_line, placed_line, done_line, failed_line, removed_line, down_line, operator_line, hex_line}

-- a reading that fails at place 0 adds nothing
nothing_added : {V : Type 0} (r : Result V ℕ) → either_of r (Err 0) ≡ r
nothing_added (Ok x) = refl
nothing_added (Err p) = let same : max p 0 ≡ p = omega arith in ap (λ (n : ℕ). Err n) same

not_watched : (line : List ℕ) → starts_with nat_eq line (codes "W") ≡ false → read watch_line (length line) line ≡ Err 0
unfolding watch_line literal_at
not_watched [] not = refl
not_watched (b ∷ bs) not =
    elim (cases_eq b 87) [
      | inl is ↦ let begins : starts_with nat_eq (b ∷ bs) (codes "W") ≡ true = rw is refl in cc
      | inr other ↦ let front : length (b ∷ bs) - length (b ∷ bs) ≡ 0 = omega arith in rw (ne_eqb b 87 other, front) refl
    ]

pub other : (line : List ℕ) → starts_with nat_eq line (codes "W") ≡ false → read feed_lines (length line) line ≡ read all_lines (length line) line
unfolding all_lines
other line not = rw (not_watched line not) (sym (nothing_added (read feed_lines (length line) line)))

at_front : (total : ℕ) (bs : List ℕ) → total - length (87 ∷ bs) ≡ 0 → read feed_lines total (87 ∷ bs) ≡ Err 0
unfolding end_at literal_at feed_lines common_lines link_lines skipped_line comment_line moment_line signal_line placed_line done_line failed_line removed_line down_line operator_line hex_line
at_front total bs same = rw same refl

pub watch : (line : List ℕ) → starts_with nat_eq line (codes "W") ≡ true → read feed_lines (length line) line ≡ Err 0
watch [] is = cc
watch (b ∷ bs) is =
    elim (cases_eq b 87) [
      | inl same ↦ rw same (at_front (length (87 ∷ bs)) bs (omega arith))
      | inr not ↦ let apart : starts_with nat_eq (b ∷ bs) (codes "W") ≡ false = rw (ne_eqb 87 b (λ same. not (sym same))) refl in cc
    ]
