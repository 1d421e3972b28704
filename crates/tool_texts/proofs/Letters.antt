-- The first letter of a line tells which of the lines that `feed` takes it may be.
use Rattle.std.proofs.Common.{◌≡◌, ℕ, ◌-◌, ◌≤◌, List, [], ◌∷◌, length, max, Some, slice_get, Result, Ok, Err, MatchResult, refl, sym, ap, subst, ◌∙◌, arith}
use Rattle.line_grammar.specs.declared.line.Line.{Line}
use Rattle.line_grammar.specs.declared.line.Line.TheVariants.{Bytes}
use Rattle.line_grammar.specs.declared.line.LineFault.{LineFault}
use Rattle.line_grammar.proofs.Public.{short_line}
use Rattle.line_grammar.specs.Lines.{feed_lines, common_lines, link_lines, skipped_line, comment_line, signal_line, placed_line, removed_line, done_line, failed_line, down_line, operator_line, moment_line, hex_line}
use Rattle.line_grammar.specs.Reading.{read, either_of, end_at, literal_at, Gives, line_bytes, feed_line_of}

pub same : (e : ℕ) → max e e ≡ e
same e = omega arith

-- a place that came already adds nothing
once : {V : Type 0} (e : ℕ) (r : Result V ℕ) → either_of (Err e) (either_of (Err e) r) ≡ either_of (Err e) r
once e (Ok x) = refl
once e (Err q) = let known : max e (max e q) ≡ max e q = omega arith in ap (λ (n : ℕ). Err n) known

pub behind : {V : Type 0} (e : ℕ) (r : Result V ℕ) → either_of (either_of (Err e) r) (Err e) ≡ either_of (Err e) r
behind e (Ok x) = refl
behind e (Err q) = let known : max (max e q) e ≡ max e q = omega arith in ap (λ (n : ℕ). Err n) known

bytes_line : (total : ℕ) (cs : List ℕ) → read feed_lines total (72 ∷ cs) ≡ either_of (Err (total - length (72 ∷ cs))) (read hex_line total (72 ∷ cs))
unfolding feed_lines common_lines link_lines skipped_line comment_line signal_line placed_line removed_line done_line failed_line down_line operator_line moment_line end_at literal_at
bytes_line total cs = simp same (once (total - length (72 ∷ cs)) (read hex_line total (72 ∷ cs)))

said_line : (total : ℕ) (cs : List ℕ) → read feed_lines total (79 ∷ cs) ≡ either_of (Err (total - length (79 ∷ cs))) (read operator_line total (79 ∷ cs))
unfolding feed_lines common_lines link_lines skipped_line comment_line signal_line placed_line removed_line done_line failed_line down_line moment_line hex_line end_at literal_at
said_line total cs = simp same (behind (total - length (79 ∷ cs)) (read operator_line total (79 ∷ cs)))

told_line : (total : ℕ) (cs : List ℕ) → read feed_lines total (83 ∷ cs) ≡ either_of (Err (total - length (83 ∷ cs))) (read signal_line total (83 ∷ cs))
unfolding feed_lines common_lines link_lines skipped_line comment_line operator_line moment_line hex_line end_at literal_at
told_line total cs =
    let r = read signal_line total (83 ∷ cs) in
    let e = total - length (83 ∷ cs) in
    simp same (ap (λ x. either_of x (Err e)) (behind e r) ∙ behind e r)

-- a line that begins with `H` may be the host's bytes alone
pub of_bytes : (total : ℕ) (text : List ℕ) → slice_get text 0 ≡ Some 72 → read feed_lines total text ≡ either_of (Err (total - length text)) (read hex_line total text)
of_bytes total [] is = cc
of_bytes total (b ∷ bs) is = let first : b ≡ 72 = cc in rw first (bytes_line total bs)

-- at the beginning of a line a place is that of the reading alone
at_front : {V : Type 0} (n : ℕ) (r : Result V ℕ) → either_of (Err (n - n)) r ≡ r
at_front n (Ok x) = refl
at_front n (Err p) = let known : max (n - n) p ≡ p = omega arith in ap (λ (k : ℕ). Err k) known

pub host_line : (line rest : List ℕ) (total : ℕ) (r : Result (Unit {0}) LineFault) (bytes : List ℕ) → length line ≤ line_bytes → total ≡ length line → rest ≡ line → slice_get line 0 ≡ Some 72 →
    MatchResult r (λ v. read hex_line total rest ≡ Ok (Bytes bytes)) (λ e. Gives (Err e) (read hex_line total rest)) → MatchResult r (λ v. feed_line_of line ≡ Ok (Bytes bytes)) (λ e. Gives (Err e) (feed_line_of line))
host_line line rest total r bytes short all here letter says =
    let whole : feed_line_of line ≡ read hex_line total rest =
    short_line line short ∙ of_bytes (length line) line letter ∙ at_front (length line) (read hex_line (length line) line)
    ∙ ap (λ (n : ℕ). read hex_line n line) (sym all) ∙ ap (read hex_line total) (sym here) in
    subst (λ (s : Result Line ℕ). MatchResult r (λ v. s ≡ Ok (Bytes bytes)) (λ e. Gives (Err e) s)) (sym whole) says

-- one that begins with `O` what an operator says
pub of_operator : (total : ℕ) (text : List ℕ) → slice_get text 0 ≡ Some 79 → read feed_lines total text ≡ either_of (Err (total - length text)) (read operator_line total text)
of_operator total [] is = cc
of_operator total (b ∷ bs) is = let first : b ≡ 79 = cc in rw first (said_line total bs)

-- and one that begins with `S` what the equipment tells
pub of_signal : (total : ℕ) (text : List ℕ) → slice_get text 0 ≡ Some 83 → read feed_lines total text ≡ either_of (Err (total - length text)) (read signal_line total text)
of_signal total [] is = cc
of_signal total (b ∷ bs) is = let first : b ≡ 83 = cc in rw first (told_line total bs)
