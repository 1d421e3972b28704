-- Readers of the lines of a script.
use Rattle.std.proofs.Common.{◌≡◌, ◌<◌, ◌≤◌, ℕ, List, length, refl, sym, subst, Result, Err}
use Rattle.std.proofs.lemmas.Bool.{lt-ltb, le-ltb}
use Rattle.line_grammar.specs.Lines.{script_lines}
use Rattle.line_grammar.specs.Reading.{read, Gives, line_bytes, script_line_of}
use Rattle.line_grammar.specs.declared.line.Line.{Line}
use Rattle.line_grammar.specs.declared.line.LineFault.{LineFault}

-- a line that is too long leaves at the limit
pub long_scripted : (line : List ℕ) → line_bytes < length line → script_line_of line ≡ Err line_bytes
unfolding script_line_of
long_scripted line long = rw (lt-ltb line_bytes (length line) long) refl

-- any other is read by the lines that a script has
short_scripted : (line : List ℕ) → length line ≤ line_bytes → script_line_of line ≡ read script_lines (length line) line
unfolding script_line_of
short_scripted line short = rw (le-ltb line_bytes (length line) short) refl

-- a reader over all of such a line gives what the line says in a script
pub gives_scripted : (line rest : List ℕ) (total : ℕ) (r : Result Line LineFault) → length line ≤ line_bytes → total ≡ length line → rest ≡ line →
    Gives r (read script_lines total rest) → Gives r (script_line_of line)
gives_scripted line rest total r short all here gives =
    let whole : Gives r (read script_lines (length line) line) =
    subst (λ (n : ℕ). Gives r (read script_lines n line)) all (subst (λ (t : List ℕ). Gives r (read script_lines total t)) here gives) in
    subst (λ (s : Result Line ℕ). Gives r s) (sym (short_scripted line short)) whole
