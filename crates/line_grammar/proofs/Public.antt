-- What is computed of a text is exactly what the grammar relates.
use Rattle.std.proofs.Common.{◌≡◌, ◌<◌, ◌≤◌, ℕ, List, length, refl, sym, subst, Result, Ok, Err, arith}
use Rattle.line_grammar.specs.Grammar.{Grammar, Says, LeavesAt, ReadAs, Reads}
use Rattle.line_grammar.specs.Reading.{read, Gives, line_bytes, feed_line_of}
use Rattle.line_grammar.specs.Lines.{operator_words, service_words, access_words, job_word, job_words, control_job_words, up_words, clear_words, lost_words, all_lines, feed_lines, script_lines, common_lines, link_lines, watch_line, skipped_line, comment_line, moment_line, signal_line, placed_line, done_line, failed_line, removed_line, down_line, operator_line, hex_line}
use Rattle.line_grammar.specs.declared.line.Line.{Line}
use Rattle.line_grammar.specs.declared.line.LineFault.{LineFault}
use Rattle.line_grammar.specs.declared.line.LineFault.TheVariants as fault
use Rattle.line_grammar.proofs.Exact.{Exact}
use Rattle.std.proofs.lemmas.Bool.{lt-ltb, le-ltb}
use Rattle.line_grammar.proofs.Engine.{exact}
use Rattle.line_grammar.proofs.Unique.{Clear, unique}

read_as_of : {V : Type 0} (g : Grammar V) → Clear g → (text : List ℕ) (r : Result V ℕ) → Exact (Says g) 0 text r → ReadAs g text r
read_as_of g clear text (Ok x) is = (is, λ y says. unique g clear text y x says is)
read_as_of g clear text (Err place) (p, same, leaves) =
    let at : p ≡ place = omega arith in
    subst (λ (p : ℕ). LeavesAt (Says g) text p) at leaves

-- what is computed is the value that the text says, and the only one, or the place at which it leaves the grammar
pub read_as : {V : Type 0} (g : Grammar V) → Clear g → (text : List ℕ) → ReadAs g text (read g (length text) text)
read_as g clear text = read_as_of g clear text (read g (length text) text) (exact g 0 (length text) text (omega arith))

-- a reader that gives what is computed reads the text
pub reads : {V : Type 0} (g : Grammar V) → Clear g → (text : List ℕ) (r : Result V LineFault) → Gives r (read g (length text) text) → Reads g text r
reads {V = V} g clear text (Ok x) gives = let P : Result V ℕ → Type 0 = λ r. ReadAs g text r in subst P gives (read_as g clear text)
reads {V = V} g clear text (Err (fault.Place place)) gives = let P : Result V ℕ → Type 0 = λ r. ReadAs g text r in subst P gives (read_as g clear text)
reads g clear text (Err fault.NoMemory) gives = tt

-- the same, of a reader over all of the text
pub reads_place : {V : Type 0} (g : Grammar V) → Clear g → (text rest : List ℕ) (total : ℕ) (r : Result V LineFault) → total ≡ length text → rest ≡ text →
    Gives r (read g total rest) → Reads g text r
reads_place g clear text rest total r all here gives =
    reads g clear text r (subst (λ (n : ℕ). Gives r (read g n text)) all (subst (λ (t : List ℕ). Gives r (read g total t)) here gives))

pub operators_clear : Clear operator_words
unfolding operator_words service_words access_words job_word job_words control_job_words up_words clear_words lost_words
operators_clear = search

pub all_lines_clear : Clear all_lines
unfolding all_lines feed_lines common_lines link_lines watch_line skipped_line comment_line moment_line signal_line placed_line done_line failed_line removed_line down_line operator_line hex_line operator_words service_words access_words job_word job_words control_job_words up_words clear_words lost_words
all_lines_clear = search

pub feed_lines_clear : Clear feed_lines
unfolding all_lines
feed_lines_clear = all_lines_clear.1

pub script_lines_clear : Clear script_lines
unfolding script_lines common_lines watch_line skipped_line comment_line signal_line placed_line done_line failed_line removed_line down_line operator_line operator_words service_words access_words job_word job_words control_job_words up_words clear_words lost_words
script_lines_clear = search

-- a line that is too long leaves at the limit
pub long_line : (line : List ℕ) → line_bytes < length line → feed_line_of line ≡ Err line_bytes
unfolding feed_line_of
long_line line long = rw (lt-ltb line_bytes (length line) long) refl

-- any other is read by the lines that `feed` takes
pub short_line : (line : List ℕ) → length line ≤ line_bytes → feed_line_of line ≡ read feed_lines (length line) line
unfolding feed_line_of
short_line line short = rw (le-ltb line_bytes (length line) short) refl

-- a reader over all of such a line gives what the line says to `feed`
pub gives_fed : (line rest : List ℕ) (total : ℕ) (r : Result Line LineFault) → length line ≤ line_bytes → total ≡ length line → rest ≡ line →
    Gives r (read feed_lines total rest) → Gives r (feed_line_of line)
gives_fed line rest total r short all here gives =
    let whole : Gives r (read feed_lines (length line) line) =
    subst (λ (n : ℕ). Gives r (read feed_lines n line)) all (subst (λ (t : List ℕ). Gives r (read feed_lines total t)) here gives) in
    subst (λ (s : Result Line ℕ). Gives r s) (sym (short_line line short)) whole
