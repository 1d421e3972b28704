-- What a text gives up to where its reader stands.
use Rattle.std.proofs.Common.{◌≡◌, ◌≢◌, ℕ, ◌+◌, Bool, true, false, if◌then◌else◌, List, [], ◌∷◌, ◌++◌, Result, Ok, refl, sym, ◌∙◌, ap, append_assoc, arith}
use Rattle.std.proofs.lemmas.List.{append-nil}
use Rattle.text_lines.specs.Lines.{IsOneLine, lines_of}
use Rattle.text_lines.proofs.Lines.{last_line}
use Rattle.tool_events.specs.declared.entry.Entry.{Entry}
use Rattle.line_grammar.specs.Texts.{is_quit}
use Rattle.line_grammar.specs.declared.line.Line.{Line}
use Rattle.line_grammar.specs.declared.line.Line.TheVariants as line
use Rattle.line_grammar.specs.Reading.{end_at, literal_at, before_space, from_space, digits_at, number_at, run_at, pairs_at, hex_at, feed_line_of}
use Rattle.line_grammar.specs.Lines.{feed_lines as grammar}
use Rattle.line_grammar.specs.Lines.{service_words, access_words, job_word, job_words, control_job_words, up_words, clear_words, lost_words, operator_words, placed_line, removed_line, done_line, failed_line, down_line, skipped_line, comment_line, moment_line, hex_line, operator_line, signal_line, watch_line, common_lines, link_lines}
use Rattle.gem_model.specs.Feed.{Reading, line_given, Told, QuitAt, AllRead, reading_after, line_told, told_behind, feed_lines, feed_entries}
use Rattle.gem_model.specs.SessionBytes.{line_bytes_in, line_and_more, lines_bytes_in, session_in}
use Rattle.feeding.specs.Views.{ReaderView}
use Rattle.feeding.specs.Standing.{Stands}

-- the text and whatever follows it goes on from the part of a line
pub text_goes : (text : List ℕ) (reader : ReaderView) (stands : Stands text reader) (more : List ℕ) → feed_entries reader.feeder.core.config (text ++ more) ≡ told_behind reader.feeder.core.history (feed_lines reader.number stands.reading (lines_of (reader.line ++ more)))
text_goes text reader stands more =
    ap (λ (t : List ℕ). feed_entries reader.feeder.core.config (t ++ more)) stands.text_is
    ∙ ap (feed_entries reader.feeder.core.config) (append_assoc stands.whole reader.line more)
    ∙ stands.goes_on (reader.line ++ more)

pub at_end : (text : List ℕ) (reader : ReaderView) (stands : Stands text reader) → feed_entries reader.feeder.core.config text ≡ told_behind reader.feeder.core.history (feed_lines reader.number stands.reading (lines_of reader.line))
at_end text reader stands =
    ap (feed_entries reader.feeder.core.config) (sym (append-nil text)) ∙ text_goes text reader stands []
    ∙ ap (λ (t : List ℕ). told_behind reader.feeder.core.history (feed_lines reader.number stands.reading (lines_of t))) (append-nil reader.line)

-- the same of the bytes that it gives to a session
pub text_in : (text : List ℕ) (reader : ReaderView) (stands : Stands text reader) (more : List ℕ) (session : ℕ) → session_in reader.feeder.core.config (text ++ more) session ≡ session_in reader.feeder.core.config stands.whole session + lines_bytes_in stands.reading (lines_of (reader.line ++ more)) session
text_in text reader stands more session =
    ap (λ (t : List ℕ). session_in reader.feeder.core.config (t ++ more) session) stands.text_is
    ∙ ap (λ (t : List ℕ). session_in reader.feeder.core.config t session) (append_assoc stands.whole reader.line more)
    ∙ stands.reads_on (reader.line ++ more) session

-- the whole lines up to there gave the history
pub whole_told : (text : List ℕ) (reader : ReaderView) (stands : Stands text reader) → (feed_entries reader.feeder.core.config stands.whole).entries ≡ reader.feeder.core.history
whole_told text reader stands =
    ap (λ (t : List ℕ). (feed_entries reader.feeder.core.config t).entries) (sym (append-nil stands.whole))
    ∙ ap (λ (told : Told). told.entries) (stands.goes_on [])
    ∙ append-nil reader.feeder.core.history

abbrev pub said_so : Line → Result Line ℕ
said_so says = Ok says

-- an empty line says nothing
pub empty_line : feed_line_of [] ≡ Ok line.Skip
unfolding feed_line_of end_at literal_at before_space from_space digits_at number_at run_at pairs_at hex_at service_words access_words job_word job_words control_job_words up_words clear_words lost_words operator_words placed_line removed_line done_line failed_line down_line skipped_line comment_line moment_line hex_line operator_line signal_line watch_line common_lines link_lines grammar
empty_line = refl

skips : (says : Line) → feed_line_of [] ≡ Ok says → line.Skip ≡ says
skips says is = let same : said_so line.Skip ≡ Ok says = sym empty_line ∙ is in cc same

-- nothing is told behind the last line
none_behind : (number : ℕ) (quits : Bool) (told : Told) → told ≡ record { entries = []; stop = AllRead } → (if quits then record { entries = []; stop = QuitAt number } else told).entries ≡ []
none_behind number true told is = refl
none_behind number false told is = ap (λ (t : Told). t.entries) is

zero_behind : (quits : Bool) (n : ℕ) → n ≡ 0 → (if quits then 0 else n) ≡ n
zero_behind true n none = sym none
zero_behind false n none = refl

-- what the last line gives, which may be empty
line_entries : (number : ℕ) (r : Reading) (line : List ℕ) (says : Line) → IsOneLine line → feed_line_of line ≡ Ok says → (feed_lines number r (lines_of line)).entries ≡ (line_given r says).entries
line_entries number r [] says one is =
    ap (λ (l : Line). (line_given r l).entries) (skips says is)
line_entries number r (b ∷ line) says one is =
    ap (λ (ls : List (List ℕ)). (feed_lines number r ls).entries) (last_line (b ∷ line) one (λ e. cc))
    ∙ ap (λ (o : Result Line ℕ). (line_told number r o (λ next. feed_lines (number + 1) next [])).entries) is
    ∙ ap (λ (es : List Entry). (line_given r says).entries ++ es) (none_behind number (is_quit says) (feed_lines (number + 1) (reading_after r says) []) refl)
    ∙ append-nil (line_given r says).entries

line_in : (r : Reading) (line : List ℕ) (says : Line) (session : ℕ) → IsOneLine line → feed_line_of line ≡ Ok says → lines_bytes_in r (lines_of line) session ≡ line_bytes_in r says session
line_in r [] says session one is =
    ap (λ (l : Line). line_bytes_in r l session) (skips says is)
line_in r (b ∷ line) says session one is =
    ap (λ (ls : List (List ℕ)). lines_bytes_in r ls session) (last_line (b ∷ line) one (λ e. cc))
    ∙ ap (λ (o : Result Line ℕ). line_and_more r o session (λ next. lines_bytes_in next [] session)) is
    ∙ ap (λ (n : ℕ). line_bytes_in r says session + n) (zero_behind (is_quit says) (lines_bytes_in (reading_after r says) [] session) refl)
    ∙ omega arith

-- the part of a line, taken as a line, gives what it says
pub text_entries : (text : List ℕ) (reader : ReaderView) (stands : Stands text reader) (says : Line) → feed_line_of reader.line ≡ Ok says → (feed_entries reader.feeder.core.config text).entries ≡ reader.feeder.core.history ++ (line_given stands.reading says).entries
text_entries text reader stands says is =
    ap (λ (told : Told). told.entries) (at_end text reader stands)
    ∙ ap (λ (es : List Entry). reader.feeder.core.history ++ es) (line_entries reader.number stands.reading reader.line says stands.line is)

pub text_bytes_in : (text : List ℕ) (reader : ReaderView) (stands : Stands text reader) (says : Line) (session : ℕ) → feed_line_of reader.line ≡ Ok says → session_in reader.feeder.core.config text session ≡ session_in reader.feeder.core.config stands.whole session + line_bytes_in stands.reading says session
text_bytes_in text reader stands says session is =
    ap (λ (t : List ℕ). session_in reader.feeder.core.config t session) (sym (append-nil text))
    ∙ text_in text reader stands [] session
    ∙ ap (λ (t : List ℕ). session_in reader.feeder.core.config stands.whole session + lines_bytes_in stands.reading (lines_of t) session) (append-nil reader.line)
    ∙ ap (λ (n : ℕ). session_in reader.feeder.core.config stands.whole session + n) (line_in stands.reading reader.line says session stands.line is)
