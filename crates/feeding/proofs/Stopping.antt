-- Where in a text a reader stopped.
use Rattle.std.proofs.Common.{◌≡◌, ◌≢◌, ◌⊎◌, inl, inr, ℕ, ◌+◌, Bool, true, false, if◌then◌else◌, List, [], ◌∷◌, ◌++◌, length, Result, Ok, Err, refl, sym, ◌∙◌, ap, subst, arith, length-append}
use Rattle.std.proofs.lemmas.List.{append-nil}
use Rattle.tool_events.specs.declared.config.Config.{Config}
use Rattle.tool_events.specs.declared.entry.Entry.{Entry}
use Rattle.text_lines.specs.Lines.{lines_of, whole_lines}
use Rattle.text_lines.proofs.Lines.{last_line}
use Rattle.line_grammar.specs.Texts.{IsFront, LineEnded, EndedLines, is_quit}
use Rattle.line_grammar.specs.declared.line.Line.{Line}
use Rattle.line_grammar.specs.declared.line.Line.TheVariants.{Skip}
use Rattle.line_grammar.specs.Reading.{feed_line_of}
use Rattle.gem_model.specs.Feed.{Given, line_given, reading_after, feed_entries}
use Rattle.gem_model.specs.Sizes.{counted}
use Rattle.gem_model.specs.SessionBytes.{line_and_more, line_bytes_in, lines_bytes_in, session_in}
use Rattle.history_parts.specs.Counts.{count_of}
use Rattle.history_parts.specs.CoreView.{CoreView}
use Rattle.line_feeding.specs.declared.halt.Halt.{Halt}
use Rattle.line_feeding.specs.declared.halt.Halt.TheVariants as halt
use Rattle.feeding.specs.Views.{FeederView, ReaderView}
use Rattle.line_feeding.specs.Going.{SinkView, WentOn}
use Rattle.line_feeding.specs.Reads.{HaveRead, AddsLine}
use Rattle.feeding.specs.Reading.{TakesLine, TreatsLine}
use Rattle.line_feeding.specs.Quitting.{quit_behind}
use Rattle.line_feeding.specs.Stopping.{GivenBy, StoppedIn, TakenTo, CountsTo, AtLine}
use Rattle.feeding.specs.Standing.{Stands, StopsAt}
use Rattle.driving.proofs.Fronts.{IsFront-same, IsFront-then}
use Rattle.feeding.proofs.AtText.{whole_told, text_entries, text_bytes_in, empty_line, said_so}

-- the whole lines before the part of a line
whole_of : (text : List ℕ) (reader : ReaderView) (stands : Stands text reader) → whole_lines text ≡ stands.whole
whole_of text reader stands = ap whole_lines stands.text_is ∙ stands.ends reader.line stands.line

whole_whole : (text : List ℕ) (reader : ReaderView) (stands : Stands text reader) → whole_lines stands.whole ≡ stands.whole
whole_whole text reader stands = ap whole_lines (sym (append-nil stands.whole)) ∙ stands.ends [] refl

whole_front : (text all : List ℕ) (reader : ReaderView) (stands : Stands text reader) → IsFront text all → IsFront stands.whole all
whole_front text all reader stands front = IsFront-then stands.whole text all (record { behind = reader.line; joined = stands.text_is }) front

-- the whole lines have ended
whole_ended : (Over : Type 0) (text all : List ℕ) (reader : ReaderView) (stands : Stands text reader) → IsFront text all → EndedLines Over all stands.whole
whole_ended Over text all reader stands front = record { front = whole_front text all reader stands front; ends = inl (sym (whole_whole text reader stands)) }

whole_within : (text : List ℕ) (reader : ReaderView) (history' : List Entry) (stands : Stands text reader) → history' ≡ reader.feeder.core.history → IsFront history' (feed_entries reader.feeder.core.config stands.whole).entries
whole_within text reader history' stands history = IsFront-same history' (feed_entries reader.feeder.core.config stands.whole).entries (whole_told text reader stands ∙ sym history)

-- the whole lines before the part of a line gave the history
pub given_before : (Over : Type 0) (text all : List ℕ) (reader : ReaderView) (history' : List Entry) → Stands text reader → IsFront text all → history' ≡ reader.feeder.core.history → GivenBy Over reader.feeder.core.config all history'
given_before Over text all reader history' stands front history =
    (stands.whole, whole_ended Over text all reader stands front, whole_within text reader history' stands history)

-- Nothing was done with the last line: the whole lines before it count.
pub stopped_before : (Over : Type 0) (text all : List ℕ) (reader : ReaderView) (history' : List Entry) (counts' : List ℕ) → Stands text reader → IsFront text all → history' ≡ reader.feeder.core.history → counts' ≡ reader.feeder.reads → CountsTo halt.NoMemory Over reader.feeder.core.config all history' counts'
stopped_before Over text all reader history' counts' stands front history counts =
    let c = reader.feeder.core.config in
    let told = whole_told text reader stands in
    record {
      taken = stands.whole;
      marks = record {
        lines = whole_ended Over text all reader stands front;
        before = IsFront-same (feed_entries c (whole_lines stands.whole)).entries history' (history ∙ sym told ∙ ap (λ (t : List ℕ). (feed_entries c t).entries) (sym (whole_whole text reader stands)));
        within = whole_within text reader history' stands history;
      };
      read = λ session. ap (λ (ns : List ℕ). count_of ns session) counts ∙ stands.read session;
    }

-- a line outside the grammar gives nothing, and neither does what is behind it
pub stopped_outside : (Over : Type 0) (text all : List ℕ) (number : ℕ) (reader : ReaderView) (history' : List Entry) (counts' : List ℕ) (stands : Stands text reader) (line : List ℕ) (lines : List (List ℕ)) → ((session : ℕ) → session_in reader.feeder.core.config all session ≡ session_in reader.feeder.core.config stands.whole session + lines_bytes_in stands.reading (line ∷ lines) session) → (place : ℕ) → feed_line_of line ≡ Err place → counts' ≡ reader.feeder.reads → CountsTo (halt.Line number) Over reader.feeder.core.config all history' counts'
stopped_outside Over text all number reader history' counts' stands line lines goes place outside counts = record {
  taken = all;
  marks = refl;
  read = λ session.
      let none : lines_bytes_in stands.reading (line ∷ lines) session ≡ 0 =
      ap (λ (o : Result Line ℕ). line_and_more stands.reading o session (λ next. lines_bytes_in next lines session)) outside in
      let same : session_in reader.feeder.core.config all session ≡ session_in reader.feeder.core.config stands.whole session = omega (arith, goes session, none) in
      ap (λ (ns : List ℕ). count_of ns session) counts ∙ stands.read session ∙ ap counted (sym same);
}

-- the last line counts
line_read : (text : List ℕ) (reader : ReaderView) (stands : Stands text reader) (says : Line) (counts' : List ℕ) → feed_line_of reader.line ≡ Ok says → AddsLine stands.reading says reader.feeder.reads counts' → HaveRead reader.feeder.core.config text counts'
line_read text reader stands says counts' is adds = λ session.
    adds (session_in reader.feeder.core.config stands.whole) stands.read session ∙ ap counted (sym (text_bytes_in text reader stands says session is))

-- a front whose last line has ended is a front
pub ends_front : (Over : Type 0) (text all : List ℕ) → LineEnded Over all text → IsFront text all
ends_front Over text all (inl feed) = record { behind = 10 ∷ feed.0; joined = feed.1 }
ends_front Over text all (inr (inl long)) = long.front
ends_front Over text all (inr (inr over)) = IsFront-same text all (sym over.0)

line_ended : (Over : Type 0) (text all : List ℕ) → LineEnded Over all text → EndedLines Over all text
line_ended Over text all ends = record { front = ends_front Over text all ends; ends = inr ends }

-- the history has no more than the last line and those before it give
line_within : (text : List ℕ) (reader : ReaderView) (history' : List Entry) (stands : Stands text reader) (says : Line) → feed_line_of reader.line ≡ Ok says → IsFront history' (reader.feeder.core.history ++ (line_given stands.reading says).entries) → IsFront history' (feed_entries reader.feeder.core.config text).entries
line_within text reader history' stands says is within = subst (λ (es : List Entry). IsFront history' es) (sym (text_entries text reader stands says is)) within

-- it stopped in the last line
line_stopped : (Over : Type 0) (text all : List ℕ) (reader : ReaderView) (new : CoreView) (stands : Stands text reader) (says : Line) → feed_line_of reader.line ≡ Ok says → LineEnded Over all text → IsFront reader.feeder.core.history new.history → IsFront new.history (reader.feeder.core.history ++ (line_given stands.reading says).entries) → StoppedIn Over reader.feeder.core.config all new.history text
line_stopped Over text all reader new stands says is ends grows within =
    let c = reader.feeder.core.config in record {
      lines = line_ended Over text all ends;
      before = subst (λ (es : List Entry). IsFront es new.history) (sym (ap (λ (t : List ℕ). (feed_entries c t).entries) (whole_of text reader stands) ∙ whole_told text reader stands)) grows;
      within = line_within text reader new.history stands says is within;
    }

-- how many entries the lines before it gave
before_count : (text : List ℕ) (reader : ReaderView) (stands : Stands text reader) → length (feed_entries reader.feeder.core.config (whole_lines text)).entries ≡ length reader.feeder.core.history
before_count text reader stands = ap (λ (t : List ℕ). length (feed_entries reader.feeder.core.config t).entries) (whole_of text reader stands) ∙ ap length (whole_told text reader stands)

-- a line that is taken stopped the reader
taken_counts : (Over : Type 0) (text all : List ℕ) (old : ReaderView) (new : FeederView) (out out' : SinkView) (why : Halt) (stands : Stands text old) (says : Line) → feed_line_of old.line ≡ Ok says → LineEnded Over all text → TakesLine stands.reading says old.feeder new out out' (Err why) → CountsTo why Over old.feeder.core.config all new.core.history new.reads
taken_counts Over text all old new out out' (halt.Line place) stands says is ends h = absurd h.goes.went
taken_counts Over text all old new out out' halt.Quit stands says is ends h = absurd h.goes.went
taken_counts Over text all old new out out' halt.Full stands says is ends h =
    let full = h.goes.went in
    let within : IsFront new.core.history (old.feeder.core.history ++ (line_given stands.reading says).entries) = record { behind = full.next ∷ full.behind; joined = full.joined } in
    record {
      taken = text;
      marks = record {
        stopped = line_stopped Over text all old new.core stands says is ends h.goes.grows within;
        ends = ends;
        next = omega (arith, ap length (text_entries text old stands says is), ap length full.joined, length-append new.core.history (full.next ∷ full.behind));
      };
      read = line_read text old stands says new.reads is h.counts;
    }
taken_counts Over text all old new out out' halt.Write stands says is ends h = record {
  taken = text;
  marks = record {
    stopped = line_stopped Over text all old new.core stands says is ends h.goes.grows h.goes.went;
    ends = ends;
    last = omega (arith, before_count text old stands, h.goes.wrote refl);
  };
  read = line_read text old stands says new.reads is h.counts;
}
taken_counts Over text all old new out out' halt.NoMemory stands says is ends h = elim h.counts [
  | inl adds ↦ record {
    taken = text;
    marks = line_stopped Over text all old new.core stands says is ends h.goes.grows h.goes.went;
    read = line_read text old stands says new.reads is adds;
  }
  | inr same ↦ stopped_before Over text all old new.core.history new.reads stands (ends_front Over text all ends) (ap (λ (v : CoreView). v.history) same.1) same.0
]

abbrev failed : Halt → Result (Unit {0}) Halt
failed why = Err why

abbrev refused_at : ℕ → Result Line ℕ
refused_at place = Err place

-- why the reader stopped at a line that was taken: what was done with it halted, or it was done and ends the run
pub stopped_cases : (quits : Bool) (taken : Result (Unit {0}) Halt) (why : Halt) → failed why ≡ (if quits then quit_behind taken else taken) → (taken ≡ failed why) ⊎ ((quits ≡ true) × (taken ≡ Ok tt) × (why ≡ halt.Quit))
stopped_cases true (Ok done) why e = inr (refl, refl, cc e)
stopped_cases true (Err w) why e = inl (sym e)
stopped_cases false taken why e = inl (sym e)

-- behind the line that ends the run nothing is read
quit_counts : (Over : Type 0) (text all : List ℕ) (old : ReaderView) (new : FeederView) (out out' : SinkView) (stands : Stands text old) (lines : List (List ℕ)) (says : Line) → feed_line_of old.line ≡ Ok says → is_quit says ≡ true → ((session : ℕ) → session_in old.feeder.core.config all session ≡ session_in old.feeder.core.config stands.whole session + lines_bytes_in stands.reading (old.line ∷ lines) session) → TakesLine stands.reading says old.feeder new out out' (Ok tt) → CountsTo halt.Quit Over old.feeder.core.config all new.core.history new.reads
quit_counts Over text all old new out out' stands lines says is quits goes h = record {
  taken = all;
  marks = refl;
  read = λ session.
      let here : lines_bytes_in stands.reading (old.line ∷ lines) session ≡ line_bytes_in stands.reading says session + 0 =
      ap (λ (o : Result Line ℕ). line_and_more stands.reading o session (λ next. lines_bytes_in next lines session)) is
      ∙ ap (λ (b : Bool). line_bytes_in stands.reading says session + (if b then 0 else lines_bytes_in (reading_after stands.reading says) lines session)) quits in
      let same : session_in old.feeder.core.config stands.whole session + line_bytes_in stands.reading says session ≡ session_in old.feeder.core.config all session = omega (arith, goes session, here) in
      h.counts (session_in old.feeder.core.config stands.whole) stands.read session ∙ ap counted same;
}

refused_counts : (Over : Type 0) (text all : List ℕ) (old : ReaderView) (new : FeederView) (why : Halt) (stands : Stands text old) (lines : List (List ℕ)) → LineEnded Over all text → ((session : ℕ) → session_in old.feeder.core.config all session ≡ session_in old.feeder.core.config stands.whole session + lines_bytes_in stands.reading (old.line ∷ lines) session) → (place : ℕ) → feed_line_of old.line ≡ Err place → (failed why ≡ failed (halt.Line place)) ⊎ (failed why ≡ failed halt.NoMemory) → new.core.history ≡ old.feeder.core.history → new.reads ≡ old.feeder.reads → CountsTo why Over old.feeder.core.config all new.core.history new.reads
refused_counts Over text all old new (halt.Line here) stands lines ends goes place outside refused history reads =
    stopped_outside Over text all here old new.core.history new.reads stands old.line lines goes place outside reads
refused_counts Over text all old new halt.NoMemory stands lines ends goes place outside refused history reads =
    stopped_before Over text all old new.core.history new.reads stands (ends_front Over text all ends) history reads
refused_counts Over text all old new halt.Full stands lines ends goes place outside refused history reads =
    absurd (elim refused [ inl e ↦ cc | inr e ↦ cc ])
refused_counts Over text all old new halt.Quit stands lines ends goes place outside refused history reads =
    absurd (elim refused [ inl e ↦ cc | inr e ↦ cc ])
refused_counts Over text all old new halt.Write stands lines ends goes place outside refused history reads =
    absurd (elim refused [ inl e ↦ cc | inr e ↦ cc ])

counts_by : (Over : Type 0) (text all : List ℕ) (old : ReaderView) (new : FeederView) (out out' : SinkView) (why : Halt) (stands : Stands text old) (lines : List (List ℕ)) (says : Result Line ℕ) → feed_line_of old.line ≡ says → LineEnded Over all text → ((session : ℕ) → session_in old.feeder.core.config all session ≡ session_in old.feeder.core.config stands.whole session + lines_bytes_in stands.reading (old.line ∷ lines) session) → TreatsLine stands.reading says old.feeder new out out' (Err why) → CountsTo why Over old.feeder.core.config all new.core.history new.reads
counts_by Over text all old new out out' why stands lines (Err place) is ends goes h =
    refused_counts Over text all old new why stands lines ends goes place is h.refused (ap (λ (v : CoreView). v.history) h.core_stays) h.reads_stay
counts_by Over text all old new out out' why stands lines (Ok says) is ends goes h = elim (stopped_cases (is_quit says) h.0 why h.1) [
  | inl halts ↦ taken_counts Over text all old new out out' why stands says is ends (subst (λ (taken : Result (Unit {0}) Halt). TakesLine stands.reading says old.feeder new out out' taken) halts h.2)
  | inr quits ↦ subst (λ (w : Halt). CountsTo w Over old.feeder.core.config all new.core.history new.reads) (sym quits.2)
      (quit_counts Over text all old new out out' stands lines says is quits.0 goes (subst (λ (taken : Result (Unit {0}) Halt). TakesLine stands.reading says old.feeder new out out' taken) quits.1 h.2))
]

-- The last line stopped the reader, whatever follows it.
pub line_counts : (Over : Type 0) (text all : List ℕ) (old : ReaderView) (new : FeederView) (out out' : SinkView) (why : Halt) (stands : Stands text old) (lines : List (List ℕ)) → LineEnded Over all text → ((session : ℕ) → session_in old.feeder.core.config all session ≡ session_in old.feeder.core.config stands.whole session + lines_bytes_in stands.reading (old.line ∷ lines) session) → TreatsLine stands.reading (feed_line_of old.line) old.feeder new out out' (Err why) → CountsTo why Over old.feeder.core.config all new.core.history new.reads
line_counts Over text all old new out out' why stands lines ends goes h =
    counts_by Over text all old new out out' why stands lines (feed_line_of old.line) refl ends goes h

-- ---- what the lines gave that have ended

went_within : (core core' : CoreView) (given : Given) (why : Halt) → WentOn core core' given (Err why) → IsFront core'.history (core.history ++ given.entries)
went_within core core' given (halt.Line place) went = absurd went
went_within core core' given halt.Quit went = absurd went
went_within core core' given halt.Full went = record { behind = went.next ∷ went.behind; joined = went.joined }
went_within core core' given halt.Write went = went
went_within core core' given halt.NoMemory went = went

gives_by : (Over : Type 0) (text all : List ℕ) (old : ReaderView) (new : FeederView) (out out' : SinkView) (why : Halt) (stands : Stands text old) (says : Result Line ℕ) → feed_line_of old.line ≡ says → LineEnded Over all text → TreatsLine stands.reading says old.feeder new out out' (Err why) → GivenBy Over old.feeder.core.config all new.core.history
gives_by Over text all old new out out' why stands (Err place) is ends h =
    given_before Over text all old new.core.history stands (ends_front Over text all ends) (ap (λ (v : CoreView). v.history) h.core_stays)
gives_by Over text all old new out out' why stands (Ok says) is ends h = (
  text,
  line_ended Over text all ends,
  line_within text old new.core.history stands says is (elim (stopped_cases (is_quit says) h.0 why h.1) [
    | inl halts ↦ went_within old.feeder.core new.core (line_given stands.reading says) why (subst (λ (taken : Result (Unit {0}) Halt). TakesLine stands.reading says old.feeder new out out' taken) halts h.2).goes.went
    | inr quits ↦ IsFront-same new.core.history (old.feeder.core.history ++ (line_given stands.reading says).entries) (sym (subst (λ (taken : Result (Unit {0}) Halt). TakesLine stands.reading says old.feeder new out out' taken) quits.1 h.2).goes.went.0)
  ]),
)

pub line_gives : (Over : Type 0) (text all : List ℕ) (old : ReaderView) (new : FeederView) (out out' : SinkView) (why : Halt) (stands : Stands text old) → LineEnded Over all text → TreatsLine stands.reading (feed_line_of old.line) old.feeder new out out' (Err why) → GivenBy Over old.feeder.core.config all new.core.history
line_gives Over text all old new out out' why stands ends h = gives_by Over text all old new out out' why stands (feed_line_of old.line) refl ends h

-- an empty line skips
empty_skips : (line : List ℕ) → line ≡ [] → feed_line_of line ≡ Ok Skip
empty_skips line e = ap feed_line_of e ∙ empty_line

-- a line outside the grammar is not empty, nor is one that ends the run
not_empty : (line : List ℕ) (says : Result Line ℕ) → feed_line_of line ≡ says → says ≢ Ok Skip → line ≢ []
not_empty line says is other = λ e. other (sym is ∙ empty_skips line e)

other_place : (place : ℕ) → refused_at place ≢ Ok Skip
other_place place = λ e. cc e

other_quit : (says : Line) → is_quit says ≡ true → said_so says ≢ Ok Skip
other_quit says quits = λ e. let same : says ≡ Skip = cc e in let no : false ≡ true = sym (ap is_quit same) ∙ quits in cc no

-- so it is the last
last_number : (text : List ℕ) (reader : ReaderView) (stands : Stands text reader) → reader.line ≢ [] → length (lines_of text) ≡ reader.number
last_number text reader stands some =
    let all = ap (λ (t : List ℕ). length (lines_of t)) stands.text_is in
    let last = ap length (last_line reader.line stands.line some) in
    omega (arith, all, last, stands.count reader.line)

at_by : (Over : Type 0) (text all : List ℕ) (old : ReaderView) (new : FeederView) (out out' : SinkView) (why : Halt) (stands : Stands text old) (says : Result Line ℕ) → feed_line_of old.line ≡ says → LineEnded Over all text → TreatsLine stands.reading says old.feeder new out out' (Err why) → AtLine why Over all old.number
at_by Over text all old new out out' (halt.Line here) stands (Err place) is ends h = (text, ends, last_number text old stands (not_empty old.line (Err place) is (other_place place)))
at_by Over text all old new out out' (halt.Line here) stands (Ok says) is ends h = absurd (elim (stopped_cases (is_quit says) h.0 (halt.Line here) h.1) [
  | inl halts ↦ (subst (λ (taken : Result (Unit {0}) Halt). TakesLine stands.reading says old.feeder new out out' taken) halts h.2).goes.went
  | inr quits ↦ cc (quits.2)
])
at_by Over text all old new out out' halt.Quit stands (Err place) is ends h = absurd (elim h.refused [ inl e ↦ cc | inr e ↦ cc ])
at_by Over text all old new out out' halt.Quit stands (Ok says) is ends h = elim (stopped_cases (is_quit says) h.0 halt.Quit h.1) [
  | inl halts ↦ absurd ((subst (λ (taken : Result (Unit {0}) Halt). TakesLine stands.reading says old.feeder new out out' taken) halts h.2).goes.went)
  | inr quits ↦ (text, ends, last_number text old stands (not_empty old.line (Ok says) is (other_quit says quits.0)))
]
at_by Over text all old new out out' halt.Full stands says is ends h = tt
at_by Over text all old new out out' halt.Write stands says is ends h = tt
at_by Over text all old new out out' halt.NoMemory stands says is ends h = tt

-- where the last line is outside the grammar it has ended, and its number is told
pub line_at : (Over : Type 0) (text all : List ℕ) (old : ReaderView) (new : FeederView) (out out' : SinkView) (why : Halt) (stands : Stands text old) → LineEnded Over all text → TreatsLine stands.reading (feed_line_of old.line) old.feeder new out out' (Err why) → AtLine why Over all old.number
line_at Over text all old new out out' why stands ends h = at_by Over text all old new out out' why stands (feed_line_of old.line) refl ends h

-- ---- what is known of the end of the text

ended_known : (P Q : Type 0) → (P → Q) → (text taken : List ℕ) → LineEnded P text taken → LineEnded Q text taken
ended_known P Q known text taken (inl feed) = inl feed
ended_known P Q known text taken (inr (inl long)) = inr (inl long)
ended_known P Q known text taken (inr (inr over)) = inr (inr (over.0, known over.1))

lines_known : (P Q : Type 0) → (P → Q) → (text taken : List ℕ) → EndedLines P text taken → EndedLines Q text taken
lines_known P Q known text taken h = record {
  front = h.front;
  ends = elim h.ends [ inl whole ↦ inl whole | inr ends ↦ inr (ended_known P Q known text taken ends) ];
}

stopped_known : (P Q : Type 0) → (P → Q) → (c : Config) (text : List ℕ) (history : List Entry) (taken : List ℕ) → StoppedIn P c text history taken → StoppedIn Q c text history taken
stopped_known P Q known c text history taken h = record { lines = lines_known P Q known text taken h.lines; before = h.before; within = h.within }

marks_known : (P Q : Type 0) → (P → Q) → (why : Halt) (c : Config) (text : List ℕ) (history : List Entry) (taken : List ℕ) → TakenTo why P c text history taken → TakenTo why Q c text history taken
marks_known P Q known (halt.Line place) c text history taken h = h
marks_known P Q known halt.Quit c text history taken h = h
marks_known P Q known halt.Full c text history taken h = record { stopped = stopped_known P Q known c text history taken h.stopped; ends = ended_known P Q known text taken h.ends; next = h.next }
marks_known P Q known halt.Write c text history taken h = record { stopped = stopped_known P Q known c text history taken h.stopped; ends = ended_known P Q known text taken h.ends; last = h.last }
marks_known P Q known halt.NoMemory c text history taken h = stopped_known P Q known c text history taken h

at_known : (P Q : Type 0) → (P → Q) → (why : Halt) (text : List ℕ) (number : ℕ) → AtLine why P text number → AtLine why Q text number
at_known P Q known (halt.Line place) text number h = (h.0, ended_known P Q known text h.0 h.1, h.2)
at_known P Q known halt.Quit text number h = (h.0, ended_known P Q known text h.0 h.1, h.2)
at_known P Q known halt.Full text number h = tt
at_known P Q known halt.Write text number h = tt
at_known P Q known halt.NoMemory text number h = tt

pub StopsAt-known : (P Q : Type 0) → (P → Q) → (text : List ℕ) (reader : ReaderView) (why : Halt) → StopsAt P text reader why → StopsAt Q text reader why
StopsAt-known P Q known text reader why h = record {
  told = h.told;
  at_line = at_known P Q known why text reader.number h.at_line;
  given = (h.given.0, lines_known P Q known text h.given.0 h.given.1, h.given.2);
  counts = record { taken = h.counts.taken; marks = marks_known P Q known why reader.feeder.core.config text reader.feeder.core.history h.counts.taken h.counts.marks; read = h.counts.read };
}
