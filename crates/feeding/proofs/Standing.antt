-- The reader of a text, part by part.
use Rattle.std.proofs.Common.{◌≡◌, ◌≢◌, ◌⊎◌, inl, inr, ℕ, ◌+◌, ◌<◌, List, [], ◌∷◌, ◌++◌, length, Bool, true, false, if◌then◌else◌, Option, Result, Ok, Err, refl, sym, ◌∙◌, ap, subst, append_assoc, arith, length-append}
use Rattle.std.specs.Prelude.{⊤}
use Rattle.std.proofs.lemmas.List.{append-nil}
use Rattle.text_lines.specs.Lines.{IsOneLine, lines_of, whole_lines}
use Rattle.text_lines.proofs.Lines.{IsOneLine-both, first-long, lines-line, whole-feed, whole-none, last_line}
use Rattle.tool_events.specs.declared.entry.Entry.{Entry}
use Rattle.tool_events.specs.declared.config.Config.{Config}
use Rattle.line_grammar.specs.Texts.{IsFront, IsLong, is_quit}
use Rattle.line_grammar.specs.declared.line.Line.{Line}
use Rattle.line_grammar.specs.Reading.{feed_line_of, line_bytes}
use Rattle.line_grammar.proofs.Public.{long_line as too-long}
use Rattle.gem_model.specs.Feed.{Given, Reading, Told, AllRead, OutsideGrammar, QuitAt, line_given, line_told, told_behind, feed_lines, feed_entries, reading_after, first_reading}
use Rattle.gem_model.specs.Sizes.{counted}
use Rattle.gem_model.specs.SessionBytes.{line_and_more, line_bytes_in, lines_bytes_in, session_in}
use Rattle.history_parts.specs.Counts.{count_of}
use Rattle.history_parts.specs.CoreView.{CoreView}
use Rattle.line_feeding.specs.declared.halt.Halt.{Halt}
use Rattle.line_feeding.specs.declared.halt.Halt.TheVariants as halt
use Rattle.feeding.specs.Views.{FeederView, ReaderView}
use Rattle.driving.specs.Limits.{IsFullAt}
use Rattle.line_feeding.specs.Going.{SinkView, WentOn, Shows, ShowsAtEnd, Goes}
use Rattle.line_feeding.specs.Reads.{AreCounts, HaveRead}
use Rattle.feeding.specs.Reading.{IsReading, TakesLine, TreatsLine}
use Rattle.line_feeding.specs.Quitting.{quit_behind}
use Rattle.line_feeding.specs.Stopping.{GivenBy, CountsTo}
use Rattle.feeding.specs.Standing.{Stands, StoppedAs, StopsAt, AllTaken, Prints, StandsOrStopped, Takes, AllOrStopped}
use Rattle.driving.proofs.Fronts.{IsFront-append}
use Rattle.line_feeding.proofs.Going.{Failed-wider, stay_then}
use Rattle.outside.proofs.Writing.{WrittenFront-all}
use Rattle.feeding.proofs.AtText.{text_goes, at_end, text_in}
use Rattle.feeding.proofs.Stopping.{stopped_before, given_before, stopped_outside, line_at, line_gives, line_counts, stopped_cases}

-- ---- the output

pub Prints-goes : (core core' : CoreView) (out out' : SinkView) (given : Given) (result : Result (Unit {0}) Halt) → Goes core core' out out' given result → Prints core core' out out' result
Prints-goes core core' out out' given result h = record { config = h.config; shows = h.shows; cause = h.cause; unfailed = h.unfailed; faults_stay = h.faults_stay; refusals_stay = h.refusals_stay }

shows_stays : (start : Option (List ℕ)) (core : CoreView) (out : SinkView) (result : Result (Unit {0}) Halt) → Shows start out core → ShowsAtEnd start out core result
shows_stays start core out (Ok done) h = h
shows_stays start core out (Err (halt.Line place)) h = h
shows_stays start core out (Err halt.Full) h = h
shows_stays start core out (Err halt.Quit) h = h
shows_stays start core out (Err halt.Write) h = WrittenFront-all start out.held _ h
shows_stays start core out (Err halt.NoMemory) h = WrittenFront-all start out.held _ h

-- nothing was printed, and the history stays
pub Prints-stays : (core : CoreView) (out : SinkView) (result : Result (Unit {0}) Halt) → (result ≢ Err halt.Write) → Prints core core out out result
Prints-stays core out result other = record {
  config = refl;
  shows = λ start h. shows_stays start core out result h;
  cause = λ e. absurd (other e);
  unfailed = λ _. (refl, refl);
  faults_stay = omega arith;
  refusals_stay = omega arith;
}

refused_not_write : (place : ℕ) (result : Result (Unit {0}) Halt) → (result ≡ Err (halt.Line place)) ⊎ (result ≡ Err halt.NoMemory) → result ≢ Err halt.Write
refused_not_write place result (inl line) = λ e. cc
refused_not_write place result (inr memory) = λ e. cc

-- what ends the run prints as what goes on
Prints-quit : (core core' : CoreView) (out out' : SinkView) → Prints core core' out out' (Ok tt) → Prints core core' out out' (Err halt.Quit)
Prints-quit core core' out out' h = record {
  config = h.config;
  shows = λ start shows. h.shows start shows;
  cause = λ e. absurd (cc);
  unfailed = λ _. h.unfailed (λ e. cc);
  faults_stay = h.faults_stay;
  refusals_stay = h.refusals_stay;
}

Prints-told : (core core' : CoreView) (out out' : SinkView) (quits : Bool) (taken : Result (Unit {0}) Halt) → Prints core core' out out' taken → Prints core core' out out' (if quits then quit_behind taken else taken)
Prints-told core core' out out' true (Ok done) h = Prints-quit core core' out out' h
Prints-told core core' out out' true (Err why) h = h
Prints-told core core' out out' false taken h = h

pub Prints-line : (r : Reading) (line : Result Line ℕ) (old new : FeederView) (out out' : SinkView) (result : Result (Unit {0}) Halt) → TreatsLine r line old new out out' result → Prints old.core new.core out out' result
Prints-line r (Err place) old new out out' result h =
    rw (h.core_stays, h.out_stays) (Prints-stays old.core out result (refused_not_write place result h.refused))
Prints-line r (Ok line) old new out out' result h =
    subst (λ (told : Result (Unit {0}) Halt). Prints old.core new.core out out' told) (sym h.1)
    (Prints-told old.core new.core out out' (is_quit line) h.0 (Prints-goes old.core new.core out out' (line_given r line) h.0 h.2.goes))

-- ---- one line

-- the configuration stays
line_config : (r : Reading) (line : Result Line ℕ) (old new : FeederView) (out out' : SinkView) (result : Result (Unit {0}) Halt) → TreatsLine r line old new out out' result → new.core.config ≡ old.core.config
line_config r (Err place) old new out out' result h = ap (λ (c : CoreView). c.config) h.core_stays
line_config r (Ok line) old new out out' result h = h.2.goes.config

abbrev done_all : Result (Unit {0}) Halt
done_all = Ok tt

-- after a line the history has what it gave, its bytes are counted, and the next line goes on
pub record Took (number : ℕ) (r : Reading) (line : List ℕ) (old new : FeederView) : Type 0 where
  pub next : Reading
  pub bytes : ℕ → ℕ
  pub reads_on : (lines : List (List ℕ)) (session : ℕ) → lines_bytes_in r (line ∷ lines) session ≡ bytes session + lines_bytes_in next lines session
  pub counts : (before : ℕ → ℕ) → AreCounts old.reads before → AreCounts new.reads (λ session. before session + bytes session)
  pub goes_on : (lines : List (List ℕ)) → told_behind old.core.history (feed_lines number r (line ∷ lines)) ≡ told_behind new.core.history (feed_lines (number + 1) next lines)
  pub is : IsReading next new.core new.cutter

behind_told : (front back : List Entry) (told : Told) (history : List Entry) → history ≡ front ++ back → told_behind front (told_behind back told) ≡ told_behind history told
behind_told front back told history is =
    ap (λ (es : List Entry). record told { entries = es }) (sym (append_assoc front back told.entries) ∙ ap (λ (es : List Entry). es ++ told.entries) (sym is))

-- nothing more is told behind the line of this number, which ends the run
abbrev told_quit : ℕ → Told
told_quit number = record { entries = []; stop = QuitAt number }

-- a line that goes on doesn't end the run
goes_on_cases : (quits : Bool) (taken : Result (Unit {0}) Halt) → done_all ≡ (if quits then quit_behind taken else taken) → (quits ≡ false) × (taken ≡ done_all)
goes_on_cases true (Ok done) e = absurd (cc e)
goes_on_cases true (Err why) e = absurd (cc e)
goes_on_cases false taken e = (refl, sym e)

-- what a line gives comes first
line_begins : (number : ℕ) (r : Reading) (line : Line) (more : Reading → Told) → IsFront (line_given r line).entries (line_told number r (Ok line) more).entries
line_begins number r line more = record { behind = (if is_quit line then told_quit number else more (reading_after r line)).entries; joined = refl }

took_on : (number : ℕ) (r : Reading) (line : List ℕ) (says : Line) → feed_line_of line ≡ Ok says → is_quit says ≡ false → (old new : FeederView) (out out' : SinkView) → TakesLine r says old new out out' (Ok tt) → Took number r line old new
took_on number r line says is on old new out out' h = record {
  next = reading_after r says;
  bytes = line_bytes_in r says;
  reads_on = λ lines session.
      ap (λ (o : Result Line ℕ). line_and_more r o session (λ next. lines_bytes_in next lines session)) is
      ∙ ap (λ (b : Bool). line_bytes_in r says session + (if b then 0 else lines_bytes_in (reading_after r says) lines session)) on;
  counts = h.counts;
  goes_on = λ lines.
      ap (told_behind old.core.history) (ap (λ (o : Result Line ℕ). line_told number r o (λ next. feed_lines (number + 1) next lines)) is
      ∙ ap (λ (b : Bool). told_behind (line_given r says).entries (if b then told_quit number else feed_lines (number + 1) (reading_after r says) lines)) on)
      ∙ behind_told old.core.history (line_given r says).entries (feed_lines (number + 1) (reading_after r says) lines) new.core.history h.goes.went.0;
  is = h.reading;
}

took_by : (number : ℕ) (r : Reading) (line : List ℕ) (says : Result Line ℕ) → feed_line_of line ≡ says → (old new : FeederView) (out out' : SinkView) → TreatsLine r says old new out out' (Ok tt) → Took number r line old new
took_by number r line (Err place) is old new out out' h = absurd (elim h.refused [ inl e ↦ cc | inr e ↦ cc ])
took_by number r line (Ok says) is old new out out' h =
    let cases = goes_on_cases (is_quit says) h.0 h.1 in
    took_on number r line says is cases.0 old new out out' (subst (λ (taken : Result (Unit {0}) Halt). TakesLine r says old new out out' taken) cases.1 h.2)

pub took : (number : ℕ) (r : Reading) (line : List ℕ) (old new : FeederView) (out out' : SinkView) → TreatsLine r (feed_line_of line) old new out out' (Ok tt) → Took number r line old new
took number r line old new out out' h = took_by number r line (feed_line_of line) refl old new out out' h

abbrev more_lines : ℕ → List (List ℕ) → Reading → Told
more_lines number lines next = feed_lines (number + 1) next lines

said : (number : ℕ) (r : Reading) (line : List ℕ) (lines : List (List ℕ)) (says : Result Line ℕ) → feed_line_of line ≡ says → feed_lines number r (line ∷ lines) ≡ line_told number r says (more_lines number lines)
said number r line lines says is = ap (λ (o : Result Line ℕ). line_told number r o (more_lines number lines)) is

abbrev failed : Halt → Result (Unit {0}) Halt
failed why = Err why

refused_stops : (c : Config) (number place : ℕ) (history history' : List Entry) (why : Halt) (more : Told) → (failed why ≡ failed (halt.Line place)) ⊎ (failed why ≡ failed halt.NoMemory) → history' ≡ history → more ≡ record { entries = []; stop = OutsideGrammar number place } → StoppedAs c (told_behind history more) history' number why
refused_stops c number place history history' (halt.Line here) more (inl e) stays is =
    let same : place ≡ here = cc e in
    ap (told_behind history) is ∙ ap (λ (es : List Entry). record { entries = es; stop = OutsideGrammar number place }) (append-nil history ∙ sym stays) ∙ ap (λ (p : ℕ). record { entries = history'; stop = OutsideGrammar number p }) same
refused_stops c number place history history' (halt.Line here) more (inr e) stays is = absurd (cc)
refused_stops c number place history history' halt.Full more (inl e) stays is = absurd (cc)
refused_stops c number place history history' halt.Full more (inr e) stays is = absurd (cc)
refused_stops c number place history history' halt.Quit more (inl e) stays is = absurd (cc)
refused_stops c number place history history' halt.Quit more (inr e) stays is = absurd (cc)
refused_stops c number place history history' halt.Write more (inl e) stays is = absurd (cc)
refused_stops c number place history history' halt.Write more (inr e) stays is = absurd (cc)
refused_stops c number place history history' halt.NoMemory more e stays is = rw stays (IsFront-append history more.entries)

front_wider : (front history given : List Entry) (told : Told) → IsFront given told.entries → IsFront front (history ++ given) → IsFront front (told_behind history told).entries
front_wider front history given told begins h =
    let all : told.entries ≡ given ++ begins.behind = begins.joined in
    record {
      behind = h.behind ++ begins.behind;
      joined = ap (λ (es : List Entry). history ++ es) all ∙ sym (append_assoc history given begins.behind) ∙ ap (λ (es : List Entry). es ++ begins.behind) h.joined ∙ append_assoc front h.behind begins.behind;
    }

-- what the entries of a line leave out of the limits, all leave out
full_wider : (c : Config) (now history given : List Entry) (told : Told) → IsFront given told.entries → IsFullAt c now (history ++ given) → IsFullAt c now (told_behind history told).entries
full_wider c now history given told begins h =
    let all : told.entries ≡ given ++ begins.behind = begins.joined in
    record {
      next = h.next;
      behind = h.behind ++ begins.behind;
      joined = ap (λ (es : List Entry). history ++ es) all ∙ sym (append_assoc history given begins.behind) ∙ ap (λ (es : List Entry). es ++ begins.behind) h.joined ∙ append_assoc now (h.next ∷ h.behind) begins.behind;
      full = h.full;
    }

taken_stops : (number : ℕ) (r : Reading) (says : Line) (more : Reading → Told) (core core' : CoreView) (why : Halt) → WentOn core core' (line_given r says) (Err why) → StoppedAs core.config (told_behind core.history (line_told number r (Ok says) more)) core'.history number why
taken_stops number r says more core core' (halt.Line place) went = absurd went
taken_stops number r says more core core' halt.Quit went = absurd went
taken_stops number r says more core core' halt.Full went =
    full_wider core.config core'.history core.history (line_given r says).entries (line_told number r (Ok says) more) (line_begins number r says more) went
taken_stops number r says more core core' halt.Write went =
    front_wider core'.history core.history (line_given r says).entries (line_told number r (Ok says) more) (line_begins number r says more) went
taken_stops number r says more core core' halt.NoMemory went =
    front_wider core'.history core.history (line_given r says).entries (line_told number r (Ok says) more) (line_begins number r says more) went

-- the line that ends the run
quit_stops : (number : ℕ) (r : Reading) (says : Line) (more : Reading → Told) (core core' : CoreView) → is_quit says ≡ true → WentOn core core' (line_given r says) (Ok tt) → StoppedAs core.config (told_behind core.history (line_told number r (Ok says) more)) core'.history number halt.Quit
quit_stops number r says more core core' quits went =
    ap (λ (b : Bool). told_behind core.history (told_behind (line_given r says).entries (if b then told_quit number else more (reading_after r says)))) quits
    ∙ ap (λ (es : List Entry). record { entries = es; stop = QuitAt number })
    (ap (λ (es : List Entry). core.history ++ es) (append-nil (line_given r says).entries) ∙ sym went.0)

stopped_by : (number : ℕ) (r : Reading) (line : List ℕ) (says : Result Line ℕ) → feed_line_of line ≡ says → (old new : FeederView) (out out' : SinkView) (why : Halt) → TreatsLine r says old new out out' (Err why) → (lines : List (List ℕ)) → StoppedAs old.core.config (told_behind old.core.history (feed_lines number r (line ∷ lines))) new.core.history number why
stopped_by number r line (Err place) is old new out out' why h lines =
    refused_stops old.core.config number place old.core.history new.core.history why (feed_lines number r (line ∷ lines)) h.refused (ap (λ (c : CoreView). c.history) h.core_stays) (said number r line lines (Err place) is)
stopped_by number r line (Ok says) is old new out out' why h lines =
    rw (said number r line lines (Ok says) is) (elim (stopped_cases (is_quit says) h.0 why h.1) [
      | inl halts ↦ taken_stops number r says (more_lines number lines) old.core new.core why (subst (λ (taken : Result (Unit {0}) Halt). TakesLine r says old new out out' taken) halts h.2).goes.went
      | inr quits ↦ subst (λ (w : Halt). StoppedAs old.core.config (told_behind old.core.history (line_told number r (Ok says) (more_lines number lines))) new.core.history number w) (sym quits.2)
          (quit_stops number r says (more_lines number lines) old.core new.core quits.0 (subst (λ (taken : Result (Unit {0}) Halt). TakesLine r says old new out out' taken) quits.1 h.2).goes.went)
    ])

pub stopped : (number : ℕ) (r : Reading) (line : List ℕ) (old new : FeederView) (out out' : SinkView) (why : Halt) → TreatsLine r (feed_line_of line) old new out out' (Err why) → (lines : List (List ℕ)) → StoppedAs old.core.config (told_behind old.core.history (feed_lines number r (line ∷ lines))) new.core.history number why
stopped number r line old new out out' why h lines = stopped_by number r line (feed_line_of line) refl old new out out' why h lines

-- ---- the text

no_count : (session : ℕ) → count_of [] session ≡ 0
no_count session = grind arith

pub Stands-open : (c : Config) (reader : ReaderView) → reader.line ≡ [] → reader.number ≡ 1 → reader.feeder.core.history ≡ [] → reader.feeder.core.config ≡ c → IsReading (first_reading c) reader.feeder.core reader.feeder.cutter → reader.feeder.reads ≡ [] → Stands [] reader
Stands-open c reader line number history config is none = record {
  whole = [];
  reading = first_reading c;
  text_is = sym line;
  line = rw line refl;
  ends = λ part one. whole-none part one;
  count = λ more. rw number (omega arith);
  goes_on = λ more. rw (number, history, config) refl;
  is = is;
  read = λ session. rw none (no_count session);
  reads_on = λ more session. rw config (omega arith);
}

pub Stands-push : (text : List ℕ) (part : List ℕ) (old new : ReaderView) → IsOneLine part → Stands text old → new.line ≡ old.line ++ part → new.feeder ≡ old.feeder → new.number ≡ old.number → Stands (text ++ part) new
Stands-push text part old new one stands line feeder number = record {
  whole = stands.whole;
  reading = stands.reading;
  text_is = ap (λ (t : List ℕ). t ++ part) stands.text_is ∙ append_assoc stands.whole old.line part ∙ ap (λ (l : List ℕ). stands.whole ++ l) (sym line);
  line = rw line (IsOneLine-both old.line part stands.line one);
  ends = stands.ends;
  count = λ more. rw number (stands.count more);
  goes_on = λ more. ap (λ (f : FeederView). feed_entries f.core.config (stands.whole ++ more)) feeder ∙ stands.goes_on more ∙ ap (λ (n : ℕ). told_behind old.feeder.core.history (feed_lines n stands.reading (lines_of more))) (sym number) ∙ ap (λ (f : FeederView). told_behind f.core.history (feed_lines new.number stands.reading (lines_of more))) (sym feeder);
  is = subst (λ (f : FeederView). IsReading stands.reading f.core f.cutter) (sym feeder) stands.is;
  read = subst (λ (f : FeederView). HaveRead f.core.config stands.whole f.reads) (sym feeder) stands.read;
  reads_on = λ more session. subst (λ (f : FeederView). session_in f.core.config (stands.whole ++ more) session ≡ session_in f.core.config stands.whole session + lines_bytes_in stands.reading (lines_of more) session) (sym feeder) (stands.reads_on more session);
}

-- the text, and what follows it, goes on from the text
front_of : (text bytes more : List ℕ) → IsFront text ((text ++ bytes) ++ more)
front_of text bytes more = record { behind = bytes ++ more; joined = append_assoc text bytes more }

pub Stands-memory : (text bytes more : List ℕ) (reader : ReaderView) → Stands text reader → StopsAt ⊥ ((text ++ bytes) ++ more) reader halt.NoMemory
Stands-memory text bytes more reader stands =
    let goes = ap (feed_entries reader.feeder.core.config) (append_assoc text bytes more) ∙ text_goes text reader stands (bytes ++ more) in
    record {
      told = rw goes (IsFront-append reader.feeder.core.history _);
      at_line = tt;
      given = given_before ⊥ text ((text ++ bytes) ++ more) reader reader.feeder.core.history stands (front_of text bytes more) refl;
      counts = stopped_before ⊥ text ((text ++ bytes) ++ more) reader reader.feeder.core.history reader.feeder.reads stands (front_of text bytes more) refl refl;
    }

long_told : (number : ℕ) (r : Reading) (history : List Entry) (line : List ℕ) (lines : List (List ℕ)) → line_bytes < length line → told_behind history (feed_lines number r (line ∷ lines)) ≡ record { entries = history; stop = OutsideGrammar number line_bytes }
long_told number r history line lines long =
    ap (told_behind history) (said number r line lines (Err line_bytes) (too-long line long)) ∙ ap (λ (es : List Entry). record { entries = es; stop = OutsideGrammar number line_bytes }) (append-nil history)

long_text : (number : ℕ) (r : Reading) (history : List Entry) (front text : List ℕ) → IsOneLine front → line_bytes < length front → told_behind history (feed_lines number r (lines_of (front ++ text))) ≡ record { entries = history; stop = OutsideGrammar number line_bytes }
long_text number r history [] text one long = absurd (omega (arith, long))
long_text number r history (b ∷ front) text one long =
    let f = first-long b front text one in
    ap (λ (ls : List (List ℕ)). told_behind history (feed_lines number r ls)) f.lines ∙ long_told number r history f.first f.rest (omega (arith, f.long, long))

long_counts : (text all : List ℕ) (front rest : List ℕ) (reader : ReaderView) (stands : Stands text reader) → IsOneLine front → line_bytes < length front → ((session : ℕ) → session_in reader.feeder.core.config all session ≡ session_in reader.feeder.core.config stands.whole session + lines_bytes_in stands.reading (lines_of (front ++ rest)) session) → CountsTo (halt.Line line_bytes) ⊥ reader.feeder.core.config all reader.feeder.core.history reader.feeder.reads
long_counts text all [] rest reader stands one long goes = absurd (omega (arith, long))
long_counts text all (b ∷ front) rest reader stands one long goes =
    let f = first-long b front rest one in
    stopped_outside ⊥ text all line_bytes reader reader.feeder.core.history reader.feeder.reads stands f.first f.rest
    (λ session. goes session ∙ ap (λ (ls : List (List ℕ)). session_in reader.feeder.core.config stands.whole session + lines_bytes_in stands.reading ls session) f.lines)
    line_bytes (too-long f.first (omega (arith, f.long, long))) refl

long_text_is : (text : List ℕ) (part : List ℕ) (reader : ReaderView) (stands : Stands text reader) → text ++ part ≡ stands.whole ++ (reader.line ++ part)
long_text_is text part reader stands = ap (λ (t : List ℕ). t ++ part) stands.text_is ∙ append_assoc stands.whole reader.line part

long_line : (text : List ℕ) (part : List ℕ) (more : List ℕ) (reader : ReaderView) (stands : Stands text reader) → IsOneLine (reader.line ++ part) → line_bytes < length (reader.line ++ part) → IsLong ((text ++ part) ++ more) (text ++ part)
long_line text part more reader stands one size =
    let is = long_text_is text part reader stands in
    record {
      front = record { behind = more; joined = refl };
      line = reader.line ++ part;
      is = is ∙ ap (λ (t : List ℕ). t ++ (reader.line ++ part)) (sym (ap whole_lines is ∙ stands.ends (reader.line ++ part) one));
      long = size;
    }

long_number : (text : List ℕ) (part : List ℕ) (reader : ReaderView) (stands : Stands text reader) → IsOneLine (reader.line ++ part) → line_bytes < length (reader.line ++ part) → length (lines_of (text ++ part)) ≡ reader.number
long_number text part reader stands one size =
    let all = ap (λ (t : List ℕ). length (lines_of t)) (long_text_is text part reader stands) in
    let last = ap length (last_line (reader.line ++ part) one (λ e. absurd (omega (arith, ap length e, size)))) in
    omega (arith, all, last, stands.count (reader.line ++ part))

pub Stands-long : (text : List ℕ) (part : List ℕ) (more : List ℕ) (reader : ReaderView) → IsOneLine part → line_bytes < length reader.line + length part → Stands text reader → StopsAt ⊥ ((text ++ part) ++ more) reader (halt.Line line_bytes)
Stands-long text part more reader one-part long stands =
    let goes = ap (feed_entries reader.feeder.core.config) (append_assoc text part more) ∙ text_goes text reader stands (part ++ more) in
    let regrouped = ap (λ (t : List ℕ). told_behind reader.feeder.core.history (feed_lines reader.number stands.reading (lines_of t))) (sym (append_assoc reader.line part more)) in
    let size : line_bytes < length (reader.line ++ part) = omega (arith, length-append reader.line part, long) in
    let one = IsOneLine-both reader.line part stands.line one-part in
    record {
      told = goes ∙ regrouped ∙ long_text reader.number stands.reading reader.feeder.core.history (reader.line ++ part) more one size;
      at_line = (text ++ part, inr (inl (long_line text part more reader stands one size)), long_number text part reader stands one size);
      given = given_before ⊥ text ((text ++ part) ++ more) reader reader.feeder.core.history stands (front_of text part more) refl;
      counts = long_counts text ((text ++ part) ++ more) (reader.line ++ part) more reader stands one size
          (λ session. ap (λ (t : List ℕ). session_in reader.feeder.core.config t session) (append_assoc text part more)
          ∙ text_in text reader stands (part ++ more) session
          ∙ ap (λ (t : List ℕ). session_in reader.feeder.core.config stands.whole session + lines_bytes_in stands.reading (lines_of t) session) (sym (append_assoc reader.line part more)));
    }

-- a line feed comes
line_goes : (text more : List ℕ) (reader : ReaderView) (stands : Stands text reader) → feed_entries reader.feeder.core.config ((text ++ 10 ∷ []) ++ more) ≡ told_behind reader.feeder.core.history (feed_lines reader.number stands.reading (reader.line ∷ lines_of more))
line_goes text more reader stands =
    ap (feed_entries reader.feeder.core.config) (append_assoc text (10 ∷ []) more) ∙ text_goes text reader stands ((10 ∷ []) ++ more)
    ∙ ap (λ (ls : List (List ℕ)). told_behind reader.feeder.core.history (feed_lines reader.number stands.reading ls)) (lines-line reader.line more stands.line)

line_feed_in : (text more : List ℕ) (reader : ReaderView) (stands : Stands text reader) (session : ℕ) → session_in reader.feeder.core.config ((text ++ 10 ∷ []) ++ more) session ≡ session_in reader.feeder.core.config stands.whole session + lines_bytes_in stands.reading (reader.line ∷ lines_of more) session
line_feed_in text more reader stands session =
    ap (λ (t : List ℕ). session_in reader.feeder.core.config t session) (append_assoc text (10 ∷ []) more)
    ∙ text_in text reader stands ((10 ∷ []) ++ more) session
    ∙ ap (λ (ls : List (List ℕ)). session_in reader.feeder.core.config stands.whole session + lines_bytes_in stands.reading ls session) (lines-line reader.line more stands.line)

-- with its line feed the line is counted
line_feed_read : (text : List ℕ) (old : ReaderView) (new : FeederView) (stands : Stands text old) (one : Took old.number stands.reading old.line old.feeder new) (session : ℕ) → session_in old.feeder.core.config (text ++ 10 ∷ []) session ≡ session_in old.feeder.core.config stands.whole session + one.bytes session
line_feed_read text old new stands one session =
    ap (λ (t : List ℕ). session_in old.feeder.core.config t session) (sym (append-nil (text ++ 10 ∷ [])))
    ∙ line_feed_in text [] old stands session
    ∙ ap (λ (n : ℕ). session_in old.feeder.core.config stands.whole session + n) (one.reads_on [] session ∙ omega arith)

line_reads_on : (text more : List ℕ) (old : ReaderView) (new : FeederView) (stands : Stands text old) (one : Took old.number stands.reading old.line old.feeder new) (session : ℕ) → session_in old.feeder.core.config ((text ++ 10 ∷ []) ++ more) session ≡ session_in old.feeder.core.config (text ++ 10 ∷ []) session + lines_bytes_in one.next (lines_of more) session
line_reads_on text more old new stands one session =
    let all = line_feed_in text more old stands session in
    let here = line_feed_read text old new stands one session in
    let next = one.reads_on (lines_of more) session in
    omega (arith, all, here, next)

-- the line counts as one
line_count : (text more : List ℕ) (old : ReaderView) (stands : Stands text old) → length (lines_of ((text ++ 10 ∷ []) ++ more)) + 1 ≡ (old.number + 1) + length (lines_of more)
line_count text more old stands =
    let all = ap (λ (t : List ℕ). length (lines_of t)) (append_assoc text (10 ∷ []) more ∙ ap (λ (t : List ℕ). t ++ 10 ∷ more) stands.text_is ∙ append_assoc stands.whole old.line (10 ∷ more)) in
    let one = ap length (lines-line old.line more stands.line) in
    omega (arith, all, one, stands.count (old.line ++ 10 ∷ more))

pub Stands-line : (text : List ℕ) (old new : ReaderView) (out out' : SinkView) (stands : Stands text old) → TreatsLine stands.reading (feed_line_of old.line) old.feeder new.feeder out out' (Ok tt) → new.line ≡ [] → new.number ≡ old.number + 1 → Stands (text ++ 10 ∷ []) new
Stands-line text old new out out' stands treats line number =
    let one = took old.number stands.reading old.line old.feeder new.feeder out out' treats in
    record {
      whole = text ++ 10 ∷ [];
      reading = one.next;
      text_is = rw line (sym (append-nil (text ++ 10 ∷ [])));
      line = rw line refl;
      ends = λ part none. ap whole_lines (append_assoc text (10 ∷ []) part) ∙ whole-feed text part ∙ ap (λ (bs : List ℕ). text ++ 10 ∷ bs) (whole-none part none);
      count = λ more. rw number (line_count text more old stands);
      goes_on = λ more. ap (λ (c : Config). feed_entries c ((text ++ 10 ∷ []) ++ more)) (line_config stands.reading (feed_line_of old.line) old.feeder new.feeder out out' (Ok tt) treats) ∙ line_goes text more old stands ∙ one.goes_on (lines_of more) ∙ ap (λ (n : ℕ). told_behind new.feeder.core.history (feed_lines n one.next (lines_of more))) (sym number);
      is = one.is;
      read = subst (λ (c : Config). HaveRead c (text ++ 10 ∷ []) new.feeder.reads) (sym (line_config stands.reading (feed_line_of old.line) old.feeder new.feeder out out' (Ok tt) treats))
          (λ session. one.counts (session_in old.feeder.core.config stands.whole) stands.read session ∙ ap counted (sym (line_feed_read text old new.feeder stands one session)));
      reads_on = λ more session. subst (λ (c : Config). session_in c ((text ++ 10 ∷ []) ++ more) session ≡ session_in c (text ++ 10 ∷ []) session + lines_bytes_in one.next (lines_of more) session) (sym (line_config stands.reading (feed_line_of old.line) old.feeder new.feeder out out' (Ok tt) treats))
          (line_reads_on text more old new.feeder stands one session);
    }

pub Stands-line-stopped : (text more : List ℕ) (old new : ReaderView) (out out' : SinkView) (why : Halt) (stands : Stands text old) → TreatsLine stands.reading (feed_line_of old.line) old.feeder new.feeder out out' (Err why) → new.number ≡ old.number → StopsAt ⊥ ((text ++ 10 ∷ []) ++ more) new why
Stands-line-stopped text more old new out out' why stands treats number =
    let same = sym (line_config stands.reading (feed_line_of old.line) old.feeder new.feeder out out' (Err why) treats) in
    record {
      told = subst (λ (c : Config). StoppedAs c (feed_entries c ((text ++ 10 ∷ []) ++ more)) new.feeder.core.history new.number why) same
          (rw (line_goes text more old stands, number) (stopped old.number stands.reading old.line old.feeder new.feeder out out' why treats (lines_of more)));
      at_line = rw number (line_at ⊥ text ((text ++ 10 ∷ []) ++ more) old new.feeder out out' why stands (inl (more, append_assoc text (10 ∷ []) more)) treats);
      given = subst (λ (c : Config). GivenBy ⊥ c ((text ++ 10 ∷ []) ++ more) new.feeder.core.history) same
          (line_gives ⊥ text ((text ++ 10 ∷ []) ++ more) old new.feeder out out' why stands (inl (more, append_assoc text (10 ∷ []) more)) treats);
      counts = subst (λ (c : Config). CountsTo why ⊥ c ((text ++ 10 ∷ []) ++ more) new.feeder.core.history new.feeder.reads) same
          (line_counts ⊥ text ((text ++ 10 ∷ []) ++ more) old new.feeder out out' why stands (lines_of more) (inl (more, append_assoc text (10 ∷ []) more)) (line_feed_in text more old stands) treats);
    }

-- ---- the end of the text

-- nothing came of a last line
pub ends-empty : (text : List ℕ) (reader : ReaderView) → Stands text reader → reader.line ≡ [] → AllTaken text reader
ends-empty text reader stands none =
    let is : text ≡ stands.whole = stands.text_is ∙ ap (λ (t : List ℕ). stands.whole ++ t) none ∙ append-nil stands.whole in
    record {
      told = at_end text reader stands
          ∙ ap (λ (t : List ℕ). told_behind reader.feeder.core.history (feed_lines reader.number stands.reading (lines_of t))) none
          ∙ ap (λ (es : List Entry). record { entries = es; stop = AllRead }) (append-nil reader.feeder.core.history);
      read = subst (λ (t : List ℕ). HaveRead reader.feeder.core.config t reader.feeder.reads) (sym is) stands.read;
    }

-- the last line, which has no line feed, gives its bytes too
last_in : (text : List ℕ) (old : ReaderView) (stands : Stands text old) → old.line ≢ [] → (session : ℕ) → session_in old.feeder.core.config text session ≡ session_in old.feeder.core.config stands.whole session + lines_bytes_in stands.reading (old.line ∷ []) session
last_in text old stands some session =
    ap (λ (t : List ℕ). session_in old.feeder.core.config t session) (sym (append-nil text))
    ∙ text_in text old stands [] session
    ∙ ap (λ (t : List ℕ). session_in old.feeder.core.config stands.whole session + lines_bytes_in stands.reading (lines_of t) session) (append-nil old.line)
    ∙ ap (λ (ls : List (List ℕ)). session_in old.feeder.core.config stands.whole session + lines_bytes_in stands.reading ls session) (last_line old.line stands.line some)

pub ends-line : (text : List ℕ) (old : ReaderView) (new : FeederView) (out out' : SinkView) (result : Result (Unit {0}) Halt) (stands : Stands text old) → old.line ≢ [] → TreatsLine stands.reading (feed_line_of old.line) old.feeder new out out' result → AllOrStopped text (record { feeder = new; line = old.line; number = old.number }) result
ends-line text old new out out' (Ok done) stands some treats =
    let one = took old.number stands.reading old.line old.feeder new out out' treats in
    let same = line_config stands.reading (feed_line_of old.line) old.feeder new out out' (Ok tt) treats in
    record {
      told = ap (λ (c : Config). feed_entries c text) same
          ∙ at_end text old stands
          ∙ ap (λ (ls : List (List ℕ)). told_behind old.feeder.core.history (feed_lines old.number stands.reading ls)) (last_line old.line stands.line some)
          ∙ one.goes_on []
          ∙ ap (λ (es : List Entry). record { entries = es; stop = AllRead }) (append-nil new.core.history);
      read = subst (λ (c : Config). HaveRead c text new.reads) (sym same)
          (λ session. one.counts (session_in old.feeder.core.config stands.whole) stands.read session
          ∙ ap counted (sym (last_in text old stands some session ∙ ap (λ (n : ℕ). session_in old.feeder.core.config stands.whole session + n) (one.reads_on [] session ∙ omega arith))));
    }
ends-line text old new out out' (Err why) stands some treats =
    let same = sym (line_config stands.reading (feed_line_of old.line) old.feeder new out out' (Err why) treats) in
    record {
      told = subst (λ (c : Config). StoppedAs c (feed_entries c text) new.core.history old.number why) same
          (rw (at_end text old stands ∙ ap (λ (ls : List (List ℕ)). told_behind old.feeder.core.history (feed_lines old.number stands.reading ls)) (last_line old.line stands.line some))
          (stopped old.number stands.reading old.line old.feeder new out out' why treats []));
      at_line = line_at ⊤ text text old new out out' why stands (inr (inr (refl, tt))) treats;
      given = subst (λ (c : Config). GivenBy ⊤ c text new.core.history) same (line_gives ⊤ text text old new out out' why stands (inr (inr (refl, tt))) treats);
      counts = subst (λ (c : Config). CountsTo why ⊤ c text new.core.history new.reads) same
          (line_counts ⊤ text text old new out out' why stands [] (inr (inr (refl, tt))) (last_in text old stands some) treats);
    }

-- ---- one piece after another

pub Prints-then : (a b c : CoreView) (o1 o2 o3 : SinkView) (result : Result (Unit {0}) Halt) → Prints a b o1 o2 (Ok tt) → Prints b c o2 o3 result → Prints a c o1 o3 result
Prints-then a b c o1 o2 o3 result h i = record {
  config = i.config ∙ h.config;
  shows = λ start shows. i.shows start (h.shows start shows);
  cause = λ e. Failed-wider o1.faults o2.faults o3.faults o1.refusals o2.refusals o3.refusals h.faults_stay i.faults_stay h.refusals_stay i.refusals_stay (i.cause e);
  unfailed = λ other. stay_then o1 o2 o3 (h.unfailed (λ e. cc)) (i.unfailed other);
  faults_stay = omega (arith, h.faults_stay, i.faults_stay);
  refusals_stay = omega (arith, h.refusals_stay, i.refusals_stay);
}

stands_regrouped : (text front bytes : List ℕ) (reader : ReaderView) (result : Result (Unit {0}) Halt) → StandsOrStopped ((text ++ front) ++ bytes) reader result → StandsOrStopped (text ++ (front ++ bytes)) reader result
stands_regrouped text front bytes reader result h = subst (λ (t : List ℕ). StandsOrStopped t reader result) (append_assoc text front bytes) h

pub Takes-then : (text front bytes : List ℕ) (a b c : ReaderView) (o1 o2 o3 : SinkView) (result : Result (Unit {0}) Halt) → Takes text front a b o1 o2 (Ok tt) → Takes (text ++ front) bytes b c o2 o3 result → Takes text (front ++ bytes) a c o1 o3 result
Takes-then text front bytes a b c o1 o2 o3 result h i = record {
  stands = stands_regrouped text front bytes c result i.stands;
  prints = Prints-then a.feeder.core b.feeder.core c.feeder.core o1 o2 o3 result h.prints i.prints;
}

-- a reader that stopped has stopped whatever follows
pub Takes-stopped : (text front bytes : List ℕ) (a c : ReaderView) (o1 o3 : SinkView) (why : Halt) → Takes text front a c o1 o3 (Err why) → Takes text (front ++ bytes) a c o1 o3 (Err why)
Takes-stopped text front bytes a c o1 o3 why h = record {
  stands = λ more. subst (λ (t : List ℕ). StopsAt ⊥ t c why)
      (sym (append_assoc (text ++ front) bytes more) ∙ ap (λ (t : List ℕ). t ++ more) (append_assoc text front bytes))
      (h.stands (bytes ++ more));
  prints = h.prints;
}

pub Takes-nothing : (text : List ℕ) (reader : ReaderView) (out : SinkView) → Stands text reader → Takes text [] reader reader out out (Ok tt)
Takes-nothing text reader out stands = record {
  stands = subst (λ (t : List ℕ). Stands t reader) (sym (append-nil text)) stands;
  prints = Prints-stays reader.feeder.core out (Ok tt) (λ e. cc);
}

-- the whole lines of the text gave the history, and are counted
pub Stands-whole : (text : List ℕ) (reader : ReaderView) → Stands text reader → AllTaken (whole_lines text) reader
Stands-whole text reader stands =
    let is : whole_lines text ≡ stands.whole = ap whole_lines stands.text_is ∙ stands.ends reader.line stands.line in
    record {
      told = ap (feed_entries reader.feeder.core.config) (is ∙ sym (append-nil stands.whole))
          ∙ stands.goes_on []
          ∙ ap (λ (es : List Entry). record { entries = es; stop = AllRead }) (append-nil reader.feeder.core.history);
      read = subst (λ (t : List ℕ). HaveRead reader.feeder.core.config t reader.feeder.reads) (sym is) stands.read;
    }

-- the whole lines gave the history
pub Stands-given : (Over : Type 0) (text : List ℕ) (reader : ReaderView) → Stands text reader → GivenBy Over reader.feeder.core.config text reader.feeder.core.history
Stands-given Over text reader stands = given_before Over text text reader reader.feeder.core.history stands (record { behind = []; joined = sym (append-nil text) }) refl
