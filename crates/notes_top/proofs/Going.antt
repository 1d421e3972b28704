-- The lines of an input, one after another.
use Rattle.std.proofs.Common.{◌≡◌, inl, inr, ℕ, ◌+◌, ◌-◌, ◌<◌, ◌≤◌, List, [], ◌∷◌, ◌++◌, length, Bool, Result, Ok, Err, refl, sym, ◌∙◌, ap, subst, append_assoc, length-append, arith}
use Rattle.std.proofs.lemmas.List.{append-nil}
use Rattle.std.proofs.lemmas.Bool.{lt-ltb}
use Rattle.outside.specs.Told.{Taken}
use Rattle.text_lines.specs.Lines.{IsOneLine, lines_of, whole_lines}
use Rattle.text_lines.proofs.Lines.{lines-line, whole-feed}
use Rattle.line_grammar.specs.Reading.{line_bytes}
use Rattle.source_lines.specs.Limits.{source_bytes}
use Rattle.source_lines.specs.Reads.{LinesRead, SourceTold, NextLine}
use Rattle.source_lines.specs.declared.no_line.NoLine.{NoLine}
use Rattle.source_lines.specs.declared.no_line.NoLine.TheVariants as no_line
use Rattle.source_lines.proofs.Reading.{Taken-nothing, Taken-more, over_whole, IsOver-since}
use Rattle.notes_lines.specs.declared.line.SpoolLine.{SpoolLine}
use Rattle.notes_lines.specs.Reading.{spool_line_of}
use Rattle.notes_top.specs.Stages.{Stage, is_open, Does, Run}
use Rattle.notes_top.specs.Ran.{Splits, IsOver, IsNext}

-- ---- where the reader of lines stands: what it read, which whole lines that has, and what is kept behind them

pub record Going (source source' : SourceTold) (lines : LinesRead) (done : List (List ℕ)) : Type 0 where
  pub text : List ℕ
  pub taken : Taken source.left source'.left text
  pub size : lines.count ≡ length text
  pub within : lines.count ≤ source_bytes
  pub faults : source'.faults ≡ source.faults
  pub ends : source.ends ≤ source'.ends
  pub whole : List ℕ
  pub text_is : text ≡ whole ++ lines.kept
  pub lines_are : (more : List ℕ) → lines_of (whole ++ more) ≡ done ++ lines_of more
  pub wholes : (more : List ℕ) → whole_lines (whole ++ more) ≡ whole ++ whole_lines more
  pub numbered : length done + length lines.kept ≤ lines.count

pub Going-open : (source : SourceTold) → Going source source (record { line = []; kept = []; count = 0 }) []
Going-open source = record {
  text = [];
  taken = Taken-nothing source.left;
  size = refl;
  within = omega arith;
  faults = refl;
  ends = omega arith;
  whole = [];
  text_is = refl;
  lines_are = λ more. refl;
  wholes = λ more. refl;
  numbered = omega arith;
}

-- a text and more of it, by what is kept
pub text_on : (text kept whole more bytes : List ℕ) → text ≡ whole ++ kept → kept ++ more ≡ bytes → text ++ more ≡ whole ++ bytes
text_on text kept whole more bytes is joined = ap (λ (t : List ℕ). t ++ more) is ∙ append_assoc whole kept more ∙ ap (λ (t : List ℕ). whole ++ t) joined

line_first : (whole line more : List ℕ) → (whole ++ (line ++ 10 ∷ [])) ++ more ≡ whole ++ (line ++ 10 ∷ more)
line_first whole line more = append_assoc whole (line ++ 10 ∷ []) more ∙ ap (λ (t : List ℕ). whole ++ t) (append_assoc line (10 ∷ []) more)

-- behind a line
pub Going-line : (source source' source'' : SourceTold) (lines lines' : LinesRead) (done : List (List ℕ)) → Going source source' lines done → NextLine lines lines' source' source'' (Ok tt) → Going source source'' lines' (done ++ lines'.line ∷ [])
Going-line source source' source'' lines lines' done g next =
    let (is, one, fits) = next.gives in
    let line = lines'.line in
    let whole = g.whole ++ (line ++ 10 ∷ []) in
    record {
      text = g.text ++ next.more;
      taken = Taken-more source.left source'.left source''.left g.text next.more g.taken next.taken;
      size = omega (arith, length-append g.text next.more, next.count, g.size);
      within = next.within;
      faults = next.unfailed (λ e. cc e) ∙ g.faults;
      ends = omega (arith, g.ends, next.ends_stay);
      whole = whole;
      text_is = text_on g.text lines.kept g.whole next.more (line ++ 10 ∷ lines'.kept) g.text_is is ∙ sym (line_first g.whole line lines'.kept);
      lines_are = λ more.
          ap lines_of (line_first g.whole line more) ∙ g.lines_are (line ++ 10 ∷ more) ∙ ap (λ (ls : List (List ℕ)). done ++ ls) (lines-line line more one)
          ∙ sym (append_assoc done (line ∷ []) (lines_of more));
      wholes = λ more.
          ap whole_lines (line_first g.whole line more) ∙ g.wholes (line ++ 10 ∷ more) ∙ ap (λ (t : List ℕ). g.whole ++ t) (whole-feed line more)
          ∙ sym (line_first g.whole line (whole_lines more));
      numbered = omega (arith, ap length is, length-append lines.kept next.more, length-append line (10 ∷ lines'.kept), length-append done (line ∷ []), next.count, g.numbered);
    }

-- what is left to read and to take becomes less
pub Going-smaller : (source source' : SourceTold) (lines lines' : LinesRead) → NextLine lines lines' source source' (Ok tt) → (source_bytes - lines'.count) + length lines'.kept < (source_bytes - lines.count) + length lines.kept
Going-smaller source source' lines lines' next =
    let (is, one, fits) = next.gives in
    omega (arith, ap length is, length-append lines.kept next.more, length-append lines'.line (10 ∷ lines'.kept), next.count, next.within)

-- the number of a line is no greater than what was read
pub Going-number : (source source' : SourceTold) (lines : LinesRead) (done : List (List ℕ)) → Going source source' lines done → length done ≤ source_bytes
Going-number source source' lines done g = omega (arith, g.numbered, g.within)

-- ---- what was read, where no line is given any more

-- the whole lines and what stands behind them
pub splits : (source source' : SourceTold) (lines : LinesRead) (done : List (List ℕ)) (g : Going source source' lines done) (text behind : List ℕ) → text ≡ g.whole ++ behind → Splits text done behind
splits source source' lines done g text behind is = record {
  whole = g.whole;
  text_is = is;
  ended = ap whole_lines (sym (append-nil g.whole)) ∙ g.wholes [] ∙ append-nil g.whole;
  done_are = ap lines_of (sym (append-nil g.whole)) ∙ g.lines_are [] ∙ append-nil done;
}

-- a call for the next line, whatever it gives
pub record Asked (source source'' : SourceTold) (done : List (List ℕ)) : Type 0 where
  pub text : List ℕ
  pub taken : Taken source.left source''.left text
  pub behind : List ℕ
  pub splits : Splits text done behind

abbrev pub Asked-for : (source source' source'' : SourceTold) (lines lines' : LinesRead) (done : List (List ℕ)) (result : Result (Unit {0}) NoLine) → Going source source' lines done → NextLine lines lines' source' source'' result → Asked source source'' done
Asked-for source source' source'' lines lines' done result g next = record {
  text = g.text ++ next.more;
  taken = Taken-more source.left source'.left source''.left g.text next.more g.taken next.taken;
  behind = lines.kept ++ next.more;
  splits = splits source source' lines done g (g.text ++ next.more) (lines.kept ++ next.more) (text_on g.text lines.kept g.whole next.more (lines.kept ++ next.more) g.text_is refl);
}

-- a whole line was given
pub Asked-line : (source source' source'' : SourceTold) (lines lines' : LinesRead) (done : List (List ℕ)) (g : Going source source' lines done) (next : NextLine lines lines' source' source'' (Ok tt)) (Over : Type 0)
    → IsNext Over (Asked-for source source' source'' lines lines' done (Ok tt) g next).behind lines'.line
Asked-line source source' source'' lines lines' done g next Over = (next.gives.1, inl (lines'.kept, next.gives.0))

-- no more follows
pub Asked-over : (source source' source'' : SourceTold) (lines lines' : LinesRead) (done : List (List ℕ)) (g : Going source source' lines done) (next : NextLine lines lines' source' source'' (Err no_line.End))
    → IsOver source source'' (Asked-for source source' source'' lines lines' done (Err no_line.End) g next).text
Asked-over source source' source'' lines lines' done g next =
    let since = IsOver-since source source' source'' g.text g.taken g.ends next.ends_stay next.gives.1 in
    (over_whole source.left source''.left (g.text ++ next.more) (Taken-more source.left source'.left source''.left g.text next.more g.taken next.taken) since.0, since.1)

pub Asked-last : (source source' source'' : SourceTold) (lines lines' : LinesRead) (done : List (List ℕ)) (g : Going source source' lines done) (next : NextLine lines lines' source' source'' (Err no_line.End))
    → IsNext (IsOver source source'' (Asked-for source source' source'' lines lines' done (Err no_line.End) g next).text) (Asked-for source source' source'' lines lines' done (Err no_line.End) g next).behind lines'.line
Asked-last source source' source'' lines lines' done g next =
    let part = next.gives.0 in
    (subst IsOneLine (sym part.line) part.one, inr (inr (sym part.line, Asked-over source source' source'' lines lines' done g next)))

-- the line that is given is too long, whatever follows
pub Asked-long : (source source' source'' : SourceTold) (lines lines' : LinesRead) (done : List (List ℕ)) (g : Going source source' lines done) (next : NextLine lines lines' source' source'' (Err no_line.Long)) (Over : Type 0)
    → IsNext Over (Asked-for source source' source'' lines lines' done (Err no_line.Long) g next).behind next.gives.0
Asked-long source source' source'' lines lines' done g next Over =
    let (part, behind, is, one, long) = next.gives in (one, inr (inl (behind, is, long)))

-- a line that is too long is refused at the limit
pub long_line : (is_open : Bool) (line : List ℕ) → line_bytes < length line → spool_line_of is_open line ≡ Err line_bytes
unfolding spool_line_of
long_line is_open line long = rw (lt-ltb line_bytes (length line) long) refl

-- the lines of a text are those that are done and the last, which is empty where there is none
pub lines_last : (text : List ℕ) (done : List (List ℕ)) (behind : List ℕ) (source source' : SourceTold) (lines : LinesRead) (g : Going source source' lines done) → text ≡ g.whole ++ behind → lines_of text ≡ done ++ lines_of behind
lines_last text done behind source source' lines g is = ap lines_of is ∙ g.lines_are behind

-- ---- what was done

module _ (told : Type 0) (found : List ℕ) where
  -- one line more
  pub Run-more : (first : Stage) (done : List (List ℕ)) (printed : List ℕ) (stage : Stage) (line : List ℕ) (says : SpoolLine) (here : List ℕ) (next : Stage) → Run told found first done printed stage
      → spool_line_of (is_open stage) line ≡ Ok says → Does told found stage says here next → Run told found first (done ++ line ∷ []) (printed ++ here) next
  Run-more first [] printed stage line says here next (none, same) is does =
      (says, here, next, [], subst (λ (s : Stage). spool_line_of (is_open s) line ≡ Ok says) same is, subst (λ (s : Stage). Does told found s says here next) same does, (refl, refl), ap (λ (t : List ℕ). t ++ here) none ∙ sym (append-nil here))
  Run-more first (text ∷ done) printed stage line says here next (says0, here0, mid, more, is0, does0, run, joined) is does =
      (says0, here0, mid, more ++ here, is0, does0, Run-more mid done more stage line says here next run is does, ap (λ (t : List ℕ). t ++ here) joined ∙ append_assoc here0 more here)
