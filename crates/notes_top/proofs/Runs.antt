-- A run of `notes`, from its first line to its end.
use Rattle.std.proofs.Common.{◌≡◌, inl, inr, ℕ, ◌+◌, Bool, true, false, List, [], ◌∷◌, ◌++◌, length, Option, Result, Ok, Err, refl, sym, ◌∙◌, ap, subst, append_assoc, length-append, arith}
use Rattle.std.proofs.lemmas.List.{append-nil}
use Rattle.outside.specs.Counts.{Rose}
use Rattle.outside.specs.Told.{Written}
use Rattle.outside.proofs.Writing.{Written-nothing, Written-more, Written-same, Written-none-more, WrittenFront-more}
use Rattle.text_lines.specs.Lines.{IsOneLine, lines_of}
use Rattle.text_lines.proofs.Lines.{last_line}
use Rattle.line_grammar.specs.Reading.{line_bytes, end_at, from_space}
use Rattle.run_causes.specs.declared.cause.Cause.{Cause}
use Rattle.run_causes.specs.declared.cause.Cause.TheVariants as cause
use Rattle.source_lines.specs.Reads.{LinesRead, SourceTold, NextLine}
use Rattle.source_lines.specs.declared.no_line.NoLine.{NoLine}
use Rattle.source_lines.specs.declared.no_line.NoLine.TheVariants as no_line
use Rattle.notes_lines.specs.declared.line.SpoolLine.{SpoolLine}
use Rattle.notes_lines.specs.declared.line.SpoolLine.TheVariants as line
use Rattle.notes_lines.specs.Lines.{first_lines, open_lines, skipped_line}
use Rattle.notes_lines.specs.Reading.{spool_line_of}
use Rattle.notes_top.specs.Stages.{Stage, AsFound, is_open, Does, Run}
use Rattle.notes_top.specs.Stops.{cause_of}
use Rattle.notes_top.specs.Ending.{EndsAt, TakesLast}
use Rattle.notes_top.specs.Keeping.{disk_of, DiskAt, KeptAt, TakesLine}
use Rattle.notes_top.specs.Ran.{IsOver, IsNext, InWork, Doing, NotesRan}
use Rattle.notes_top.specs.declared.kept.Kept.{Kept}
use Rattle.notes_top.specs.declared.kept.Kept.TheVariants as kept
use Rattle.notes_top.specs.declared.stop.Stop.{Stop}
use Rattle.notes_top.specs.declared.stop.Stop.TheVariants as stop
use Rattle.notes_top.proofs.Going.{Going, Going-open, Going-line, Asked, Asked-for, Asked-line, Asked-over, Asked-last, Asked-long, long_line, Run-more}
use Rattle.notes_top.proofs.Keeping.{DiskAt-first, KeptAt-disk}

-- an empty line says nothing
empty_line : (is_open : Bool) → spool_line_of is_open [] ≡ Ok line.Skip
unfolding spool_line_of first_lines open_lines skipped_line end_at from_space
empty_line true = refl
empty_line false = refl

module _ {D : Type 0} (tells : D → Bool) (reads : D → List ℕ) (leaves : D → List ℕ → Type 0) (faults : D → ℕ) where
  -- where a run stands between two lines
  pub record Stand (first : D) (source source' : SourceTold) (lines : LinesRead) (number : ℕ) (now : Kept D) (held held' : Option (List ℕ)) : Type 0 where
    pub done : List (List ℕ)
    pub printed : List ℕ
    pub stage : Stage
    pub going : Going source source' lines done
    pub run : Run (tells first ≡ true) (reads first) AsFound done printed stage
    pub at : KeptAt tells reads leaves faults first stage now
    pub written : Written held held' printed
    pub number_is : number ≡ length done + 1

  pub Stand-open : (first : D) (source : SourceTold) (held : Option (List ℕ)) → Stand first source source (record { line = []; kept = []; count = 0 }) 1 (kept.Disk first) held held
  Stand-open first source held = record {
    done = [];
    printed = [];
    stage = AsFound;
    going = Going-open source;
    run = (refl, refl);
    at = (refl, DiskAt-first tells reads leaves faults first);
    written = Written-nothing held;
    number_is = refl;
  }

  pub Stand-line : (first : D) (source source' source'' : SourceTold) (lines lines' : LinesRead) (number : ℕ) (now now' : Kept D) (held held' held'' : Option (List ℕ)) (s : Stand first source source' lines number now held held')
      → NextLine lines lines' source' source'' (Ok tt) → TakesLine tells reads leaves faults first s.stage (spool_line_of (is_open s.stage) lines'.line) now' (Ok tt) held' held''
      → Stand first source source'' lines' (number + 1) now' held held''
  Stand-line first source source' source'' lines lines' number now now' held held' held'' s next (says, here, stage, is, does, at, written) = record {
    done = s.done ++ lines'.line ∷ [];
    printed = s.printed ++ here;
    stage = stage;
    going = Going-line source source' source'' lines lines' s.done s.going next;
    run = Run-more (tells first ≡ true) (reads first) AsFound s.done s.printed s.stage lines'.line says here stage s.run is does;
    at = at;
    written = Written-more held held' held'' s.printed here s.written written;
    number_is = omega (arith, s.number_is, length-append s.done (lines'.line ∷ []));
  }

  -- what was done up to a line
  abbrev doing : (source source'' : SourceTold) (done : List (List ℕ)) → Asked source source'' done → List ℕ → Stage → Doing
  doing source source'' done a printed stage = record { text = a.text; done = done; printed = printed; stage = stage }

  in_work : (source source'' : SourceTold) (done : List (List ℕ)) (a : Asked source source'' done) (stage : Stage) (line : List ℕ) (says : Result SpoolLine ℕ) → IsNext (IsOver source source'' a.text) a.behind line
      → spool_line_of (is_open stage) line ≡ says → InWork (IsOver source source'' a.text) a.text done stage says
  in_work source source'' done a stage line says next is = record { behind = a.behind; splits = a.splits; line = line; next = next; is = is }

  -- it stopped in a line
  stopped : (first : D) (source source'' : SourceTold) (done : List (List ℕ)) (printed : List ℕ) (stage : Stage) (number : ℕ) (now' : Kept D) (held held' held'' : Option (List ℕ)) (a : Asked source source'' done) (line : List ℕ) (why : Stop)
      → Run (tells first ≡ true) (reads first) AsFound done printed stage → Written held held' printed → number ≡ length done + 1 → IsNext (IsOver source source'' a.text) a.behind line
      → TakesLine tells reads leaves faults first stage (spool_line_of (is_open stage) line) now' (Err why) held' held''
      → NotesRan tells reads leaves faults (cause_of why number) source source'' held held'' first (disk_of now')
  stopped first source source'' done printed stage number now' held held' held'' a line stop.Write run written number_is next (says, more, behind, is, does, at, front) = record {
    did = doing source source'' done a printed stage;
    taken = a.taken;
    run = run;
    ends = (behind, record { says = says; work = in_work source source'' done a stage line (Ok says) next is; more = more; does = does; front = WrittenFront-more held held' held'' printed more written front }, at);
  }
  stopped first source source'' done printed stage number now' held held' held'' a line stop.NoMemory run written number_is next (at, inl same) = record {
    did = doing source source'' done a printed stage;
    taken = a.taken;
    run = run;
    ends = ((a.behind, a.splits), at, inl (Written-same held held' held'' printed written same));
  }
  stopped first source source'' done printed stage number now' held held' held'' a line stop.NoMemory run written number_is next (at, inr (says, more, behind, is, does, front)) = record {
    did = doing source source'' done a printed stage;
    taken = a.taken;
    run = run;
    ends = ((a.behind, a.splits), at, inr (behind, record { says = says; work = in_work source source'' done a stage line (Ok says) next is; more = more; does = does; front = WrittenFront-more held held' held'' printed more written front }));
  }
  stopped first source source'' done printed stage number now' held held' held'' a line (stop.Line place) run written number_is next ((is, at), same) = record {
    did = doing source source'' done a printed stage;
    taken = a.taken;
    run = run;
    ends = (in_work source source'' done a stage line (Err place) next is, number_is, record { written = Written-same held held' held'' printed written same; disk = at });
  }
  stopped first source source'' done printed stage number now' held held' held'' a line stop.Disk run written number_is next ((says, is, rose, broken), same) = record {
    did = doing source source'' done a printed stage;
    taken = a.taken;
    run = run;
    ends = (says, in_work source source'' done a stage line (Ok says) next is, Written-same held held' held'' printed written same, rose, broken);
  }
  stopped first source source'' done printed stage number now' held held' held'' a line (stop.Unread place) run written number_is next ((says, is, fresh, at, unread), same) = record {
    did = doing source source'' done a printed stage;
    taken = a.taken;
    run = run;
    ends = (says, in_work source source'' done a stage line (Ok says) next is, fresh, record { written = Written-same held held' held'' printed written same; disk = at }, unread);
  }

  -- in a whole line
  pub Ran-line : (first : D) (source source' source'' : SourceTold) (lines lines' : LinesRead) (number : ℕ) (now now' : Kept D) (held held' held'' : Option (List ℕ)) (why : Stop) (s : Stand first source source' lines number now held held')
      → NextLine lines lines' source' source'' (Ok tt) → TakesLine tells reads leaves faults first s.stage (spool_line_of (is_open s.stage) lines'.line) now' (Err why) held' held''
      → NotesRan tells reads leaves faults (cause_of why number) source source'' held held'' first (disk_of now')
  Ran-line first source source' source'' lines lines' number now now' held held' held'' why s next takes =
      let a = Asked-for source source' source'' lines lines' s.done (Ok tt) s.going next in
      stopped first source source'' s.done s.printed s.stage number now' held held' held'' a lines'.line why s.run s.written s.number_is
      (Asked-line source source' source'' lines lines' s.done s.going next (IsOver source source'' a.text)) takes

  -- at the end of the input, behind its last line
  last_done : (first : D) (source source'' : SourceTold) (done : List (List ℕ)) (printed : List ℕ) (stage : Stage) (now' : Kept D) (held held' held'' : Option (List ℕ)) (a : Asked source source'' done) (line : List ℕ)
      → Run (tells first ≡ true) (reads first) AsFound done printed stage → Written held held' printed → IsOver source source'' a.text → IsOneLine line → lines_of a.text ≡ done ++ lines_of line
      → TakesLine tells reads leaves faults first stage (spool_line_of (is_open stage) line) now' (Ok tt) held' held''
      → NotesRan tells reads leaves faults cause.Done source source'' held held'' first (disk_of now')
  last_done first source source'' done printed stage now' held held' held'' a [] run written over one lines_are (says, here, next, is, does, at, more) =
      let skips : says ≡ line.Skip = cc (empty_line (is_open stage)) in
      let nothing = subst (λ (l : SpoolLine). Does (tells first ≡ true) (reads first) stage l here next) skips does in
      record {
        did = doing source source'' done a printed stage;
        taken = a.taken;
        run = run;
        ends = (
          lines_are ∙ append-nil done,
          over,
          record {
            written = Written-none-more held held' held'' printed written (subst (λ (t : List ℕ). Written held' held'' t) nothing.0 more);
            disk = subst (λ (st : Stage). DiskAt tells reads leaves faults first st (disk_of now')) nothing.1 (KeptAt-disk tells reads leaves faults first next now' at);
          },
        );
      }
  last_done first source source'' done printed stage now' held held' held'' a (b ∷ bs) run written over one lines_are (says, here, next, is, does, at, more) = record {
    did = record { text = a.text; done = done ++ (b ∷ bs) ∷ []; printed = printed ++ here; stage = next };
    taken = a.taken;
    run = Run-more (tells first ≡ true) (reads first) AsFound done printed stage (b ∷ bs) says here next run is does;
    ends = (
      lines_are ∙ ap (λ (ls : List (List ℕ)). done ++ ls) (last_line (b ∷ bs) one (λ same. cc)),
      over,
      record {
        written = Written-more held held' held'' printed here written more;
        disk = KeptAt-disk tells reads leaves faults first next now' at;
      },
    );
  }

  ended : (first : D) (source source'' : SourceTold) (done : List (List ℕ)) (printed : List ℕ) (stage : Stage) (number : ℕ) (now' : Kept D) (held held' held'' : Option (List ℕ)) (a : Asked source source'' done) (line : List ℕ) (why : Cause)
      → Run (tells first ≡ true) (reads first) AsFound done printed stage → Written held held' printed → number ≡ length done + 1 → IsOver source source'' a.text → IsNext (IsOver source source'' a.text) a.behind line → lines_of a.text ≡ done ++ lines_of line
      → (last : TakesLast tells reads leaves faults first stage (spool_line_of (is_open stage) line) number now' why held' held'') → (taken : Result (Unit {0}) Stop) → last.taken ≡ taken
      → NotesRan tells reads leaves faults why source source'' held held'' first (disk_of now')
  ended first source source'' done printed stage number now' held held' held'' a line why run written number_is over next lines_are last (Ok done_it) same =
      let takes = subst (λ (r : Result (Unit {0}) Stop). TakesLine tells reads leaves faults first stage (spool_line_of (is_open stage) line) now' r held' held'') same last.takes in
      let why_is : why ≡ cause.Done = rw same at last.why_is in
      subst (λ (w : Cause). NotesRan tells reads leaves faults w source source'' held held'' first (disk_of now')) (sym why_is)
      (last_done first source source'' done printed stage now' held held' held'' a line run written over next.0 lines_are takes)
  ended first source source'' done printed stage number now' held held' held'' a line why run written number_is over next lines_are last (Err e) same =
      let takes = subst (λ (r : Result (Unit {0}) Stop). TakesLine tells reads leaves faults first stage (spool_line_of (is_open stage) line) now' r held' held'') same last.takes in
      let why_is : why ≡ cause_of e number = rw same at last.why_is in
      subst (λ (w : Cause). NotesRan tells reads leaves faults w source source'' held held'' first (disk_of now')) (sym why_is)
      (stopped first source source'' done printed stage number now' held held' held'' a line e run written number_is next takes)

  -- no line was given
  pub Ran-end : (why : NoLine) (first : D) (source source' source'' : SourceTold) (lines lines' : LinesRead) (number : ℕ) (now now' : Kept D) (held held' held'' : Option (List ℕ)) (end : Cause) (s : Stand first source source' lines number now held held')
      → NextLine lines lines' source' source'' (Err why) → EndsAt tells reads leaves faults why first s.stage lines' number now' end held' held''
      → NotesRan tells reads leaves faults end source source'' held held'' first (disk_of now')
  Ran-end no_line.End first source source' source'' lines lines' number now now' held held' held'' end s next last =
      let a = Asked-for source source' source'' lines lines' s.done (Err no_line.End) s.going next in
      let behind : lines.kept ++ next.more ≡ lines'.line = sym (next.gives.0).line in
      ended first source source'' s.done s.printed s.stage number now' held held' held'' a lines'.line end s.run s.written s.number_is
      (Asked-over source source' source'' lines lines' s.done s.going next) (Asked-last source source' source'' lines lines' s.done s.going next)
      (ap lines_of (ap (λ (t : List ℕ). t ++ next.more) s.going.text_is ∙ append_assoc s.going.whole lines.kept next.more ∙ ap (λ (t : List ℕ). s.going.whole ++ t) behind) ∙ s.going.lines_are lines'.line)
      last last.taken refl
  Ran-end no_line.Fault first source source' source'' lines lines' number now now' held held' held'' end s next so =
      let a = Asked-for source source' source'' lines lines' s.done (Err no_line.Fault) s.going next in
      let (part, rose) = next.gives in
      subst (λ (w : Cause). NotesRan tells reads leaves faults w source source'' held held'' first (disk_of now')) (sym so.why_is) (record {
        did = doing source source'' s.done a s.printed s.stage;
        taken = a.taken;
        run = s.run;
        ends = ((a.behind, a.splits, part.one), subst (λ (n : ℕ). Rose n source''.faults) s.going.faults rose, record { written = Written-same held held' held'' s.printed s.written so.unwritten; disk = so.disk });
      })
  Ran-end no_line.Bound first source source' source'' lines lines' number now now' held held' held'' end s next so =
      let a = Asked-for source source' source'' lines lines' s.done (Err no_line.Bound) s.going next in
      let (part, bound) = next.gives in
      let size : lines'.count ≡ length (s.going.text ++ next.more) = omega (arith, length-append s.going.text next.more, next.count, s.going.size) in
      subst (λ (w : Cause). NotesRan tells reads leaves faults w source source'' held held'' first (disk_of now')) (sym so.why_is) (record {
        did = doing source source'' s.done a s.printed s.stage;
        taken = a.taken;
        run = s.run;
        ends = ((a.behind, a.splits, part.one), sym size ∙ bound, refl, refl, size, record { written = Written-same held held' held'' s.printed s.written so.unwritten; disk = so.disk });
      })
  Ran-end no_line.Long first source source' source'' lines lines' number now now' held held' held'' end s next so =
      let a = Asked-for source source' source'' lines lines' s.done (Err no_line.Long) s.going next in
      let (part, behind, is, one, long) = next.gives in
      subst (λ (w : Cause). NotesRan tells reads leaves faults w source source'' held held'' first (disk_of now')) (sym so.why_is) (record {
        did = doing source source'' s.done a s.printed s.stage;
        taken = a.taken;
        run = s.run;
        ends = (
          in_work source source'' s.done a s.stage next.gives.0 (Err line_bytes) (Asked-long source source' source'' lines lines' s.done s.going next (IsOver source source'' a.text)) (long_line (is_open s.stage) next.gives.0 long),
          s.number_is,
          record { written = Written-same held held' held'' s.printed s.written so.unwritten; disk = so.disk },
        );
      })
  Ran-end no_line.NoMemory first source source' source'' lines lines' number now now' held held' held'' end s next so =
      let a = Asked-for source source' source'' lines lines' s.done (Err no_line.NoMemory) s.going next in
      subst (λ (w : Cause). NotesRan tells reads leaves faults w source source'' held held'' first (disk_of now')) (sym so.why_is) (record {
        did = doing source source'' s.done a s.printed s.stage;
        taken = a.taken;
        run = s.run;
        ends = ((a.behind, a.splits), so.disk, inl (Written-same held held' held'' s.printed s.written so.unwritten));
      })
