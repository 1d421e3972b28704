-- How a run of `notes` ends where no whole line is given any more.
use Rattle.std.specs.Prelude.{◌≡◌, ℕ, Bool, List, Option, Result, Ok, Err}
use Rattle.line_grammar.specs.Reading.{line_bytes}
use Rattle.run_causes.specs.declared.cause.Cause.{Cause}
use Rattle.run_causes.specs.declared.cause.Cause.TheVariants as cause
use Rattle.source_lines.specs.Reads.{LinesRead}
use Rattle.source_lines.specs.declared.no_line.NoLine.{NoLine}
use Rattle.source_lines.specs.declared.no_line.NoLine.TheVariants as no_line
use Rattle.notes_lines.specs.declared.line.SpoolLine.{SpoolLine}
use Rattle.notes_lines.specs.Reading.{spool_line_of}
use Rattle.notes_top.specs.Keeping.{disk_of, DiskAt, TakesLine}
use Rattle.notes_top.specs.Stages.{Stage, is_open}
use Rattle.notes_top.specs.Stops.{cause_of}
use Rattle.notes_top.specs.declared.kept.Kept.{Kept}
use Rattle.notes_top.specs.declared.stop.Stop.{Stop}

-- why a run ends behind its last line, of this number
abbrev pub last_cause : Result (Unit {0}) Stop → ℕ → Cause
last_cause (Ok done) number = cause.Done
last_cause (Err why) number = cause_of why number

module _ {D : Type 0} (tells : D → Bool) (reads : D → List ℕ) (leaves : D → List ℕ → Type 0) (faults : D → ℕ) where
  -- the last line, of this number, was taken so
  pub record TakesLast (first : D) (stage : Stage) (says : Result SpoolLine ℕ) (number : ℕ) (now : Kept D) (why : Cause) (held held' : Option (List ℕ)) : Type 0 where
    pub taken : Result (Unit {0}) Stop
    pub takes : TakesLine tells reads leaves faults first stage says now taken held held'
    pub why_is : why ≡ last_cause taken number

  -- it ended so, and nothing more was done
  pub record EndsSo (first : D) (stage : Stage) (now : Kept D) (why so : Cause) (held held' : Option (List ℕ)) : Type 0 where
    pub why_is : why ≡ so
    pub disk : DiskAt tells reads leaves faults first stage (disk_of now)
    pub unwritten : held' ≡ held

  -- how it ended, by why no line of this number was given
  abbrev pub EndsAt : NoLine → D → Stage → LinesRead → ℕ → Kept D → Cause → Option (List ℕ) → Option (List ℕ) → Type 0
  EndsAt no_line.End first stage lines number now why held held' =
      TakesLast first stage (spool_line_of (is_open stage) lines.line) number now why held held'
  EndsAt no_line.Fault first stage lines number now why held held' = EndsSo first stage now why cause.ReadFault held held'
  EndsAt no_line.Bound first stage lines number now why held held' = EndsSo first stage now why (cause.Full 0 0 lines.count) held held'
  EndsAt no_line.Long first stage lines number now why held held' = EndsSo first stage now why (cause.Line number line_bytes) held held'
  EndsAt no_line.NoMemory first stage lines number now why held held' = EndsSo first stage now why cause.NoMemory held held'
