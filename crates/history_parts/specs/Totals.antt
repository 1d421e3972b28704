-- What is counted over a history.
use Rattle.std.specs.Prelude.{ℕ, List, length}
use Rattle.tool_events.specs.declared.config.Config.{Config}
use Rattle.tool_events.specs.declared.entry.Entry.{Entry}
use Rattle.note_line.specs.Counts.{answered_count, dropped_count}
use Rattle.gem_model.specs.State.{State, opening}
use Rattle.gem_model.specs.Run.{after_all}
use Rattle.gem_model.specs.Sizes.{counted}
use Rattle.history_parts.specs.declared.totals.Totals.{Totals}
use Rattle.history_parts.specs.Additions.{done_in, completed_in}

-- The counts that a state tells, and these two. Sessions and substrates are numbered as they come, from 1, so that the last number is
-- their count; each note has one fate, and one that has ended keeps it.
abbrev pub told_at : State → ℕ → ℕ → Totals
told_at g done completed = record {
  sessions = g.link.session;
  notes = length g.line.told;
  answered = answered_count g.line.told;
  dropped = dropped_count g.line.told;
  done = done;
  completed = completed;
  substrates = g.floor.places.given;
}

-- the counts in a state behind so many commands that were ended by Done and so many control jobs that were completed
abbrev pub totals_at : State → ℕ → ℕ → Totals
totals_at g done completed = told_at g (counted done) (counted completed)

-- the counts of a history under a configuration
abbrev pub totals_of : Config → List Entry → Totals
totals_of c history =
    totals_at (after_all (opening c) history) (done_in (opening c) history) (completed_in (opening c) history)
