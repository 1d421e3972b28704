use Rattle.std.proofs.Common.{[], ◌≡◌, ◌∙◌, inl, refl, subst}
use Rattle.tool_events.specs.declared.config.Config.{Config}
use Rattle.run_causes.specs.declared.cause.Cause.TheVariants as cause
use Rattle.line_feeding.specs.CauseOf.{cause_after}
use Rattle.line_feeding.specs.Fed.{looked, FedBy, ReadToEnd, Shown}
use Rattle.line_feeding.specs.Noted.{NotedBy}
use Rattle.line_feeding.specs.Stopping.{GivenBy}
use Rattle.feeding.specs.Views.{reader_seen}
use Rattle.feeding.proofs.Ending.{not_read, not_write, FedBy-end, NotedBy-end, Shown-end, Shown-memory}
use Rattle.history_laws.proofs.Recording.{recorded-after}
use Rattle.feeding.proofs.NothingHappened.{recorded_none}
use Rattle.feeding.proofs.feeding.feed_over.Goals as goal

pub returns-in_default-session_notes-clause-printed : goal.returns-in_default-session_notes-clause-printed
returns-in_default-session_notes-clause-printed g c =
    let core = g.C.Recorder.view c.read_lines-read.new.reader.feeder.core in
    let same : core.config ≡ c.args.config.now = c.read_lines-read.ensures.prints.config ∙ c.in-Ok.ensures.config in
    rw (c.with_history.ensures, c.into_history-history.ensures.history)
    (subst (λ (k : Config). Shown k cause.NoMemory (g.K.Sink.held c.args.out.now) (g.K.Sink.held c.read_lines-read.new.out) core.history) same
    (Shown-memory c.read_lines-read.result.end _ core _ _ c.in-Ok.ensures.history c.read_lines-read.ensures.prints))

pub returns-clause-fed : goal.returns-clause-fed
returns-clause-fed g c =
    let reader = reader_seen g.C.Recorder.view c.read_lines-read.new.reader in
    let core = reader.feeder.core in
    let end = c.read_lines-read.result.end in
    let count = c.read_lines-read.result.count in
    let same : core.config ≡ c.args.config.now = c.read_lines-read.ensures.prints.config ∙ c.in-Ok.ensures.config in
    let look = looked g.S.Source.left g.S.Source.faults g.S.Source.ends in
    let over = ReadToEnd (look c.args.input.now) (look c.read_lines-read.new.input) in
    let read = c.read_lines-read.ensures.read in
    rw (c.with_history-2.ensures, c.cause_of-cause.ensures, c.into_history.ensures.history) (
      read.0,
      read.2,
      subst (λ (k : Config). FedBy k (cause_after end count core.history reader.number) over read.0 core.history) same (FedBy-end end read.0 count reader _ _ read.1 read.4),
      subst (λ (k : Config). NotedBy k (cause_after end count core.history reader.number) over read.0 core.history c.in-Ok-session_notes.sessions) same (NotedBy-end end read.0 count reader c.in-Ok-session_notes.sessions _ _ c.in-Ok-session_notes.ensures read.4),
    )

pub returns-clause-printed : goal.returns-clause-printed
returns-clause-printed g c =
    let core = g.C.Recorder.view c.read_lines-read.new.reader.feeder.core in
    let same : core.config ≡ c.args.config.now = c.read_lines-read.ensures.prints.config ∙ c.in-Ok.ensures.config in
    rw (c.with_history-2.ensures, c.cause_of-cause.ensures, c.into_history.ensures.history)
    (subst (λ (k : Config). Shown k (cause_after c.read_lines-read.result.end c.read_lines-read.result.count core.history c.read_lines-read.new.reader.number) (g.K.Sink.held c.args.out.now) (g.K.Sink.held c.read_lines-read.new.out) core.history) same
    (Shown-end c.read_lines-read.result.end _ core _ _ c.read_lines-read.result.count c.read_lines-read.new.reader.number c.in-Ok.ensures.history c.read_lines-read.ensures.prints))

-- without memory for the notes there are none
pub returns-in_default-session_notes-clause-fed : goal.returns-in_default-session_notes-clause-fed
returns-in_default-session_notes-clause-fed g c =
    let core = g.C.Recorder.view c.read_lines-read.new.reader.feeder.core in
    let same : core.config ≡ c.args.config.now = c.read_lines-read.ensures.prints.config ∙ c.in-Ok.ensures.config in
    let look = looked g.S.Source.left g.S.Source.faults g.S.Source.ends in
    let over = ReadToEnd (look c.args.input.now) (look c.read_lines-read.new.input) in
    let read = c.read_lines-read.ensures.read in
    rw (c.with_history.ensures, c.into_history-history.ensures.history, c.none.ensures) (
      read.0,
      read.2,
      subst (λ (k : Config). GivenBy over k read.0 core.history) same read.3,
      inl refl,
    )

pub returns-clause-no_write_failed : goal.returns-clause-no_write_failed
returns-clause-no_write_failed g c =
    rw (c.with_history-2.ensures, c.cause_of-cause.ensures)
    (λ other memory. c.read_lines-read.ensures.prints.unfailed (not_write c.read_lines-read.result.end c.read_lines-read.result.count _ _ other))

pub returns-in_default-session_notes-clause-recorded : goal.returns-in_default-session_notes-clause-recorded
returns-in_default-session_notes-clause-recorded g c =
    rw (c.with_history.ensures, c.into_history-history.ensures.history)
    (recorded-after _ _ _ _ (c.read_lines-read.ensures.prints.config ∙ c.in-Ok.ensures.config) c.into_history-history.ensures.recorded)

pub returns-clause-recorded : goal.returns-clause-recorded
returns-clause-recorded g c =
    rw (c.with_history-2.ensures, c.into_history.ensures.history)
    (recorded-after _ _ _ _ (c.read_lines-read.ensures.prints.config ∙ c.in-Ok.ensures.config) c.into_history.ensures.recorded)

pub returns-in_default-clause-recorded : goal.returns-in_default-clause-recorded
returns-in_default-clause-recorded g c = rw c.without_history.ensures (recorded_none c.args.config.now [] c.requires refl)

pub returns-clause-no_read_failed : goal.returns-clause-no_read_failed
returns-clause-no_read_failed g c =
    rw (c.with_history-2.ensures, c.cause_of-cause.ensures)
    (λ other memory. c.read_lines-read.ensures.unfailed (not_read c.read_lines-read.result.end c.read_lines-read.result.count _ _ other))
