use Rattle.std.proofs.Common.{rules, ◌≡◌, inl, subst}
use Rattle.line_feeding.specs.Going.{seen}
use Rattle.serving.specs.Log.{log_of}
use Rattle.serving.specs.Ending.{cause_behind, notes_of}
use Rattle.serving.specs.Served.{LoggedText}
use Rattle.serving.proofs.run.close_run.Goals as goal

pub returns-clause-closed : goal.returns-clause-closed
returns-clause-closed g c =
    let core = g.C.Recorder.view c.args.ran.core in
    let text : c.as_slice-2.result.now ≡ log_of core.config core.history = search rules in
    let notes : c.with_history-2.result.sessions ≡ notes_of core.config core.history c.args.ran.sessions.items = search rules in
    let why : c.with_history-2.result.cause ≡ cause_behind c.args.ran.ends c.write_log-logged.result core.history c.args.ran.script_bytes = search rules in
    inl (c.write_log-logged.result, subst (λ t. LoggedText t c.write_log-logged.result (seen g.K.Sink.held g.K.Sink.faults g.K.Sink.refusals c.args.log.now) (seen g.K.Sink.held g.K.Sink.faults g.K.Sink.refusals c.write_log-logged.new.log)) text c.write_log-logged.ensures, notes, why)
