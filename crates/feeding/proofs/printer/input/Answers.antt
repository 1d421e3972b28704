use Rattle.std.proofs.Common.{Ok, Err, Result, ap}
use Rattle.driving.specs.declared.handler.Stop.{Stop}
use Rattle.driving.specs.declared.handler.Stop.TheVariants as stop
use Rattle.gem_model.specs.Feed.{input}
use Rattle.line_feeding.specs.Going.{seen}
use Rattle.feeding.proofs.Driven.{Goes-driven}
use Rattle.feeding.proofs.printer.input.Goals as goal

pub returns-in-Ok-clause-goes : goal.returns-in-Ok-clause-goes
returns-in-Ok-clause-goes g c =
    Goes-driven (seen g.K.Sink.held g.K.Sink.faults g.K.Sink.refusals) _ _ c.args.out.now c.input.new.out (input (g.C.Recorder.view c.args.core.now).state c.args.at.0 c.args.event) (Ok tt) c.input.ensures.before.run c.in-Ok.ensures.drives

pub returns-in-Err-Full-clause-goes : goal.returns-in-Err-Full-clause-goes
returns-in-Err-Full-clause-goes g c =
    Goes-driven (seen g.K.Sink.held g.K.Sink.faults g.K.Sink.refusals) _ _ c.args.out.now c.input.new.out (input (g.C.Recorder.view c.args.core.now).state c.args.at.0 c.args.event) (Err stop.Full) c.input.ensures.before.run (rw c.in-Err-Full.field-0-is at c.in-Err-Full.ensures.drives)

pub returns-in-Err-NoMemory-clause-goes : goal.returns-in-Err-NoMemory-clause-goes
returns-in-Err-NoMemory-clause-goes g c =
    Goes-driven (seen g.K.Sink.held g.K.Sink.faults g.K.Sink.refusals) _ _ c.args.out.now c.input.new.out (input (g.C.Recorder.view c.args.core.now).state c.args.at.0 c.args.event) (Err stop.NoMemory) c.input.ensures.before.run (rw c.in-Err-NoMemory.field-0-is at c.in-Err-NoMemory.ensures.drives)

pub returns-in-Err-Refused-clause-goes : goal.returns-in-Err-Refused-clause-goes
returns-in-Err-Refused-clause-goes g c =
    Goes-driven (seen g.K.Sink.held g.K.Sink.faults g.K.Sink.refusals) _ _ c.args.out.now c.input.new.out (input (g.C.Recorder.view c.args.core.now).state c.args.at.0 c.args.event) (Err stop.Refused) c.input.ensures.before.run (rw c.in-Err-Refused.field-0-is at c.in-Err-Refused.ensures.drives)
