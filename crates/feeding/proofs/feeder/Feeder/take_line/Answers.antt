use Rattle.std.proofs.Common.{◌≡◌, ℕ, Ok, sym, subst, ◌∙◌, ap, Result}
use Rattle.line_grammar.specs.declared.line.Line.{Line}
use Rattle.line_grammar.specs.declared.line.Line.TheVariants as line
use Rattle.line_grammar.specs.Reading.{feed_line_of}
use Rattle.line_feeding.specs.Going.{seen}
use Rattle.feeding.specs.Reading.{TreatsLine}
use Rattle.feeding.specs.Views.{feeder_seen}
use Rattle.feeding.proofs.LineParts.{TreatsLine-no_memory, TreatsLine-skip, TreatsLine-watch}
use Rattle.feeding.proofs.feeder.Feeder.take_line.Goals as goal

pub returns-in-Err-NoMemory-clause-takes : goal.returns-in-Err-NoMemory-clause-takes
returns-in-Err-NoMemory-clause-takes g c = λ r reading. TreatsLine-no_memory r _ _ _

pub returns-in-Ok-Skip-clause-takes : goal.returns-in-Ok-Skip-clause-takes
returns-in-Ok-Skip-clause-takes g c = λ r reading.
    let see = seen g.K.Sink.held g.K.Sink.faults g.K.Sink.refusals c.args.out.now in
    let is : feed_line_of c.args.line.now ≡ Ok line.Skip = c.in-Ok-Skip.ensures.line ∙ ap (λ (l : Line). Ok l) c.in-Ok-Skip.field-0-is in
    subst (λ (says : Result Line ℕ). TreatsLine r says (feeder_seen g.C.Recorder.view c.args.self.now) (feeder_seen g.C.Recorder.view c.args.self.now) see see (Ok tt)) (sym is) (TreatsLine-skip r (feeder_seen g.C.Recorder.view c.args.self.now) see reading)

pub returns-in-Ok-Watch-clause-takes : goal.returns-in-Ok-Watch-clause-takes
returns-in-Ok-Watch-clause-takes g c = λ r reading.
    let see = seen g.K.Sink.held g.K.Sink.faults g.K.Sink.refusals c.args.out.now in
    let is : feed_line_of c.args.line.now ≡ Ok (line.Watch c.in-Ok-Watch.field-0-0) = c.in-Ok-Watch.ensures.line ∙ ap (λ (l : Line). Ok l) c.in-Ok-Watch.field-0-is in
    subst (λ (says : Result Line ℕ). TreatsLine r says (feeder_seen g.C.Recorder.view c.args.self.now) (feeder_seen g.C.Recorder.view c.args.self.now) see see (Ok tt)) (sym is) (TreatsLine-watch r c.in-Ok-Watch.field-0-0 (feeder_seen g.C.Recorder.view c.args.self.now) see reading)
