use Rattle.std.proofs.Common.{[], ◌∷◌, Ok, Err}
use Rattle.line_feeding.specs.Going.{seen}
use Rattle.feeding.specs.Views.{reader_seen}
use Rattle.feeding.specs.Standing.{Takes}
use Rattle.feeding.proofs.Standing.{Prints-stays, Takes-then, Takes-stopped}
use Rattle.feeding.proofs.reader.Reader.take_rest.Goals as goal

pub returns-in-Ok-clause-takes : goal.returns-in-Ok-clause-takes
returns-in-Ok-clause-takes g c = λ text stands.
    let out = seen g.K.Sink.held g.K.Sink.faults g.K.Sink.refusals c.args.out.now in
    let front : Takes text c.args.rest.now (reader_seen g.C.Recorder.view c.args.self.now) (reader_seen g.C.Recorder.view c.push_part.new.self) out out (Ok tt) = record {
      stands = c.in-Ok.ensures.stands text stands;
      prints = rw c.in-Ok.ensures.core_stays (Prints-stays _ _ _ (λ e. cc));
    } in
    Takes-then text c.args.rest.now (10 ∷ []) _ _ _ _ _ _ _ front (c.end_line.ensures.takes _ front.stands)

pub returns-in-Err-clause-takes : goal.returns-in-Err-clause-takes
returns-in-Err-clause-takes g c = λ text stands.
    let out = seen g.K.Sink.held g.K.Sink.faults g.K.Sink.refusals c.args.out.now in
    let front : Takes text c.args.rest.now (reader_seen g.C.Recorder.view c.args.self.now) (reader_seen g.C.Recorder.view c.push_part.new.self) out out (Err c.in-Err.halt) = record {
      stands = c.in-Err.ensures.stands text stands;
      prints = rw c.in-Err.ensures.core_stays (Prints-stays _ _ _ c.in-Err.ensures.fault);
    } in
    Takes-stopped text c.args.rest.now (10 ∷ []) _ _ _ _ _ front
