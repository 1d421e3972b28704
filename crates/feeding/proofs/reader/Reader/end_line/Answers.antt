use Rattle.std.proofs.Common.{refl}
use Rattle.feeding.specs.Views.{reader_seen}
use Rattle.feeding.proofs.Standing.{Stands-line, Stands-line-stopped, Prints-line}
use Rattle.feeding.proofs.reader.Reader.end_line.Goals as goal

pub returns-in-Err-clause-takes : goal.returns-in-Err-clause-takes
returns-in-Err-clause-takes g c = λ text stands.
    let treats = rw c.deref.ensures.value at c.in-Err.ensures.takes stands.reading stands.is in
    record {
      stands = λ more. Stands-line-stopped text more (reader_seen g.C.Recorder.view c.args.self.now) (reader_seen g.C.Recorder.view (record c.args.self.now { feeder = c.take_line.new.self })) _ _ c.in-Err.halt stands treats refl;
      prints = Prints-line stands.reading _ _ _ _ _ _ treats;
    }

pub returns-clause-takes : goal.returns-clause-takes
returns-clause-takes g c = λ text stands.
    let treats = rw c.deref.ensures.value at c.in-Ok.ensures.takes stands.reading stands.is in
    record {
      stands = Stands-line text (reader_seen g.C.Recorder.view c.args.self.now) _ _ _ stands treats c.clear.ensures.items refl;
      prints = Prints-line stands.reading _ _ _ _ _ _ treats;
    }
