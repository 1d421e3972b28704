use Rattle.std.proofs.Common.{arith, ◌≢◌, []}
use Rattle.std.proofs.lemmas.Bool.Decides.{nat_tests}
use Rattle.feeding.specs.Views.{feeder_seen, reader_seen}
use Rattle.feeding.proofs.Standing.{ends-line, Prints-line}
use Rattle.feeding.proofs.reader.Reader.finish.Goals as goal

pub returns-clause-finishes : goal.returns-clause-finishes
returns-clause-finishes g c = λ text stands.
    let some : c.args.self.now.line.items ≢ [] = grind (arith, nat_tests, c.args.self.now.line.ok.0) in
    let treats = rw c.deref.ensures.value at c.take_line.ensures.takes stands.reading stands.is in
    record {
      ends = ends-line text (reader_seen g.C.Recorder.view c.args.self.now) (feeder_seen g.C.Recorder.view c.take_line.new.self) _ _ c.take_line.result stands some treats;
      prints = Prints-line stands.reading _ _ _ _ _ _ treats;
    }
