use Rattle.std.proofs.Common.{refl}
use Rattle.feeding.specs.Views.{reader_seen}
use Rattle.feeding.proofs.Standing.{Stands-long, Stands-memory}
use Rattle.feeding.proofs.reader.Reader.push_part.Goals as goal

pub returns-in-Err-Long-clause-stands : goal.returns-in-Err-Long-clause-stands
returns-in-Err-Long-clause-stands g c = λ text stands more.
    let stops = Stands-long text c.args.part.now more (reader_seen g.C.Recorder.view c.args.self.now) c.requires (let when = rw c.in-Err-Long.field-0-is at c.in-Err-Long.ensures.long in when.0 refl) stands in
    record { told = stops.told; at_line = stops.at_line; given = stops.given; counts = stops.counts }

pub returns-in-Err-NoMemory-clause-stands : goal.returns-in-Err-NoMemory-clause-stands
returns-in-Err-NoMemory-clause-stands g c = λ text stands more.
    let stops = Stands-memory text c.args.part.now more (reader_seen g.C.Recorder.view c.args.self.now) stands in
    record { told = stops.told; at_line = stops.at_line; given = stops.given; counts = stops.counts }
