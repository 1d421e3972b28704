use Rattle.std.proofs.Common.{refl}
use Rattle.batching.specs.Making.{BatchView, batch_seen}
use Rattle.batching.proofs.Ending.{Makes-batch, batched, batched-unnoted, batched-nothing}
use Rattle.batching.proofs.run.batch_over.Goals as goal

-- without memory for the core nothing happened
pub returns-in_default-clause-batched : goal.returns-in_default-clause-batched
returns-in_default-clause-batched g c =
    rw c.without_history.ensures (batched-nothing c.args.config.now c.args.seed c.args.carriers (g.K.Sink.held c.args.out.now) c.requires.bounds)

-- without memory for the notes there are none
pub returns-in_default-notes_of-clause-batched : goal.returns-in_default-notes_of-clause-batched
returns-in_default-notes_of-clause-batched g c =
    let first : BatchView = record { core = g.C.Recorder.view c.in-Ok.core; asked = c.new.result.items; drawn = c.args.seed } in
    let made = Makes-batch c.args.config.now c.args.seed c.args.carriers first (batch_seen g.C.Recorder.view c.run-ran.new.batch) c.run-ran.result c.in-Ok.ensures c.new.ensures.items refl c.run-ran.ensures.made in
    rw (c.with_history.ensures, c.close.ensures.history, c.none.ensures)
    (batched-unnoted c.args.config.now c.args.seed c.args.carriers (batch_seen g.C.Recorder.view c.run-ran.new.batch) c.run-ran.result c.finish-cause.result (g.K.Sink.held c.args.out.now) (g.K.Sink.held c.finish-cause.new.out)
    made c.finish-cause.ensures.summed c.close.ensures.recorded c.close.ensures.entries_fit c.close.ensures.bytes_fit)

pub returns-clause-batched : goal.returns-clause-batched
returns-clause-batched g c =
    let first : BatchView = record { core = g.C.Recorder.view c.in-Ok.core; asked = c.new.result.items; drawn = c.args.seed } in
    let made = Makes-batch c.args.config.now c.args.seed c.args.carriers first (batch_seen g.C.Recorder.view c.run-ran.new.batch) c.run-ran.result c.in-Ok.ensures c.new.ensures.items refl c.run-ran.ensures.made in
    rw (c.with_history-2.ensures, c.close-2.ensures.history)
    (batched c.args.config.now c.args.seed c.args.carriers (batch_seen g.C.Recorder.view c.run-ran.new.batch) c.run-ran.result c.finish-cause.result (g.K.Sink.held c.args.out.now) (g.K.Sink.held c.finish-cause.new.out) c.in-Ok-notes_of.sessions
    made c.finish-cause.ensures.ends c.finish-cause.ensures.summed c.close-2.ensures.recorded c.close-2.ensures.entries_fit c.close-2.ensures.bytes_fit c.in-Ok-notes_of.ensures)

pub returns-clause-write_fault : goal.returns-clause-write_fault
returns-clause-write_fault g c = rw c.with_history-2.ensures c.finish-cause.ensures.write_fault
