use Rattle.std.proofs.Common.{Ok, Err}
use Rattle.std.specs.VecDeque.{deque_items}
use Rattle.driving.specs.declared.handler.Stop.TheVariants as halt
use Rattle.batching.proofs.Keeping.{has_step, Makes-driven}
use Rattle.batching.proofs.keeper.enter.Goals as goal

pub input-requires-clause-step : goal.input-requires-clause-step
input-requires-clause-step g c = has_step (g.C.Recorder.view c.args.batch.now.core).state c.args.event c.requires.input

pub returns-in-Ok-clause-made : goal.returns-in-Ok-clause-made
returns-in-Ok-clause-made g c =
    Makes-driven deque_items _ _ _ _ c.args.batch.now.drawn c.args.event (Ok tt) c.requires.input c.input.ensures.before.run c.in-Ok.ensures.drives

pub returns-in-Err-Full-clause-made : goal.returns-in-Err-Full-clause-made
returns-in-Err-Full-clause-made g c =
    Makes-driven deque_items _ _ _ _ c.args.batch.now.drawn c.args.event (Err halt.Full) c.requires.input c.input.ensures.before.run (rw c.in-Err-Full.field-0-is at c.in-Err-Full.ensures.drives)

pub returns-in-Err-NoMemory-clause-made : goal.returns-in-Err-NoMemory-clause-made
returns-in-Err-NoMemory-clause-made g c =
    Makes-driven deque_items _ _ _ _ c.args.batch.now.drawn c.args.event (Err halt.NoMemory) c.requires.input c.input.ensures.before.run (rw c.in-Err-NoMemory.field-0-is at c.in-Err-NoMemory.ensures.drives)

pub returns-in-Err-Refused-clause-made : goal.returns-in-Err-Refused-clause-made
returns-in-Err-Refused-clause-made g c =
    Makes-driven deque_items _ _ _ _ c.args.batch.now.drawn c.args.event (Err halt.Refused) c.requires.input c.input.ensures.before.run (rw c.in-Err-Refused.field-0-is at c.in-Err-Refused.ensures.drives)
