use Rattle.std.proofs.Common.{◌<◌, List, length, arith}
use Rattle.robot_moves.specs.declared.module.Module.{Module}
use Rattle.batch_model.specs.declared.fetched.Fetched.{Fetched}
use Rattle.batch_model.specs.Batch.{busy}
use Rattle.batching.proofs.Choosing.{busy-some, busy-none}
use Rattle.batching.proofs.Busy.{busy-all}
use Rattle.batching.proofs.modules.busy.Goals.{in-Some+in_ok-push, in_default}
use Rattle.batching.proofs.modules.busy.Goals as goal

pub loop-index-preserved : goal.loop-index-preserved
loop-index-preserved g c =
    let ms : List Module = (g.C.Recorder.view c.args.core.now).state.floor.modules in
    let all : List Fetched = busy (g.C.Recorder.view c.args.core.now).state in
    let within : c.loop-index.index < length ms = omega (arith, c.loop-index-test.true, c.module_count-count.ensures.count) in
    elim c.match-fetched_number.branch [
      | in-Some+in_ok-push w ↦
          rw w.found-is (busy-some all ms c.loop-index.index c.loop-index.found.items w.push.new.self.items w.in-Some.command within w.in-Some.ensures c.loop-index.invariant w.in_ok-push.ensures.items)
      | in_default w ↦
          rw w.found-is (busy-none all ms c.loop-index.index c.loop-index.found.items within w.in_default.ensures c.loop-index.invariant)
    ]

pub returns : goal.returns
returns g c =
    busy-all (busy (g.C.Recorder.view c.args.core.now).state) (g.C.Recorder.view c.args.core.now).state.floor.modules c.loop-index.index c.loop-index.found.items (omega (arith, c.loop-index-test.false, c.module_count-count.ensures.count)) c.loop-index.invariant
