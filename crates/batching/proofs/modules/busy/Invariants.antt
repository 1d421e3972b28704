use Rattle.std.proofs.Common.{◌≡◌, ◌+◌, ◌++◌, drop}
use Rattle.batch_model.specs.Modules.{fetched_from}
use Rattle.batch_model.specs.Batch.{busy}
use Rattle.batching.proofs.modules.busy.Given as goal

-- those that were found, with those among the modules that are left, are all
abbrev pub invariant-loop-index : goal.invariant-loop-index
invariant-loop-index g l = l.found.items ++ fetched_from (l.index + 1) (drop l.index (g.C.Recorder.view l.core).state.floor.modules) ≡ busy (g.C.Recorder.view l.core).state
