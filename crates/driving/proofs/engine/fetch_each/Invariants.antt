use Rattle.std.proofs.Common.{◌≡◌, true, Result, drop}
use Rattle.history_parts.specs.CoreView.{CoreView}
use Rattle.floor_model.specs.Floor.{module_numbers}
use Rattle.gem_model.specs.Feed.{fetched_by}
use Rattle.driving.specs.declared.handler.Stop.{Stop}
use Rattle.driving.specs.Driving.{Drives}
use Rattle.driving.proofs.engine.fetch_each.Given as goal

-- the core is whole; and whatever the modules that are left do, with what was fetched they do all
abbrev pub invariant-loop-index : goal.invariant-loop-index
invariant-loop-index g l = record {
  whole : (g.C.Recorder.view l.core).is_whole ≡ true;
  joined : (core : CoreView) (out : g.row.O.Denot) (result : Result (Unit {0}) Stop) → Drives g.H.AnswerHandler.handles (g.C.Recorder.view l.core) core l.out out (fetched_by (drop l.index (module_numbers 1 (g.C.Recorder.view l.fn.core).state.floor.modules)) (g.C.Recorder.view l.core).state) result
      → Drives g.H.AnswerHandler.handles (g.C.Recorder.view l.fn.core) core l.fn.out out (fetched_by (module_numbers 1 (g.C.Recorder.view l.fn.core).state.floor.modules) (g.C.Recorder.view l.fn.core).state) result;
}
