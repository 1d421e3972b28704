use Rattle.std.proofs.Common.{◌≡◌, true, Result, length}
use Rattle.history_parts.specs.CoreView.{CoreView}
use Rattle.gem_model.specs.State.{is_session_up}
use Rattle.gem_model.specs.Feed.{taken_all}
use Rattle.driving.specs.declared.handler.Stop.{Stop}
use Rattle.driving.specs.Driving.{Drives}
use Rattle.driving.proofs.engine.take_frames.Given as goal

-- the core is whole, and the session up; and whatever the rest does, with what was taken it does all
abbrev pub invariant-loop-alloc : goal.invariant-loop-alloc
invariant-loop-alloc g l = record {
  whole : (g.C.Recorder.view l.core).is_whole ≡ true;
  up : is_session_up (g.C.Recorder.view l.core).state l.session ≡ true;
  joined : (core : CoreView) (out : g.row.O.Denot) (result : Result (Unit {0}) Stop) → Drives g.H.AnswerHandler.handles (g.C.Recorder.view l.core) core l.out out (taken_all (g.C.Recorder.view l.core).state) result
      → Drives g.H.AnswerHandler.handles (g.C.Recorder.view l.fn.core) core l.fn.out out (taken_all (g.C.Recorder.view l.fn.core).state) result;
}

abbrev pub decreases-loop-alloc : goal.decreases-loop-alloc
decreases-loop-alloc g l = length (g.C.Recorder.view l.core).state.waiting
