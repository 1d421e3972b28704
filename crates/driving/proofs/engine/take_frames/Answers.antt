use Rattle.std.proofs.Common.{◌≢◌, rules, subst, ◌≡◌, true, sym, None}
use Rattle.tool_events.specs.declared.event.Event.TheVariants.{Take}
use Rattle.gem_model.specs.State.{State, is_session_up}
use Rattle.gem_model.specs.Step.{step}
use Rattle.gem_model.proofs.Taking.{take_one, take_none}
use Rattle.driving.proofs.Parts.{Drives-take, Drives-take-stops, Drives-take-none}
use Rattle.driving.proofs.engine.take_frames.Goals as goal

pub loop-alloc-preserved : goal.loop-alloc-preserved
loop-alloc-preserved g c =
    let some : step (g.C.Recorder.view c.loop-alloc.core).state 0 (Take c.args.session) ≢ None = search rules in
    let takes = take_one (g.C.Recorder.view c.loop-alloc.core).state c.args.session c.idle.ensures.valid c.loop-alloc.invariant.up some in
    record {
      whole = c.in-Ok.ensures.whole;
      up = subst (λ (s : State). is_session_up s c.args.session ≡ true) (sym c.in-Ok.ensures.drives.went.1) takes.up;
      joined = λ core out result rest. c.loop-alloc.invariant.joined core out result (Drives-take g.H.AnswerHandler.handles _ _ _ _ _ _ c.args.session result takes c.in-Ok.ensures.drives rest);
    }

pub returns-in-Err-clause-drives : goal.returns-in-Err-clause-drives
returns-in-Err-clause-drives g c =
    let some : step (g.C.Recorder.view c.loop-alloc.core).state 0 (Take c.args.session) ≢ None = search rules in
    let takes = take_one (g.C.Recorder.view c.loop-alloc.core).state c.args.session c.idle.ensures.valid c.loop-alloc.invariant.up some in
    c.loop-alloc.invariant.joined _ _ _ (Drives-take-stops g.H.AnswerHandler.handles _ _ _ _ c.args.session c.in-Err.stop takes c.in-Err.ensures.drives)

pub returns-clause-drives : goal.returns-clause-drives
returns-clause-drives g c =
    let none : step (g.C.Recorder.view c.loop-alloc.core).state 0 (Take c.args.session) ≡ None = search rules in
    c.loop-alloc.invariant.joined _ _ _ (Drives-take-none g.H.AnswerHandler.handles _ _ (take_none (g.C.Recorder.view c.loop-alloc.core).state c.args.session c.idle.ensures.valid c.loop-alloc.invariant.up none))
