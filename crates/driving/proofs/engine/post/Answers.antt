use Rattle.std.proofs.Common.{[], Result, Err, refl, sym, ◌∙◌, ap}
use Rattle.tool_events.specs.declared.answer.PostFault.{PostFault}
use Rattle.tool_events.specs.Posts as posts
use Rattle.gem_model.specs.Feed.{entry_of}
use Rattle.history_parts.specs.CoreView.{CoreView}
use Rattle.driving.specs.declared.handler.Unhandled.{Unhandled}
use Rattle.driving.proofs.Ended.{Added, ended_is}
use Rattle.driving.proofs.Parts.{handled_as, Drives-added, Drives-refused, Drives-unhandled, Drives-unmoved, Drives-full}
use Rattle.driving.proofs.engine.post.Goals as goal

pub returns-in-Ok-handle-clause-drives : goal.returns-in-Ok-handle-clause-drives
returns-in-Ok-handle-clause-drives g c =
    let step = c.in-Ok.ensures.step in
    let added : Added (g.C.Recorder.view c.args.core.now) (g.C.Recorder.view c.apply.new.self) _ step.0 = record { config = c.apply.ensures.config; ran = c.apply.ensures.before.run; here = step.1; history = c.in-Ok.ensures.entry; state = step.3 } in
    Drives-added g.H.AnswerHandler.handles _ _ _ _ _ step.0 added
    (handled_as g.H.AnswerHandler.handles _ _ _ _ _ _ _ _ _ _ c.fetches-fetching.ensures (sym step.2) (ended_is _ _ _ _ added _ c.session_up-before.ensures.session _ c.ended_now-ended.ensures) refl c.in-Ok-handle.ensures)

-- there was no memory to hand it on
pub returns-in-Err-NoMemory-clause-drives : goal.returns-in-Err-NoMemory-clause-drives
returns-in-Err-NoMemory-clause-drives g c =
    let step = c.in-Ok.ensures.step in
    let added : Added (g.C.Recorder.view c.args.core.now) (g.C.Recorder.view c.apply.new.self) _ step.0 = record { config = c.apply.ensures.config; ran = c.apply.ensures.before.run; here = step.1; history = c.in-Ok.ensures.entry; state = step.3 } in
    Drives-unhandled g.H.AnswerHandler.handles _ _ _ _ _ step.0 added
    (handled_as g.H.AnswerHandler.handles _ _ _ _ _ _ _ _ _ _ c.fetches-fetching.ensures (sym step.2) (ended_is _ _ _ _ added _ c.session_up-before.ensures.session _ c.ended_now-ended.ensures) (ap (λ (f : Unhandled). Err f) c.in-Err-NoMemory.field-0-is) c.in-Err-NoMemory.ensures)

-- it was refused
pub returns-in-Err-Refused-clause-drives : goal.returns-in-Err-Refused-clause-drives
returns-in-Err-Refused-clause-drives g c =
    let step = c.in-Ok.ensures.step in
    let added : Added (g.C.Recorder.view c.args.core.now) (g.C.Recorder.view c.apply.new.self) _ step.0 = record { config = c.apply.ensures.config; ran = c.apply.ensures.before.run; here = step.1; history = c.in-Ok.ensures.entry; state = step.3 } in
    Drives-refused g.H.AnswerHandler.handles _ _ _ _ _ step.0 added
    (handled_as g.H.AnswerHandler.handles _ _ _ _ _ _ _ _ _ _ c.fetches-fetching.ensures (sym step.2) (ended_is _ _ _ _ added _ c.session_up-before.ensures.session _ c.ended_now-ended.ensures) (ap (λ (f : Unhandled). Err f) c.in-Err-Refused.field-0-is) c.in-Err-Refused.ensures)

-- an event that has a step does not have to wait; want of memory changes neither history nor state
pub returns-in-Err-Again-clause-drives : goal.returns-in-Err-Again-clause-drives
returns-in-Err-Again-clause-drives g c =
    Drives-unmoved g.H.AnswerHandler.handles _ _ _ _ (record {
      config = c.apply.ensures.config;
      history = ap (λ (core : CoreView). core.history) c.in-Err-Again.ensures.unchanged;
      state = ap (λ (core : CoreView). core.state) c.in-Err-Again.ensures.unchanged;
    })

-- the limits stand
pub returns-in-Err-Full-clause-drives : goal.returns-in-Err-Full-clause-drives
returns-in-Err-Full-clause-drives g c =
    Drives-full g.H.AnswerHandler.handles _ _ _ _ (entry_of c.args.at.0 c.args.event) [] (record {
      config = c.apply.ensures.config;
      history = ap (λ (core : CoreView). core.history) c.in-Err-Full.ensures.unchanged;
      state = ap (λ (core : CoreView). core.state) c.in-Err-Full.ensures.unchanged;
    }) refl (sym c.in-Err-Full.ensures.full ∙ ap (λ (fault : PostFault). posts.is_full (Err fault)) c.in-Err-Full.field-0-is)
