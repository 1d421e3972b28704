use Rattle.gem_model.specs.Feed.{and_then, entered, taken_all, fetched_all}
use Rattle.driving.proofs.Parts.{Drives-then, Drives-stops}
use Rattle.driving.proofs.engine.input.Goals as goal

pub returns-in-Ok-clause-drives : goal.returns-in-Ok-clause-drives
returns-in-Ok-clause-drives g c =
    Drives-then g.H.AnswerHandler.handles _ _ _ _ _ _ (and_then (entered (g.C.Recorder.view c.args.core.now).state c.args.at.0 c.args.event) taken_all) fetched_all c.fetch_all.result c.in-Ok.ensures.drives c.fetch_all.ensures.drives

pub returns-in-Err-clause-drives : goal.returns-in-Err-clause-drives
returns-in-Err-clause-drives g c =
    Drives-stops g.H.AnswerHandler.handles _ _ _ _ (and_then (entered (g.C.Recorder.view c.args.core.now).state c.args.at.0 c.args.event) taken_all) fetched_all c.in-Err.stop c.in-Err.ensures.drives
