use Rattle.std.proofs.Common.{refl, inl, inr, ◌∙◌}
use Rattle.host_actor.specs.Links.{door_told}
use Rattle.serving.proofs.Serving.{door_stays, door_same, ran_from}
use Rattle.serving.proofs.run.serve_over.Goals as goal

pub returns-in_default-clause-served : goal.returns-in_default-clause-served
returns-in_default-clause-served g c =
    let o = c.in_default.ensures in
    inr (record {
      none = (c.close_unopened.ensures.none.0, c.close_unopened.ensures.none.1);
      stays = (refl, refl, door_stays (door_told g.X.Door.left g.X.Door.backs g.X.Door.opened_at g.X.Door.faults g.X.Door.links g.X.Door.waits g.X.Door.closings c.args.door.now) (door_told g.X.Door.left g.X.Door.backs g.X.Door.opened_at g.X.Door.faults g.X.Door.links g.X.Door.waits g.X.Door.closings c.open.new.self) o.left o.backs o.links o.waits o.closings);
      port = o.port;
      closed = inl (o.failed, c.close_unopened.ensures.closed c.args.config.now);
    })

pub returns-in-Ok-run_tool-clause-served : goal.returns-in-Ok-run_tool-clause-served
returns-in-Ok-run_tool-clause-served g c =
    let o = c.in-Ok.ensures in
    let ran = c.in-Ok-run_tool.ensures in
    inl (ran_from _ _ _ _ _ _ _ _ _ _ _ _ _ _ _ _ _ (door_same (door_told g.X.Door.left g.X.Door.backs g.X.Door.opened_at g.X.Door.faults g.X.Door.links g.X.Door.waits g.X.Door.closings c.args.door.now) (door_told g.X.Door.left g.X.Door.backs g.X.Door.opened_at g.X.Door.faults g.X.Door.links g.X.Door.waits g.X.Door.closings c.open.new.self) o.left o.backs o.links o.waits o.closings o.unfailed) o.port ran.did ran.config c.close_run.ensures.history c.close_run.ensures.closed)
