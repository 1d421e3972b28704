use Rattle.data_variables.specs.Bodies.{name_item}
use Rattle.data_variables.proofs.Told.{told_more}
use Rattle.data_variables.proofs.bodies.name_items.Goals as goal

pub loop-ecid-preserved : goal.loop-ecid-preserved
loop-ecid-preserved c =
    let more = told_more name_item c.args.ids.now c.loop-ecid.ecid-index 0 c.loop-ecid-test.true in
    cc (more, c.in_ok-push.ensures.ok, c.in_ok-name_item.ensures)
