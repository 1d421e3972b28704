use Rattle.std.proofs.Common.{arith}
use Rattle.event_reports.specs.Values.{AreSmallValues}
use Rattle.gem_model.specs.Values.{value_of}
use Rattle.plant_values.proofs.Small.{all_small}
use Rattle.plant_values.proofs.seen.Seen.one_on.Goals as goal

pub returns-clause-values : goal.returns-clause-values
returns-clause-values c =
    rw (← c.self.view_is) (rw (c.new-values.ensures, c.showing-showing.ensures.object, c.showing-showing.ensures.row, c.showing-showing.ensures.seen, ← c.self.view_is) at c.in_ok-one.ensures.values)

pub returns-clause-few : goal.returns-clause-few
returns-clause-few c =
    let small : AreSmallValues (value_of (record { object = c.showing-showing.result.object; row = c.showing-showing.result.row }) c.showing-showing.result.seen.now) =
    rw (c.showing-showing.ensures.object, c.showing-showing.ensures.row, c.showing-showing.ensures.seen)
    (all_small (record { object = c.args.object; row = c.args.row }) c.args.self.now c.prints.ensures c.few_alarms.ensures c.shown_names.ensures) in
    rw (c.in_ok-one.ensures.values, c.new-values.ensures) ((omega (arith, c.in_ok-one.ensures.few)), c.in_ok-one.ensures.bounded small)
