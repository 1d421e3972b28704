use Rattle.std.proofs.Common.{sym}
use Rattle.event_reports.proofs.Giving.{joined-none, values_more, values_all}
use Rattle.event_reports.proofs.reports.push_values.Goals as goal

pub loop-vid-init : goal.loop-vid-init
loop-vid-init g c = sym (joined-none c.args.out.now)

pub loop-vid-preserved : goal.loop-vid-preserved
loop-vid-preserved g c =
    values_more (g.V.Values.value_of c.args.v.now) c.args.vids.now c.loop-vid.vid-index _ c.loop-vid.out c.push_value.new.out c.loop-vid-test.true c.loop-vid.invariant
    (rw (← c.in_ok-value.ensures) c.in_ok-push_value.ensures.pushed)

pub returns-clause-values : goal.returns-clause-values
returns-clause-values g c =
    values_all (g.V.Values.value_of c.args.v.now) c.args.vids.now c.loop-vid.vid-index _ c.loop-vid.out c.loop-vid-test.false c.loop-vid.invariant
