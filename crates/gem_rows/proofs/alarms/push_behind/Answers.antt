use Rattle.std.proofs.Common.{◌+◌}
use Rattle.gem_rows.proofs.Numbers.{list_and_more}
use Rattle.gem_rows.proofs.alarms.push_behind.Goals as goal

pub loop-number-preserved : goal.loop-number-preserved
loop-number-preserved c =
    let more = list_and_more c.args.ids.now (c.args.base + 1) c.loop-number.number in
    cc (more, c.in_ok-push.ensures.ok)
