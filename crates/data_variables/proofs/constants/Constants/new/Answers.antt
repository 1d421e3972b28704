use Rattle.data_variables.specs.declared.val.Val.TheVariants.{Number}
use Rattle.data_variables.proofs.Rising.{next_inserted}
use Rattle.data_variables.proofs.constants.Constants.new.Goals as goal

pub loop-ecid-preserved : goal.loop-ecid-preserved
loop-ecid-preserved c =
    next_inserted c.args.c.now c.loop-ecid.values.entries c.insert.new.self.entries c.loop-ecid.ecid-index (0, Number 0) c.requires c.loop-ecid-test.true c.loop-ecid.invariant c.in_ok-insert.ensures.entries
