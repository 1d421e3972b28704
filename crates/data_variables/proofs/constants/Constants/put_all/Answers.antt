use Rattle.std.proofs.Common.{◌∙◌, None, get_or}
use Rattle.data_variables.proofs.Codes.{good_at, says_none}
use Rattle.data_variables.proofs.Said.{said_at, said_all}
use Rattle.data_variables.proofs.constants.Constants.put_all.Goals.{in-Some, in_default}
use Rattle.data_variables.proofs.constants.Constants.put_all.Goals as goal

pub returns : goal.returns
returns c = said_all c.args.sets.now c.loop-ecid.ecid-index c.loop-ecid.self _ c.loop-ecid-test.false c.loop-ecid.invariant.said

pub loop-ecid-preserved : goal.loop-ecid-preserved
loop-ecid-preserved c =
    let good = good_at c.args.sets.now c.loop-ecid.ecid-index (0, None) c.loop-ecid-test.true c.loop-ecid.invariant.good in
    elim c.match-said.branch [
      | in-Some w ↦ record {
        good = good.1;
        said = said_at c.args.sets.now c.loop-ecid.ecid-index (0, None) w.in-Some.value c.loop-ecid.self c.match-said.self _ c.loop-ecid-test.true w.in-Some.is (w.self-is ∙ w.put.ensures) c.loop-ecid.invariant.said;
      }
      | in_default w ↦ absurd (says_none (get_or c.args.sets.now c.loop-ecid.ecid-index (0, None)) good.0 w.in_default.is)
    ]
