use Rattle.std.proofs.Common.{sym, arith}
use Rattle.item_model.specs.View.{view}
use Rattle.secs_items.proofs.Decoding.{bytes_below}
use Rattle.secs_items.proofs.OneItem.{front_one, longer_none, fault_none}
use Rattle.secs_items.proofs.one.read_one.Goals as goal

pub returns-then-used-bytes-clause-exact : goal.returns-then-used-bytes-clause-exact
returns-then-used-bytes-clause-exact c =
    sym (front_one c.args.bytes.now (view c.in-Ok.item) c.in-Ok.used (omega (arith, c.if-used-bytes.true, c.in-Ok.ensures.within)) c.in-Ok.ensures.found)

pub returns-else-used-bytes-clause-exact : goal.returns-else-used-bytes-clause-exact
returns-else-used-bytes-clause-exact c =
    sym (longer_none c.args.bytes.now (view c.in-Ok.item) c.in-Ok.used (omega (arith, c.if-used-bytes.false, c.in-Ok.ensures.within)) c.in-Ok.ensures.found)

pub returns-in_default : goal.returns-in_default
returns-in_default c =
    let below = bytes_below c.args.bytes.now c.type_inv.bytes in
    record { exact = sym (fault_none c.args.bytes.now c.in-Err.fault below (c.in-Err.ensures.fault c.in_default.not-NoMemory)); sendable = tt }
