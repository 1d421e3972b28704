use Rattle.std.proofs.Common.{◌-◌, arith}
use Rattle.std.proofs.lemmas.Nat.{one_shl, or_lt, pow_below}
use Rattle.tool_tasks.proofs.chambers.RecipeChambers.with.Goals as goal

pub invariant_of-result : goal.invariant_of-result
invariant_of-result c =
    let last = c.requires.last in
    rw (one_shl (c.args.c - 1) 8 (omega (arith, last))) (or_lt 8 _ _ c.self.invariant (pow_below (c.args.c - 1) 8 (omega (arith, last))))
