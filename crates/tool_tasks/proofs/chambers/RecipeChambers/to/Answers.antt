use Rattle.std.proofs.Common.{◌^◌, ◌≤◌, arith}
use Rattle.std.proofs.lemmas.Nat.{one_shl, pow_pos}
use Rattle.std.proofs.Math.Nat.{pow-le-pow_right}
use Rattle.tool_tasks.proofs.chambers.RecipeChambers.to.Goals as goal

pub invariant_of-result : goal.invariant_of-result
invariant_of-result c =
    let last = c.requires in
    let most : 2 ^ c.args.last ≤ 2 ^ 8 = pow-le-pow_right (omega arith) last in
    omega (arith, one_shl c.args.last 16 (omega (arith, last)), pow_pos c.args.last, most)
