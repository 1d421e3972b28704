use Rattle.std.proofs.Common.{length, ap, arith}
use Rattle.tool_tasks.specs.Places.{held_count}
use Rattle.tool_tasks.proofs.Putting.{holds_more}
use Rattle.tool_tasks.proofs.recipes.Recipes.push.Goals as goal

pub invariant_of-self : goal.invariant_of-self
invariant_of-self c =
    let count = held_count _ _ _ _ c.self.invariant in
    let recipes = ap length c.self.view_is in
    holds_more _ _ _ _ _ c.self.invariant (omega arith)
