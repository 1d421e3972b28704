use Rattle.std.proofs.Common.{◌==◌, ◌∙◌, ap, ℕ}
use Rattle.transactions.proofs.Keeping.{holds-length}
use Rattle.transactions.proofs.table.Transactions.is_empty.Goals as goal

pub returns : goal.returns
returns c =
    let same = holds-length c.self.inside.slab _ _ c.self.invariant.holds in
    rw (← c.self.view_is) (c.is_empty.ensures ∙ ap (λ (n : ℕ). n == 0) (c.self.inside.order.ok.0 ∙ same))
