use Rattle.std.proofs.Common.{◌∙◌, arith}
use Rattle.transactions.proofs.Keeping.{holds-length}
use Rattle.transactions.proofs.table.Transactions.len.Goals as goal

pub returns-clause-len : goal.returns-clause-len
returns-clause-len c =
    let same = holds-length c.self.inside.slab _ _ c.self.invariant.holds in
    rw (← c.self.view_is) (c.len.ensures ∙ c.self.inside.order.ok.0 ∙ same)

pub returns-clause-table : goal.returns-clause-table
returns-clause-table c =
    let same = holds-length c.self.inside.slab _ _ c.self.invariant.holds in
    rw (← c.self.view_is) (record { within = omega arith; different = c.self.invariant.different })
