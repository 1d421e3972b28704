use Rattle.std.proofs.Common.{◌∙◌, sym, arith}
use Rattle.transactions.proofs.Keeping.{holds-length, read-at, has-key}
use Rattle.transactions.proofs.table.Transactions.at.Goals as goal

pub index-requires : goal.index-requires
index-requires c =
    let same = holds-length c.self.inside.slab _ _ c.self.invariant.holds in
    let within = rw (← c.self.view_is) at c.requires in
    omega (arith, c.self.inside.order.ok.0)

pub index-requires-2 : goal.index-requires-2
index-requires-2 c =
    let within = rw (← c.self.view_is) at c.requires in
    has-key c.self.inside.slab c.self.inside.order.items _ _ c.self.invariant.holds within c.index.ensures

pub returns : goal.returns
returns c =
    let within = rw (← c.self.view_is) at c.requires in
    let found = read-at c.self.inside.slab c.self.inside.order.items _ _ c.self.invariant.holds within c.index.ensures in
    rw (← c.self.view_is) (sym found ∙ c.index-2.ensures)
