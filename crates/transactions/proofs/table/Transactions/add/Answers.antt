use Rattle.std.proofs.Common.{◌<◌, length, arith}
use Rattle.std.proofs.lemmas.Bool.Decides.{nat_tests}
use Rattle.std.proofs.lemmas.List.{length_push}
use Rattle.transactions.specs.Table.{limit}
use Rattle.transactions.specs.Kept.{under}
use Rattle.transactions.proofs.Keeping.{holds-length, after-push}
use Rattle.transactions.proofs.table.Transactions.add.Goals as goal

pub insert_reserved-key-requires : goal.insert_reserved-key-requires
insert_reserved-key-requires c =
    let same = holds-length c.self.inside.slab _ _ c.self.invariant.holds in
    let room = rw (← c.self.view_is) at c.requires.room in
    let below : length (under c.self.inside.slab c.self.inside.order.items) < limit = grind (arith, nat_tests) in
    omega (arith, c.self.invariant.count)

pub push_reserved-requires : goal.push_reserved-requires
push_reserved-requires c =
    let same = holds-length c.self.inside.slab _ _ c.self.invariant.holds in
    let room = rw (← c.self.view_is) at c.requires.room in
    let below : length (under c.self.inside.slab c.self.inside.order.items) < limit = grind (arith, nat_tests) in
    omega (arith, c.self.inside.order.ok.0)

pub invariant_of-self : goal.invariant_of-self
invariant_of-self c =
    let same = holds-length c.self.inside.slab _ _ c.self.invariant.holds in
    let room = rw (← c.self.view_is) at c.requires.room in
    let free = rw (← c.self.view_is) at c.requires.free in
    let below : length (under c.self.inside.slab c.self.inside.order.items) < limit = grind (arith, nat_tests) in
    let added = after-push c.self.inside.slab c.insert_reserved-key.new.self c.self.inside.order.items c.insert_reserved-key.result c.args.one
    c.self.invariant.holds c.self.invariant.different free c.insert_reserved-key.ensures.was_vacant c.insert_reserved-key.ensures.updates in
    let longer = length_push c.self.inside.order.items c.insert_reserved-key.result in
    record {
      holds = rw c.push_reserved.ensures.items added.holds;
      different = rw c.push_reserved.ensures.items added.different;
      count = rw c.push_reserved.ensures.items (omega (arith, longer, c.insert_reserved-key.ensures.len, c.self.invariant.count));
      within = rw c.push_reserved.ensures.items (omega (arith, longer));
      slab_room = omega (arith, c.insert_reserved-key.ensures.capacity, c.self.invariant.slab_room);
      order_room = omega (arith, c.push_reserved.ensures.capacity, c.self.invariant.order_room);
    }

pub returns-clause-opened : goal.returns-clause-opened
returns-clause-opened c =
    let free = rw (← c.self.view_is) at c.requires.free in
    let added = after-push c.self.inside.slab c.insert_reserved-key.new.self c.self.inside.order.items c.insert_reserved-key.result c.args.one
    c.self.invariant.holds c.self.invariant.different free c.insert_reserved-key.ensures.was_vacant c.insert_reserved-key.ensures.updates in
    rw (← c.self.view_is, c.push_reserved.ensures.items) added.opened
