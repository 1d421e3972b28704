use Rattle.std.proofs.Common.{◌∙◌, List, sym, ap, arith}
use Rattle.transactions.specs.declared.transaction.Open.{Open}
use Rattle.transactions.specs.Table.{Table}
use Rattle.transactions.specs.Kept.{under}
use Rattle.transactions.proofs.Systems.{taken-none, taken-at}
use Rattle.transactions.proofs.Keeping.{holds-length, after-remove, has-key}
use Rattle.transactions.proofs.table.Transactions.take_out.Goals as goal

pub returns-in_default-place_of : goal.returns-in_default-place_of
returns-in_default-place_of c =
    taken-none c.args.self.now c.args.found c.in-Some.one c.in-Some.is c.in_default-place_of.ensures.none

pub remove-key-requires : goal.remove-key-requires
remove-key-requires c =
    let same = holds-length c.self.inside.slab _ _ c.self.invariant.holds in
    let within = rw (← c.self.view_is) at c.in-Some-place_of.ensures.within in
    omega (arith, c.self.inside.order.ok.0)

pub remove-requires : goal.remove-requires
remove-requires c =
    let within = rw (← c.self.view_is) at c.in-Some-place_of.ensures.within in
    has-key c.self.inside.slab c.self.inside.order.items _ _ c.self.invariant.holds within c.remove-key.ensures.value

pub invariant_of-self : goal.invariant_of-self
invariant_of-self c =
    let within = rw (← c.self.view_is) at c.in-Some-place_of.ensures.within in
    let removed = after-remove c.self.inside.slab c.remove.new.self c.self.inside.order.items c.in-Some-place_of.place c.remove-key.result
    c.self.invariant.holds c.self.invariant.different within c.remove-key.ensures.value c.remove.ensures.updates in
    record {
      holds = rw c.remove-key.ensures.items removed.holds;
      different = rw c.remove-key.ensures.items removed.different;
      count = omega (arith, c.remove-key.new.self.ok.0, c.self.inside.order.ok.0, c.remove-key.ensures.len, c.remove.ensures.len, c.self.invariant.count);
      within = omega (arith, c.remove-key.new.self.ok.0, c.self.inside.order.ok.0, c.remove-key.ensures.len, c.self.invariant.within);
      slab_room = omega (arith, c.remove.ensures.capacity, c.self.invariant.slab_room);
      order_room = omega (arith, c.remove-key.ensures.capacity, c.self.invariant.order_room);
    }

pub returns : goal.returns
returns c =
    let within = rw (← c.self.view_is) at c.in-Some-place_of.ensures.within in
    let first = rw (← c.self.view_is) at c.in-Some-place_of.ensures.first in
    let removed = after-remove c.self.inside.slab c.remove.new.self c.self.inside.order.items c.in-Some-place_of.place c.remove-key.result
    c.self.invariant.holds c.self.invariant.different within c.remove-key.ensures.value c.remove.ensures.updates in
    let taken = taken-at (under c.self.inside.slab c.self.inside.order.items) c.in-Some-place_of.place c.in-Some.one.system c.self.invariant.different within first in
    let opened = ap (under c.remove.new.self) c.remove-key.ensures.items ∙ removed.opened ∙ sym taken in
    rw (← c.self.view_is, c.in-Some.is) (ap (λ (os : List Open). let t : Table = record { next = c.self.inside.next; opened = os } in t) opened)
