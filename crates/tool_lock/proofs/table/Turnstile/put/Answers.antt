use Rattle.std.proofs.Common.{rules, ◌∙◌, sym, arith, Some}
use Rattle.tool_lock.proofs.Glue.{unchanged, changed, leaves_same, counts_more, counted_so, leaves_more, rests_after, put_more}
use Rattle.tool_lock.proofs.table.Turnstile.put.Goals as goal

pub fetch_add-left-requires : goal.fetch_add-left-requires
fetch_add-left-requires g c = let K = g.V.Kept in (
  search rules,
  search rules,
  leaves_same K.history K.number K.opening _ _ _ c.args.seat.now.me _ c.args.value c.requires.served c.exchange.ensures.3 (unchanged K.history K.number K.opening c.args.seat.now.me.0.claims c.args.value c.requires.next (sym c.count-after.ensures ∙ (c.if-after-before.true ∙ c.requires.before))) c.requires.opening,
)

pub fetch_add-requires : goal.fetch_add-requires
fetch_add-requires g c = let K = g.V.Kept in (
  search rules,
  search rules,
  counts_more K.history K.number K.opening _ _ _ c.args.seat.now.me _ c.args.value c.requires.served c.requires.opening c.exchange.ensures.3 (let m = c.count-after.type_inv in let e = c.count-after.ensures in omega arith) (changed K.history K.number K.opening c.args.seat.now.me.0.claims c.args.value c.requires.next (λ e. c.if-after-before.false (c.count-after.ensures ∙ (e ∙ sym c.requires.before)))),
)

pub fetch_add-left-requires-2 : goal.fetch_add-left-requires-2
fetch_add-left-requires-2 g c = let K = g.V.Kept in (
  search rules,
  search rules,
  leaves_more K.history K.number K.opening _ _ _ c.args.seat.now.me _ c.args.value (counted_so K.history K.number K.opening c.fetch_add.result c.args.seat.now.me _ _ c.args.value c.requires.served c.exchange.ensures.3 c.fetch_add.ensures.2),
)

pub returns-then-after-before-clause-rests : goal.returns-then-after-before-clause-rests
returns-then-after-before-clause-rests g c = let K = g.V.Kept in (c.requires.served.0, rests_after K.history K.number K.opening c.fetch_add-left.result c.args.seat.now.me _ _ (Some c.args.value) c.requires.served c.exchange.ensures.3 c.fetch_add-left.ensures.2)

pub returns-clause-rests : goal.returns-clause-rests
returns-clause-rests g c = let K = g.V.Kept in
    (put_more K.history K.number K.opening c.fetch_add-left-2.result c.args.seat.now.me _ _ c.args.value (counted_so K.history K.number K.opening c.fetch_add.result c.args.seat.now.me _ _ c.args.value c.requires.served c.exchange.ensures.3 c.fetch_add.ensures.2) c.requires.mine c.fetch_add-left-2.ensures.2).0
