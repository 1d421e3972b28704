use Rattle.std.proofs.Common.{◌≡◌, ◌∙◌, true, false, sym, ap, arith}
use Rattle.transactions.specs.Table.{has_system}
use Rattle.transactions.specs.SystemBytes.{behind}
use Rattle.transactions.proofs.Drawing.{one_more, skipped_fits, drawn-first}
use Rattle.transactions.proofs.table.Transactions.next_free.Goals as goal

pub loop-skipped-preserved : goal.loop-skipped-preserved
loop-skipped-preserved c =
    let taken : has_system c.args.self.now.opened (behind c.args.self.now.next c.loop-skipped.skipped) ≡ true =
    ap (has_system c.args.self.now.opened) (sym c.behind.ensures) ∙ sym c.has_system.ensures.answer ∙ c.loop-skipped-test.true in
    let within = c.has_system.ensures.table.within in
    let few = c.loop-skipped.invariant.few in
    record {
      all_open = one_more c.args.self.now c.loop-skipped.skipped c.loop-skipped.invariant.all_open taken;
      few = skipped_fits c.args.self.now c.loop-skipped.skipped within (omega (arith, within, few)) c.loop-skipped.invariant.all_open taken;
    }

pub returns-clause-drawn : goal.returns-clause-drawn
returns-clause-drawn c =
    let free : has_system c.args.self.now.opened (behind c.args.self.now.next c.loop-skipped.skipped) ≡ false =
    ap (has_system c.args.self.now.opened) (sym c.behind.ensures) ∙ sym c.has_system.ensures.answer ∙ c.loop-skipped-test.false in
    c.behind-2.ensures ∙ drawn-first c.args.self.now c.loop-skipped.skipped c.has_system.ensures.table.within c.loop-skipped.invariant.all_open c.loop-skipped.invariant.few free
