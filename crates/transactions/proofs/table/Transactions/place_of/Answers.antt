use Rattle.std.proofs.Common.{◌∙◌, sym}
use Rattle.transactions.specs.Sought.{fits}
use Rattle.transactions.proofs.Finding.{find-here, find-past}
use Rattle.transactions.proofs.table.Transactions.place_of.Goals as goal

pub returns-then-fits-clause-first : goal.returns-then-fits-clause-first
returns-then-fits-clause-first c =
    sym c.loop-place.invariant ∙ find-here (fits c.args.sought) c.args.self.now.opened c.loop-place.place c.at.result c.at.ensures (sym c.fits.ensures ∙ c.if-fits.true) ∙ sym c.at.ensures

pub loop-place-preserved : goal.loop-place-preserved
loop-place-preserved c =
    find-past (fits c.args.sought) c.args.self.now.opened c.loop-place.place c.at.result c.at.ensures (sym c.fits.ensures ∙ c.if-fits.false) ∙ c.loop-place.invariant
