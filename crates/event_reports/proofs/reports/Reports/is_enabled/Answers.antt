use Rattle.std.proofs.Common.{◌∙◌, ap, sym}
use Rattle.event_reports.specs.Reports.{EventLine}
use Rattle.event_reports.proofs.Places.{enabled_at, not_enabled}
use Rattle.event_reports.proofs.Silent.{none_of}
use Rattle.event_reports.proofs.reports.Reports.is_enabled.Goals as goal

pub returns-in-Some : goal.returns-in-Some
returns-in-Some c =
    let event = c.index.result.now in
    let facts = c.in-Some.ensures in
    let less = rw (← c.self.view_is) at facts.within_list in
    let here = rw (← c.self.view_is) at facts.place event in
    ap (λ (e : EventLine). e.enabled) c.index.ensures
    ∙ rw (← c.self.view_is) (sym (enabled_at c.self.inside.events.items c.self.invariant.within.events c.args.ceid c.in-Some.place event less here))

pub returns-in-None : goal.returns-in-None
returns-in-None c = sym (not_enabled c.args.ceid c.args.self.now.events c.in-None.ensures.none)

pub returns-then-self : goal.returns-then-self
returns-then-self c = rw (← c.self.view_is) (sym (none_of c.args.ceid c.self.inside.events.items (c.self.invariant.silent c.if-self.true)))
