use Rattle.std.proofs.Common.{rules, IfSome, IfNone, ◌≡◌, ◌==◌, false}
use Rattle.std.specs.List.{HoldsAt, list_any}
use Rattle.std.specs.Result.{result_ok}
use Rattle.std.proofs.lemmas.List.Sorted.{answers_always}
use Rattle.event_reports.specs.Reports.{EventLine}
use Rattle.event_reports.proofs.Places.{searched}
use Rattle.event_reports.proofs.reports.Reports.place_of.Goals as goal

-- the closure gives a CEID, and the slice is that of the events
found : (c : goal.After-ok) → record {
  place : IfSome (result_ok c.binary_search_by_key.result) (HoldsAt (λ (e : EventLine). e.ceid ≡ c.args.ceid) c.self.inside.events.items);
  none : IfNone (result_ok c.binary_search_by_key.result) (list_any (λ (e : EventLine). e.ceid == c.args.ceid) c.self.inside.events.items ≡ false);
}
found c =
    let facts = c.binary_search_by_key.ensures in
    let by_ceid = facts.position (λ (e : EventLine). e.ceid) (answers_always _ _ _ (λ f a r g called. search rules)) in
    searched _ c.self.invariant.within.events c.args.ceid _ (rw c.deref.ensures.value at facts.bound) (rw c.deref.ensures.value at by_ceid)

pub returns-clause-place : goal.returns-clause-place
returns-clause-place c = rw (← c.self.view_is, c.ok.ensures.value) (found c).place

pub returns-clause-none : goal.returns-clause-none
returns-clause-none c = rw (← c.self.view_is, c.ok.ensures.value) (found c).none
