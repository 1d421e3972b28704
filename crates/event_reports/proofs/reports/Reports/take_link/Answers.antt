use Rattle.std.proofs.Common.{rules}
use Rattle.std.proofs.lemmas.List.{with_items_is, places}
use Rattle.event_reports.proofs.reports.Reports.take_link.Goals as goal

pub invariant_of-self : goal.invariant_of-self
invariant_of-self c =
    let same = with_items_is c.self.inside.events c.link_lines.new.events (search (rules, places)) in
    record {
      within = record {
        count = c.self.invariant.within.count;
        vids = c.self.invariant.within.vids;
        links = rw same c.link_lines.ensures.links;
        events = rw (same, c.link_lines.ensures.ceids, c.deref_mut.ensures.value) c.self.invariant.within.events;
      };
      silent = λ known. rw (same, c.link_lines.ensures.enabled, c.deref_mut.ensures.value) (c.self.invariant.silent known);
    }
