use Rattle.std.proofs.Common.{rules, ◌==◌, Bool, not, ◌∙◌, refl}
use Rattle.std.proofs.lemmas.List.{with_items_is, places}
use Rattle.event_reports.specs.Reports.{Report, link_without}
use Rattle.event_reports.proofs.Within.{map-within, without-within, fewer-within, filter-within}
use Rattle.event_reports.proofs.SamePlant.{map-ceids}
use Rattle.event_reports.proofs.Silent.{map-enabled}
use Rattle.event_reports.proofs.reports.Reports.delete.Goals as goal

pub invariant_of-self : goal.invariant_of-self
invariant_of-self c =
    let same = with_items_is c.self.inside.events c.forget.new.events (search (rules, places)) in
    let test : Report → Bool = λ p. not (p.id == c.args.rptid) in
    record {
      within = record {
        count = rw c.remove.ensures (fewer-within test c.self.inside.reports.items c.self.invariant.within.count);
        vids = rw c.remove.ensures (filter-within test c.self.inside.reports.items c.self.invariant.within.vids);
        links = rw (same, c.forget.ensures, c.deref_mut.ensures.value) (map-within (link_without c.args.rptid) (without-within c.args.rptid) c.self.inside.events.items c.self.invariant.within.links);
        events = rw (same, c.forget.ensures, c.deref_mut.ensures.value) (map-ceids (link_without c.args.rptid) (λ e. refl) c.self.inside.events.items ∙ c.self.invariant.within.events);
      };
      silent = λ known. rw (same, c.forget.ensures, c.deref_mut.ensures.value) (map-enabled (link_without c.args.rptid) (λ e. refl) c.self.inside.events.items ∙ c.self.invariant.silent known);
    }
