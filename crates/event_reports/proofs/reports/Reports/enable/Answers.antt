use Rattle.std.proofs.Common.{rules, ◌∙◌}
use Rattle.std.proofs.lemmas.List.{with_items_is, places}
use Rattle.event_reports.specs.Reports.{with_enabled}
use Rattle.event_reports.proofs.Within.{map-within, enabled-within}
use Rattle.event_reports.proofs.SamePlant.{map-ceids, enabled-ceid}
use Rattle.event_reports.proofs.reports.Reports.enable.Goals as goal

pub invariant_of-self : goal.invariant_of-self
invariant_of-self c =
    let same = with_items_is c.self.inside.events c.enable_lines.new.events (search (rules, places)) in
    record {
      within = record {
        count = c.self.invariant.within.count;
        vids = c.self.invariant.within.vids;
        links = rw (same, c.enable_lines.ensures, c.deref_mut.ensures.value) (map-within (with_enabled c.args.on c.args.ceids.now) (enabled-within c.args.on c.args.ceids.now) c.self.inside.events.items c.self.invariant.within.links);
        events = rw (same, c.enable_lines.ensures, c.deref_mut.ensures.value) (map-ceids (with_enabled c.args.on c.args.ceids.now) (enabled-ceid c.args.on c.args.ceids.now) c.self.inside.events.items ∙ c.self.invariant.within.events);
      };
      silent = search rules;
    }
