use Rattle.std.proofs.Common.{rules, arith, ◌∙◌, refl}
use Rattle.std.proofs.lemmas.List.{with_items_is, places}
use Rattle.event_reports.specs.Reports.{unlinked}
use Rattle.event_reports.proofs.Within.{map-within, unlinked-within}
use Rattle.event_reports.proofs.SamePlant.{map-ceids}
use Rattle.event_reports.proofs.Silent.{map-enabled}
use Rattle.event_reports.proofs.reports.Reports.delete_all.Goals as goal

pub invariant_of-self : goal.invariant_of-self
invariant_of-self c =
    let same = with_items_is c.self.inside.events c.unlink.new.events (search (rules, places)) in
    record {
      within = record {
        count = rw c.clear.ensures.items (omega arith);
        vids = rw c.clear.ensures.items tt;
        links = rw (same, c.unlink.ensures, c.deref_mut.ensures.value) (map-within unlinked unlinked-within c.self.inside.events.items c.self.invariant.within.links);
        events = rw (same, c.unlink.ensures, c.deref_mut.ensures.value) (map-ceids unlinked (λ e. refl) c.self.inside.events.items ∙ c.self.invariant.within.events);
      };
      silent = λ known. rw (same, c.unlink.ensures, c.deref_mut.ensures.value) (map-enabled unlinked (λ e. refl) c.self.inside.events.items ∙ c.self.invariant.silent known);
    }
