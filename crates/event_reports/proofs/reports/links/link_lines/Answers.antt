use Rattle.std.proofs.Common.{rules, arith, get_or, ◌∙◌, ap}
use Rattle.std.proofs.lemmas.List.Edits.{map_over_more}
use Rattle.event_reports.specs.Reports.{EventLine, with_link}
use Rattle.event_reports.proofs.Within.{at-within, set-within, linked-within}
use Rattle.event_reports.proofs.SamePlant.{set-ceids, link-ceid}
use Rattle.event_reports.proofs.Silent.{set-enabled, link-enabled}
use Rattle.event_reports.proofs.reports.links.link_lines.Goals as goal

pub loop-event-preserved : goal.loop-event-preserved
loop-event-preserved c =
    let events = c.loop-event.event-items in
    let event = get_or events c.loop-event.event-index c.event-item.result in
    let short = at-within events c.loop-event.event-index c.event-item.result (omega arith) c.loop-event.invariant.links in
    record {
      items = search (rules, map_over_more (with_link c.args.ceid c.args.rptids.now));
      links = set-within events c.loop-event.event-index c.link.new.self c.loop-event.invariant.links
          (rw c.in_ok-link.ensures.linked (linked-within c.args.ceid c.args.rptids.now c.requires.link event short));
      ceids = set-ceids events c.loop-event.event-index c.link.new.self c.event-item.result (omega arith) (rw c.in_ok-link.ensures.linked (link-ceid c.args.ceid c.args.rptids.now event)) ∙ c.loop-event.invariant.ceids;
      enabled = set-enabled events c.loop-event.event-index c.link.new.self c.event-item.result (omega arith) (rw c.in_ok-link.ensures.linked (link-enabled c.args.ceid c.args.rptids.now event)) ∙ c.loop-event.invariant.enabled;
    }

pub returns-in_err-link-clause-links : goal.returns-in_err-link-clause-links
returns-in_err-link-clause-links c =
    let events = c.loop-event.event-items in
    let short = at-within events c.loop-event.event-index c.event-item.result (omega arith) c.loop-event.invariant.links in
    set-within events c.loop-event.event-index c.link.new.self c.loop-event.invariant.links (rw c.in_err-link.ensures.no_memory short)

pub returns-in_err-link-clause-ceids : goal.returns-in_err-link-clause-ceids
returns-in_err-link-clause-ceids c =
    set-ceids c.loop-event.event-items c.loop-event.event-index c.link.new.self c.event-item.result (omega arith) (ap (λ (e : EventLine). e.ceid) c.in_err-link.ensures.no_memory) ∙ c.loop-event.invariant.ceids

pub returns-in_err-link-clause-enabled : goal.returns-in_err-link-clause-enabled
returns-in_err-link-clause-enabled c =
    set-enabled c.loop-event.event-items c.loop-event.event-index c.link.new.self c.event-item.result (omega arith) (ap (λ (e : EventLine). e.enabled) c.in_err-link.ensures.no_memory) ∙ c.loop-event.invariant.enabled
