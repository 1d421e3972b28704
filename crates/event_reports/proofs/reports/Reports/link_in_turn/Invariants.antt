use Rattle.std.proofs.Common.{◌≡◌, drop}
use Rattle.event_reports.specs.Reports.{first_refusal, after_all, link_code, after_link}
use Rattle.event_reports.proofs.reports.Reports.link_in_turn.Given as goal

abbrev pub invariant-loop-ceid : goal.invariant-loop-ceid
invariant-loop-ceid l = record {
  code : first_refusal link_code after_link l.links l.initial.self ≡ first_refusal link_code after_link (drop l.ceid-index l.links) l.self;
  after : after_all after_link l.links l.initial.self ≡ after_all after_link (drop l.ceid-index l.links) l.self;
}
