use Rattle.std.proofs.Common.{◌≡◌, drop}
use Rattle.event_reports.specs.Reports.{first_refusal, after_all, report_code, after_report}
use Rattle.event_reports.proofs.reports.Reports.define_in_turn.Given as goal

abbrev pub invariant-loop-rptid : goal.invariant-loop-rptid
invariant-loop-rptid l = record {
  code : first_refusal report_code after_report l.reports l.initial.self ≡ first_refusal report_code after_report (drop l.rptid-index l.reports) l.self;
  after : after_all after_report l.reports l.initial.self ≡ after_all after_report (drop l.rptid-index l.reports) l.self;
}
