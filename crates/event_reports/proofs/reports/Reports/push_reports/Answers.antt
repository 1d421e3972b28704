use Rattle.std.proofs.Common.{sym}
use Rattle.event_reports.proofs.Giving.{joined-none, reports_more, reports_all}
use Rattle.event_reports.proofs.reports.Reports.push_reports.Goals as goal

pub loop-rptid-init : goal.loop-rptid-init
loop-rptid-init g c = sym (joined-none c.args.out.now)

pub loop-rptid-preserved : goal.loop-rptid-preserved
loop-rptid-preserved g c =
    reports_more (g.V.Values.value_of c.args.v.now) c.args.self.now c.args.rptids.now c.loop-rptid.rptid-index _ c.loop-rptid.out c.push.new.self c.loop-rptid-test.true c.loop-rptid.invariant
    (rw (← c.in_ok-report_item.ensures) c.in_ok-push.ensures.ok)

pub returns-clause-reports : goal.returns-clause-reports
returns-clause-reports g c =
    reports_all (g.V.Values.value_of c.args.v.now) c.args.self.now c.args.rptids.now c.loop-rptid.rptid-index _ c.loop-rptid.out c.loop-rptid-test.false c.loop-rptid.invariant
