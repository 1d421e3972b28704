use Rattle.std.proofs.Common.{take}
use Rattle.event_reports.specs.Reports.{link_of, items_of_reports}
use Rattle.event_reports.proofs.Giving.{again}
use Rattle.event_reports.proofs.Small.{few_reports, small_reports}
use Rattle.event_reports.proofs.reports.Reports.report.Goals as goal

pub returns-clause-few : goal.returns-clause-few
returns-clause-few g c = few_reports (g.V.Values.value_of c.args.v.now) c.args.self.now c.args.ceid c.link_of.ensures.within

pub returns-clause-bounded : goal.returns-clause-bounded
returns-clause-bounded g c = small_reports (g.V.Values.value_of c.args.v.now) c.args.self.now c.args.ceid c.link_of.ensures.within

pub returns-clause-no_memory : goal.returns-clause-no_memory
returns-clause-no_memory g c =
    let value = g.V.Values.value_of c.args.v.now in
    let rptids = link_of c.args.ceid c.args.self.now in
    rw c.as_before.ensures.same
    (again c.push_reports-pushed.result (λ n. items_of_reports value (take n rptids) c.args.self.now) c.args.out.now c.push_reports-pushed.new.out c.as_before.new.out c.len-count.result c.len-count.ensures
    (rw c.link_of.ensures.link at c.push_reports-pushed.ensures.first) c.as_before.ensures.no_memory)
