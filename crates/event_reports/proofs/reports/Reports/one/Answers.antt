use Rattle.std.proofs.Common.{take}
use Rattle.event_reports.specs.Reports.{vids_of, value_items}
use Rattle.event_reports.proofs.Giving.{again}
use Rattle.event_reports.proofs.Small.{few_values, small_values}
use Rattle.event_reports.proofs.reports.Reports.one.Goals as goal

pub returns-clause-few : goal.returns-clause-few
returns-clause-few g c = few_values (g.V.Values.value_of c.args.v.now) c.args.self.now c.args.rptid c.vids_of.ensures.within

pub returns-clause-bounded : goal.returns-clause-bounded
returns-clause-bounded g c = small_values (g.V.Values.value_of c.args.v.now) c.args.self.now c.args.rptid

pub returns-clause-no_memory : goal.returns-clause-no_memory
returns-clause-no_memory g c =
    let value = g.V.Values.value_of c.args.v.now in
    let vids = vids_of c.args.rptid c.args.self.now in
    rw c.as_before.ensures.same
    (again c.push_values-pushed.result (λ n. value_items value (take n vids)) c.args.out.now c.push_values-pushed.new.out c.as_before.new.out c.len-count.result c.len-count.ensures
    (rw c.vids_of.ensures.vids at c.push_values-pushed.ensures.first) c.as_before.ensures.no_memory)
