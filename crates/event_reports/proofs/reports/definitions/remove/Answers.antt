use Rattle.std.proofs.Common.{rules, ◌==◌, Bool, not}
use Rattle.std.proofs.lemmas.Fn.{filter_same}
use Rattle.event_reports.specs.Reports.{Report}
use Rattle.event_reports.proofs.reports.definitions.remove.Goals as goal

pub returns : goal.returns
returns c =
    let test : Report → Bool = λ p. not (p.id == c.args.rptid) in
    filter_same _ test _ (λ p b f k. search rules) _ _ c.retain.ensures.filtered
