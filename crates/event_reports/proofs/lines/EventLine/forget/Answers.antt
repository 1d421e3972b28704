use Rattle.std.proofs.Common.{rules, ℕ, Bool, ◌==◌, not, List, ◌∙◌, ap}
use Rattle.std.specs.List.{filter}
use Rattle.std.proofs.lemmas.Fn.{filter_same}
use Rattle.event_reports.proofs.lines.EventLine.forget.Goals as goal

pub returns : goal.returns
returns c =
    let test : ℕ → Bool = λ linked_id. not (linked_id == c.args.rptid) in
    let kept = filter_same _ test _ (λ x b f k. search rules) _ _ c.retain.ensures.filtered in
    let before = ap (filter test) (c.into_vec-rptids.ensures ∙ c.replace.ensures.value) in
    ap (λ (rptids : List ℕ). record c.args.self.now { reports = rptids }) (c.from_vec.ensures ∙ (kept ∙ before))
