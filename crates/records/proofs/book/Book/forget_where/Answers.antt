use Rattle.std.proofs.Common.{rules, ◌∙◌, ap, Bool, not, filter, List}
use Rattle.std.proofs.lemmas.Fn.{filter_same}
use Rattle.records.specs.Stock.{Stock}
use Rattle.records.proofs.book.Book.forget_where.Goals as goal

pub returns : goal.returns
returns g c =
    let test : g.row.R.Denot → Bool = λ r. not (g.T.Test.passes c.args.test.now r) in
    ap (λ (xs : List g.row.R.Denot). record { kept = xs; room = c.self.inside.room }) (filter_same _ test _ (λ x b f k. search rules) _ _ c.retain.ensures.filtered)
    ∙ ap (λ (b : Stock g.row.R.Denot). record b { kept = filter test b.kept }) c.self.view_is
