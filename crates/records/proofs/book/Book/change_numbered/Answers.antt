use Rattle.std.proofs.Common.{◌∙◌, ap, sym, position, List}
use Rattle.gem_tables.specs.Table.{update_at}
use Rattle.records.specs.Stock.{Stock}
use Rattle.records.specs.Numbers.{has_number}
use Rattle.records.proofs.Places.{place_is, missing_is, set_is}
use Rattle.records.proofs.book.Book.change_numbered.Goals as goal

pub returns-in-Some-clause-known : goal.returns-in-Some-clause-known
returns-in-Some-clause-known g c =
    sym (place_is (has_number g.R.Numbered.number c.args.number) c.args.self.now.kept c.in-Some.place (sym c.place_of.ensures ∙ c.in-Some.is)).known

pub returns-in-Some-clause-after : goal.returns-in-Some-clause-after
returns-in-Some-clause-after g c =
    let test = has_number g.R.Numbered.number c.args.number in
    let does = g.C.Change.does c.args.change.now in
    let placed = sym c.place_of.ensures ∙ c.in-Some.is in
    let within = (place_is test c.self.inside.list.items c.in-Some.place (ap (λ (b : Stock g.row.R.Denot). position test b.kept) c.self.view_is ∙ placed)).within in
    ap (λ (xs : List g.row.R.Denot). record { kept = xs; room = c.self.inside.room })
    (set_is c.self.inside.list.items c.in-Some.place c.index_mut.result.now c.apply.new.one does within c.index_mut.ensures.value c.apply.ensures)
    ∙ ap (λ (b : Stock g.row.R.Denot). record b { kept = update_at c.in-Some.place does b.kept }) c.self.view_is
    ∙ ap (λ (xs : List g.row.R.Denot). record c.args.self.now { kept = xs }) ((place_is test c.args.self.now.kept c.in-Some.place placed).changed does)

pub returns-in-None-clause-known : goal.returns-in-None-clause-known
returns-in-None-clause-known g c =
    sym (missing_is (has_number g.R.Numbered.number c.args.number) c.args.self.now.kept (sym c.place_of.ensures ∙ c.in-None.is)).known

pub returns-in-None-clause-after : goal.returns-in-None-clause-after
returns-in-None-clause-after g c =
    sym (ap (λ (xs : List g.row.R.Denot). record c.args.self.now { kept = xs }) ((missing_is (has_number g.R.Numbered.number c.args.number) c.args.self.now.kept (sym c.place_of.ensures ∙ c.in-None.is)).changed (g.C.Change.does c.args.change.now)))
