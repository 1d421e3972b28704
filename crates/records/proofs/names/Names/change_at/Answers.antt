use Rattle.std.proofs.Common.{◌≤◌, ◌∙◌, ap, sym, subst, length, List, arith}
use Rattle.gem_tables.specs.Table.{update_at}
use Rattle.records.proofs.Entries.{kept_changed, changed_is, length_of}
use Rattle.records.proofs.Scans.{update_end}
use Rattle.records.proofs.names.Names.change_at.Goals as goal

pub invariant_of-self : goal.invariant_of-self
invariant_of-self g c =
    kept_changed g.R.Named.name c.self.inside.by_name.entries c.args.place c.index_mut.result.now c.apply.new.one (g.C.Change.does c.args.change.now) c.self.invariant c.index_mut.ensures.value c.apply.ensures c.requires

pub returns-then-place-len : goal.returns-then-place-len
returns-then-place-len g c =
    changed_is c.self.inside.by_name.entries c.args.place c.index_mut.result.now c.apply.new.one (g.C.Change.does c.args.change.now) c.index_mut.ensures.value c.apply.ensures
    ∙ ap (update_at c.args.place (g.C.Change.does c.args.change.now)) c.self.view_is

pub returns-else-place-len : goal.returns-else-place-len
returns-else-place-len g c =
    let past : length c.self.inside.by_name.entries ≤ c.args.place = omega (arith, c.if-place-len.false, c.len.ensures.len) in
    let beyond : length c.args.self.now ≤ c.args.place =
    subst (λ (rs : List g.row.R.Denot). length rs ≤ c.args.place) c.self.view_is (subst (λ n. n ≤ c.args.place) (sym (length_of c.self.inside.by_name.entries)) past) in
    sym (update_end (g.C.Change.does c.args.change.now) c.args.self.now c.args.place beyond)
