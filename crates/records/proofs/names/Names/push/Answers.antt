use Rattle.std.proofs.Common.{◌≡◌, ◌++◌, [], ◌∷◌, ◌∙◌, ap, sym, subst, false, List}
use Rattle.records.specs.Names.{is_named}
use Rattle.records.specs.Kept.{records_of, AreKept}
use Rattle.records.proofs.Entries.{kept_more, more_is, inserted, entry_of}
use Rattle.records.proofs.names.Names.push.Goals as goal

pub returns-in-Ok-clause-added : goal.returns-in-Ok-clause-added
returns-in-Ok-clause-added g c =
    let unknown = subst (λ (rs : List g.row.R.Denot). is_named g.R.Named.name (g.R.Named.name c.args.one) rs ≡ false) (sym c.self.view_is) c.requires in
    ap records_of (c.in-Ok.ensures.entries ∙ inserted g.R.Named.name c.self.inside.by_name c.text.result c.args.one c.self.invariant.keyed unknown c.text.ensures)
    ∙ more_is c.self.inside.by_name.entries (entry_of g.R.Named.name c.args.one)
    ∙ ap (λ (rs : List g.row.R.Denot). rs ++ c.args.one ∷ []) c.self.view_is

pub invariant_of-self : goal.invariant_of-self
invariant_of-self g c =
    let unknown = subst (λ (rs : List g.row.R.Denot). is_named g.R.Named.name (g.R.Named.name c.args.one) rs ≡ false) (sym c.self.view_is) c.requires in
    subst (λ es. AreKept g.R.Named.name es)
    (sym (c.in-Ok.ensures.entries ∙ inserted g.R.Named.name c.self.inside.by_name c.text.result c.args.one c.self.invariant.keyed unknown c.text.ensures))
    (kept_more g.R.Named.name c.self.inside.by_name.entries c.args.one c.self.invariant unknown)
