use Rattle.std.proofs.Common.{◌≡◌, ◌+◌, ◌<◌, ◌∙◌, ap, sym, subst, length, remove, List, arith}
use Rattle.records.specs.Kept.{records_of, AreKept}
use Rattle.records.proofs.Entries.{kept_removed, removed_is, popped_is}
use Rattle.records.proofs.names.Names.remove_at.Goals.{in-Some-2, in-None-2}
use Rattle.records.proofs.names.Names.remove_at.Goals as goal

pub invariant_of-self : goal.invariant_of-self
invariant_of-self g c =
    let es = c.self.inside.by_name.entries in
    let long : c.args.place + 1 ≡ length es = omega (arith, c.if-place-len.true, c.if-place-len-2.true, c.len.ensures.len) in
    let some : 0 < length es = omega (arith, long) in
    subst (λ fs. AreKept g.R.Named.name fs)
    (sym (popped_is es c.pop.new.self.entries c.pop.result c.args.place c.pop.ensures.entries (c.pop.ensures.found.1 some) long))
    (kept_removed g.R.Named.name es c.args.place c.self.invariant)

pub invariant_of-self-else-place-len : goal.invariant_of-self-else-place-len
invariant_of-self-else-place-len g c =
    subst (λ fs. AreKept g.R.Named.name fs) (sym c.shift_remove_index.ensures.entries)
    (kept_removed g.R.Named.name c.self.inside.by_name.entries c.args.place c.self.invariant)

pub returns-else-place-len : goal.returns-else-place-len
returns-else-place-len g c =
    let after =
    ap records_of c.shift_remove_index.ensures.entries
    ∙ removed_is c.self.inside.by_name.entries c.args.place
    ∙ ap (λ (rs : List g.row.R.Denot). remove rs c.args.place) c.self.view_is in
    elim c.match-shift_remove_index.branch [ in-Some-2 w ↦ w.self-is ∙ after | in-None-2 w ↦ w.self-is ∙ after ]
