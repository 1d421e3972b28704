use Rattle.std.proofs.Common.{◌∙◌, ◌++◌, ◌∷◌, [], Option, Some, sym, ap, subst, take, arith}
use Rattle.transactions.specs.declared.transaction.Open.{Open}
use Rattle.transactions.proofs.Expiring.{IsFirst, first-kept, first-earlier, first-more, first-all}
use Rattle.transactions.proofs.table.Transactions.first_expired.Goals as goal
use Rattle.transactions.proofs.table.Transactions.first_expired.Goals.{then-is_expired, else-is_expired}

pub loop-place-preserved : goal.loop-place-preserved
loop-place-preserved c =
    first-more c.args.at.0 c.loop-place.place c.args.self.now.opened c.if-is_expired.first c.at-one.result c.at-one.ensures
    (elim c.if-is_expired.branch [
      | then-is_expired w ↦
          subst (λ (first : Option Open). IsFirst c.args.at.0 (take c.loop-place.place c.args.self.now.opened ++ c.at-one.result ∷ []) first) (sym (w.first-is ∙ ap (λ (one : Open). Some one) w.earlier.ensures))
          (first-earlier c.args.at.0 (take c.loop-place.place c.args.self.now.opened) c.loop-place.first c.at-one.result c.loop-place.invariant (sym c.is_expired.ensures ∙ w.if-is_expired.true))
      | else-is_expired w ↦
          subst (λ (first : Option Open). IsFirst c.args.at.0 (take c.loop-place.place c.args.self.now.opened ++ c.at-one.result ∷ []) first) (sym w.first-is)
          (first-kept c.args.at.0 (take c.loop-place.place c.args.self.now.opened) c.loop-place.first c.at-one.result c.loop-place.invariant (sym c.is_expired.ensures ∙ w.if-is_expired.false))
    ])

pub returns : goal.returns
returns c =
    first-all c.args.at.0 c.loop-place.place c.args.self.now.opened c.loop-place.first c.len-place-end.ensures.table.different (omega (arith, c.len-place-end.ensures.len, c.loop-place-test.false)) c.loop-place.invariant
