use Rattle.std.proofs.Common.{rules, true, false, ◌≡◌, ◌≤◌, ◌+◌, inr, refl, ◌∙◌, sym, ap, subst, arith}
use Rattle.std.specs.List.{All}
use Rattle.spool_format.specs.Format.{Fits}
use Rattle.spool_format.specs.declared.change.Change.{Change}
use Rattle.std.specs.Prelude.{Option}
use Rattle.spool_format.specs.Items.{StandsAt, FitsItem, item_size}
use Rattle.spool_format.proofs.Spelled.{size_is, fits_changed}
use Rattle.spool_format.proofs.opening.step.Goals as goal

pub returns-else-not-may_follow-clause-more : goal.returns-else-not-may_follow-clause-more
returns-else-not-may_follow-clause-more g c =
    let item = subst (StandsAt (g.D.Disk.tells c.args.disk.now ≡ true) (g.D.Disk.reads c.args.disk.now) c.args.at) c.in-Some.is c.in_ok-item_at.ensures.item in
    let may : c.may_follow.result ≡ true = search rules in
    record {
      read = (item.0, c.in-Some.change);
      opened = item.1;
      can = subst FitsItem c.in-Some.is c.in_ok-item_at.ensures.fits;
      may = sym c.may_follow.ensures ∙ may;
      notes_are = ap (λ q. q.notes) c.make.ensures;
      next_is = omega (arith, size_is item.0 c.in-Some.change, c.size_of.ensures.size);
      there = item.2;
    }

pub returns-else-not-may_follow-clause-texts : goal.returns-else-not-may_follow-clause-texts
returns-else-not-may_follow-clause-texts g c =
    subst (All Fits) (sym (ap (λ q. q.notes) c.make.ensures))
    (fits_changed c.args.queue.now.capacity c.in-Some.change c.args.queue.now.notes c.requires.texts (subst FitsItem c.in-Some.is c.in_ok-item_at.ensures.fits))

pub returns-then-not-may_follow-clause-fault : goal.returns-then-not-may_follow-clause-fault
returns-then-not-may_follow-clause-fault g c t =
    let item = subst (StandsAt (g.D.Disk.tells c.args.disk.now ≡ true) (g.D.Disk.reads c.args.disk.now) c.args.at) c.in-Some.is c.in_ok-item_at.ensures.item in
    let within = subst (λ (o : Option Change). c.args.at + item_size o ≤ c.args.stop) c.in-Some.is c.in_ok-item_at.ensures.before in
    let may_not : c.may_follow.result ≡ false = search rules in
    inr (record {
      read = (item.0, c.in-Some.change);
      opened = item.1;
      can = subst FitsItem c.in-Some.is c.in_ok-item_at.ensures.fits;
      there = item.2 t;
      within = omega (arith, within, size_is item.0 c.in-Some.change);
      may_not = sym c.may_follow.ensures ∙ may_not;
      place_is = refl;
    })
