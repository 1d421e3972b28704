use Rattle.std.proofs.Common.{◌≡◌, ℕ, List, refl, sym, ◌∙◌, ap, subst}
use Rattle.std.specs.List.{All}
use Rattle.spool.specs.declared.note.Note.{Note}
use Rattle.spool_format.proofs.Given.{ok_given}
use Rattle.spool_format.proofs.Spelled.{fits_taken}
use Rattle.spool_format.specs.Format.{Fits, Settled, IsSize}
use Rattle.spool_format.specs.Place.{sizes}
use Rattle.spool_format.specs.declared.change.Change.TheVariants.{Take}
use Rattle.nv_spool.proofs.nv_spool.NvSpool.take.Goals as goal

pub invariant_of-self-2 : goal.invariant_of-self-2
invariant_of-self-2 g c =
    let kept = c.self.inside in
    let inv = c.self.invariant in
    let place = c.put_change.new.place in
    let notes_are = ap (λ s. s.notes) c.take.ensures.after in
    let capacity_is = ap (λ s. s.capacity) c.take.ensures.after in
    let half = c.put_change.ensures.half in
    let same : sizes c.take.new.self.capacity place ≡ sizes kept.queue.capacity kept.place = λ i. record { capacity = capacity_is i; half = half i } in
    record {
      size = subst IsSize (sym same) inv.size;
      end = c.put_change.ensures.end;
      fits = subst (All Fits) (sym notes_are) (fits_taken kept.queue.notes inv.fits);
      settled = λ opened told.
          let t = sym c.put_change.ensures.tells ∙ told in
          let done = ok_given c.put_change.result (sym c.is_err.ensures.value ∙ c.if-is_err.false) c.put_change.ensures.settled t Take c.take_text.ensures tt refl (inv.settled opened t) in
          subst (λ (k : ℕ). Settled (sizes k place) place.selector place.end c.take.new.self.notes (g.D.Disk.leaves c.put_change.new.disk)) (sym capacity_is)
          (subst (λ (ns : List Note). Settled (sizes kept.queue.capacity place) place.selector place.end ns (g.D.Disk.leaves c.put_change.new.disk)) (sym notes_are) done);
    }
