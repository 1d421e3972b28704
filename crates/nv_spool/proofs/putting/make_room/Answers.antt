use Rattle.nv_spool.proofs.Compaction.{stands_now}
use Rattle.spool_format.proofs.Moments.{started}
use Rattle.spool_format.specs.Format.{StandsFor}
use Rattle.spool_format.specs.Place.{sizes}
use Rattle.nv_spool.proofs.putting.make_room.Goals as goal

pub returns-in_err-end-clause-any_moment : goal.returns-in_err-end-clause-any_moment
returns-in_err-end-clause-any_moment g c t settled = c.compact.ensures.any_moment t c.args.place.now.end settled

pub returns-clause-any_moment : goal.returns-clause-any_moment
returns-clause-any_moment g c t settled = c.compact.ensures.any_moment t c.args.place.now.end settled

pub returns-then-place-need-clause-any_moment : goal.returns-then-place-need-clause-any_moment
returns-then-place-need-clause-any_moment g c t settled =
    let s = sizes c.args.queue.now.capacity c.args.place.now in
    started g.D.Disk.moment g.D.Disk.left_since c.args.disk.now (StandsFor s c.args.queue.now.notes)
    (λ f left. stands_now s c.args.place.now.selector c.args.place.now.end c.args.queue.now.notes (g.D.Disk.leaves c.args.disk.now) c.requires.size settled f (g.met.D.Disk.only_now c.args.disk.now f t left))
