use Rattle.std.proofs.Common.{◌≡◌, ◌+◌, ◌∷◌, [], ℕ, length, inl, ◌∙◌, ap, subst, arith, length-append}
use Rattle.nv_spool.proofs.Changes.{fits_behind, put_moments, settled_more}
use Rattle.nv_spool.specs.Writing.{BeforeOrAfter}
use Rattle.spool_format.proofs.Moments.{weaker}
use Rattle.spool_format.specs.Format.{Settled, changed, body, half_start, spelled}
use Rattle.spool_format.specs.Place.{sizes}
use Rattle.nv_spool.proofs.putting.put_change.Goals as goal

pub returns-in_err-make_room-clause-any_moment : goal.returns-in_err-make_room-clause-any_moment
returns-in_err-make_room-clause-any_moment g c t change text can may settled =
    let P = BeforeOrAfter (sizes c.args.queue.now.capacity c.args.place.now) c.args.queue.now.notes (changed c.args.queue.now.capacity change c.args.queue.now.notes) in
    weaker g.D.Disk.moment g.D.Disk.left_since c.args.disk.now c.make_room.new.disk _ P (c.make_room.ensures.any_moment t settled) (λ f stands. inl stands)

pub returns-in_err-append-clause-any_moment : goal.returns-in_err-append-clause-any_moment
returns-in_err-append-clause-any_moment g c t change text can may settled =
    let capacity = c.args.queue.now.capacity in
    let place = c.make_room.new.place in
    let z = sizes capacity place in
    let same : z ≡ sizes capacity c.args.place.now = ap (λ (h : ℕ). record { capacity = capacity; half = h }) c.make_room.ensures.half in
    let at_settled = c.in_ok-make_room.ensures.settled t settled in
    let gate = ap (λ (n : ℕ). n + place.end) (c.half_start.ensures.start capacity) ∙ ap (λ (n : ℕ). half_start z place.selector + n) at_settled.end_is in
    let fits = fits_behind change c.args.text.now place.end (length (spelled at_settled.records)) place.half text at_settled.end_is c.in_ok-make_room.ensures.room in
    put_moments g.D.Disk.moment g.D.Disk.left_since c.args.disk.now c.make_room.new.disk c.append.new.disk (sizes capacity c.args.place.now) z same c.requires.size place.selector place.end c.args.queue.now.notes change can may (g.D.Disk.leaves c.make_room.new.disk) at_settled
    (c.make_room.ensures.any_moment t settled)
    (c.append.ensures.any_moment (c.make_room.ensures.tells ∙ t) z place.selector at_settled.records change text gate fits at_settled.shows)

pub returns-clause-any_moment : goal.returns-clause-any_moment
returns-clause-any_moment g c t change text can may settled =
    let capacity = c.args.queue.now.capacity in
    let place = c.make_room.new.place in
    let z = sizes capacity place in
    let same : z ≡ sizes capacity c.args.place.now = ap (λ (h : ℕ). record { capacity = capacity; half = h }) c.make_room.ensures.half in
    let at_settled = c.in_ok-make_room.ensures.settled t settled in
    let gate = ap (λ (n : ℕ). n + place.end) (c.half_start.ensures.start capacity) ∙ ap (λ (n : ℕ). half_start z place.selector + n) at_settled.end_is in
    let fits = fits_behind change c.args.text.now place.end (length (spelled at_settled.records)) place.half text at_settled.end_is c.in_ok-make_room.ensures.room in
    put_moments g.D.Disk.moment g.D.Disk.left_since c.args.disk.now c.make_room.new.disk c.append.new.disk (sizes capacity c.args.place.now) z same c.requires.size place.selector place.end c.args.queue.now.notes change can may (g.D.Disk.leaves c.make_room.new.disk) at_settled
    (c.make_room.ensures.any_moment t settled)
    (c.append.ensures.any_moment (c.make_room.ensures.tells ∙ t) z place.selector at_settled.records change text gate fits at_settled.shows)

pub returns-clause-settled : goal.returns-clause-settled
returns-clause-settled g c t change text can may settled =
    let capacity = c.args.queue.now.capacity in
    let place = c.make_room.new.place in
    let z = sizes capacity place in
    let same : z ≡ sizes capacity c.args.place.now = ap (λ (h : ℕ). record { capacity = capacity; half = h }) c.make_room.ensures.half in
    let at_settled = c.in_ok-make_room.ensures.settled t settled in
    let gate = ap (λ (n : ℕ). n + place.end) (c.half_start.ensures.start capacity) ∙ ap (λ (n : ℕ). half_start z place.selector + n) at_settled.end_is in
    let fits = fits_behind change c.args.text.now place.end (length (spelled at_settled.records)) place.half text at_settled.end_is c.in_ok-make_room.ensures.room in
    let shows = c.in_ok-append.ensures.acknowledged (c.make_room.ensures.tells ∙ t) z place.selector at_settled.records change text gate fits at_settled.shows in
    let is_end : place.end + (1 + length (body change)) ≡ place.end + length c.args.text.now = omega (arith, ap length text, length-append (body change) (0 ∷ [])) in
    subst (λ (e : ℕ). Settled z place.selector e (changed capacity change c.args.queue.now.notes) (g.D.Disk.leaves c.append.new.disk)) is_end
    (settled_more z place.selector place.end c.args.queue.now.notes change can may (g.D.Disk.leaves c.make_room.new.disk) at_settled (g.D.Disk.leaves c.append.new.disk) shows)
