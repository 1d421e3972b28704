use Rattle.std.proofs.Common.{ℕ, sym, ◌∙◌, subst, arith}
use Rattle.nv_spool.proofs.Compaction.{half_written, both_halves, selector_named, done}
use Rattle.nv_spool.proofs.Holding.{then_sync}
use Rattle.nv_spool.specs.Writing.{next}
use Rattle.spool_format.specs.Format.{Sizes, StandsFor, Settled}
use Rattle.nv_spool.proofs.halves.compact.Goals as goal

pub write_pushes-requires-clause-far : goal.write_pushes-requires-clause-far
write_pushes-requires-clause-far g c = omega (arith, c.half_start.ensures.far, c.requires.size.most)

pub returns-in_err-end-clause-any_moment : goal.returns-in_err-end-clause-any_moment
returns-in_err-end-clause-any_moment g c t end settled =
    let s : Sizes = record { capacity = c.args.queue.now.capacity; half = c.args.half } in
    let notes = c.args.queue.now.notes in
    let old = c.args.disk.now in
    let few = c.write_pushes.ensures.few in
    let start = c.half_start.ensures.start c.args.queue.now.capacity in
    let written = half_written g.D.Disk.leaves g.D.Disk.moment g.D.Disk.left_since s c.args.selector end notes c.requires.size c.requires.texts few old settled _ c.write_pushes.new.disk start (c.write_pushes.ensures.only t) in
    written.run

pub returns-in_err-sync-clause-any_moment : goal.returns-in_err-sync-clause-any_moment
returns-in_err-sync-clause-any_moment g c t end settled =
    let s : Sizes = record { capacity = c.args.queue.now.capacity; half = c.args.half } in
    let notes = c.args.queue.now.notes in
    let old = c.args.disk.now in
    let few = c.write_pushes.ensures.few in
    let start = c.half_start.ensures.start c.args.queue.now.capacity in
    let written = half_written g.D.Disk.leaves g.D.Disk.moment g.D.Disk.left_since s c.args.selector end notes c.requires.size c.requires.texts few old settled _ c.write_pushes.new.disk start (c.write_pushes.ensures.only t) in
    let t1 = c.write_pushes.ensures.tells ∙ t in
    let synced = then_sync g.D.Disk.leaves g.D.Disk.moment g.D.Disk.left_since (StandsFor s notes) old c.write_pushes.new.disk c.sync.new.self written (c.sync.ensures.time t1) (c.sync.ensures.leaves t1) in
    synced.run

pub returns-in_err-write_at-clause-any_moment : goal.returns-in_err-write_at-clause-any_moment
returns-in_err-write_at-clause-any_moment g c t end settled =
    let s : Sizes = record { capacity = c.args.queue.now.capacity; half = c.args.half } in
    let notes = c.args.queue.now.notes in
    let old = c.args.disk.now in
    let few = c.write_pushes.ensures.few in
    let start = c.half_start.ensures.start c.args.queue.now.capacity in
    let written = half_written g.D.Disk.leaves g.D.Disk.moment g.D.Disk.left_since s c.args.selector end notes c.requires.size c.requires.texts few old settled _ c.write_pushes.new.disk start (c.write_pushes.ensures.only t) in
    let t1 = c.write_pushes.ensures.tells ∙ t in
    let synced = then_sync g.D.Disk.leaves g.D.Disk.moment g.D.Disk.left_since (StandsFor s notes) old c.write_pushes.new.disk c.sync.new.self written (c.sync.ensures.time t1) (c.sync.ensures.leaves t1) in
    let t2 = c.sync.ensures.tells ∙ t1 in
    let both = both_halves g.D.Disk.leaves g.D.Disk.moment g.D.Disk.left_since s c.args.selector end notes c.requires.size c.requires.texts few old settled _ _ _ (g.D.Disk.leaves c.sync.new.self) start (g.met.D.Disk.reads_so old t) (c.in_ok-end.ensures.written t) (c.in_ok-sync.ensures.durable t1) in
    let named = selector_named g.D.Disk.leaves g.D.Disk.moment g.D.Disk.left_since s c.args.selector end notes c.requires.size c.requires.texts few old settled c.sync.new.self c.write_at.new.self synced both (c.write_at.ensures.time t2) (c.write_at.ensures.leaves t2) in
    named.run

pub returns-in_err-sync-2-clause-any_moment : goal.returns-in_err-sync-2-clause-any_moment
returns-in_err-sync-2-clause-any_moment g c t end settled =
    let s : Sizes = record { capacity = c.args.queue.now.capacity; half = c.args.half } in
    let notes = c.args.queue.now.notes in
    let old = c.args.disk.now in
    let few = c.write_pushes.ensures.few in
    let start = c.half_start.ensures.start c.args.queue.now.capacity in
    let written = half_written g.D.Disk.leaves g.D.Disk.moment g.D.Disk.left_since s c.args.selector end notes c.requires.size c.requires.texts few old settled _ c.write_pushes.new.disk start (c.write_pushes.ensures.only t) in
    let t1 = c.write_pushes.ensures.tells ∙ t in
    let synced = then_sync g.D.Disk.leaves g.D.Disk.moment g.D.Disk.left_since (StandsFor s notes) old c.write_pushes.new.disk c.sync.new.self written (c.sync.ensures.time t1) (c.sync.ensures.leaves t1) in
    let t2 = c.sync.ensures.tells ∙ t1 in
    let both = both_halves g.D.Disk.leaves g.D.Disk.moment g.D.Disk.left_since s c.args.selector end notes c.requires.size c.requires.texts few old settled _ _ _ (g.D.Disk.leaves c.sync.new.self) start (g.met.D.Disk.reads_so old t) (c.in_ok-end.ensures.written t) (c.in_ok-sync.ensures.durable t1) in
    let named = selector_named g.D.Disk.leaves g.D.Disk.moment g.D.Disk.left_since s c.args.selector end notes c.requires.size c.requires.texts few old settled c.sync.new.self c.write_at.new.self synced both (c.write_at.ensures.time t2) (c.write_at.ensures.leaves t2) in
    let t3 = c.write_at.ensures.tells ∙ t2 in
    let ended = then_sync g.D.Disk.leaves g.D.Disk.moment g.D.Disk.left_since (StandsFor s notes) old c.write_at.new.self c.sync-2.new.self named (c.sync-2.ensures.time t3) (c.sync-2.ensures.leaves t3) in
    ended.run

pub returns-clause-any_moment : goal.returns-clause-any_moment
returns-clause-any_moment g c t end settled =
    let s : Sizes = record { capacity = c.args.queue.now.capacity; half = c.args.half } in
    let notes = c.args.queue.now.notes in
    let old = c.args.disk.now in
    let few = c.write_pushes.ensures.few in
    let start = c.half_start.ensures.start c.args.queue.now.capacity in
    let written = half_written g.D.Disk.leaves g.D.Disk.moment g.D.Disk.left_since s c.args.selector end notes c.requires.size c.requires.texts few old settled _ c.write_pushes.new.disk start (c.write_pushes.ensures.only t) in
    let t1 = c.write_pushes.ensures.tells ∙ t in
    let synced = then_sync g.D.Disk.leaves g.D.Disk.moment g.D.Disk.left_since (StandsFor s notes) old c.write_pushes.new.disk c.sync.new.self written (c.sync.ensures.time t1) (c.sync.ensures.leaves t1) in
    let t2 = c.sync.ensures.tells ∙ t1 in
    let both = both_halves g.D.Disk.leaves g.D.Disk.moment g.D.Disk.left_since s c.args.selector end notes c.requires.size c.requires.texts few old settled _ _ _ (g.D.Disk.leaves c.sync.new.self) start (g.met.D.Disk.reads_so old t) (c.in_ok-end.ensures.written t) (c.in_ok-sync.ensures.durable t1) in
    let named = selector_named g.D.Disk.leaves g.D.Disk.moment g.D.Disk.left_since s c.args.selector end notes c.requires.size c.requires.texts few old settled c.sync.new.self c.write_at.new.self synced both (c.write_at.ensures.time t2) (c.write_at.ensures.leaves t2) in
    let t3 = c.write_at.ensures.tells ∙ t2 in
    let ended = then_sync g.D.Disk.leaves g.D.Disk.moment g.D.Disk.left_since (StandsFor s notes) old c.write_at.new.self c.sync-2.new.self named (c.sync-2.ensures.time t3) (c.sync-2.ensures.leaves t3) in
    ended.run

pub returns-clause-settled : goal.returns-clause-settled
returns-clause-settled g c t end settled =
    let s : Sizes = record { capacity = c.args.queue.now.capacity; half = c.args.half } in
    let notes = c.args.queue.now.notes in
    let few = c.write_pushes.ensures.few in
    let t1 = c.write_pushes.ensures.tells ∙ t in
    let t2 = c.sync.ensures.tells ∙ t1 in
    let t3 = c.write_at.ensures.tells ∙ t2 in
    let both = both_halves g.D.Disk.leaves g.D.Disk.moment g.D.Disk.left_since s c.args.selector end notes c.requires.size c.requires.texts few c.args.disk.now settled _ _ _ (g.D.Disk.leaves c.sync.new.self) (c.half_start.ensures.start c.args.queue.now.capacity) (g.met.D.Disk.reads_so c.args.disk.now t) (c.in_ok-end.ensures.written t) (c.in_ok-sync.ensures.durable t1) in
    subst (λ (n : ℕ). Settled s (next c.args.selector) n notes (g.D.Disk.leaves c.sync-2.new.self)) (sym c.in_ok-end.ensures.end)
    (done s c.args.selector end notes c.requires.size c.requires.texts few (g.D.Disk.leaves c.args.disk.now) settled _ _ (g.D.Disk.leaves c.sync-2.new.self) (both _ (g.met.D.Disk.reads_so c.sync.new.self t2)) (c.in_ok-write_at.ensures.written t2) (c.in_ok-sync-2.ensures.durable t3))
