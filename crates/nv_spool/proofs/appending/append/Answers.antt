use Rattle.std.proofs.Common.{◌∷◌, [], ◌++◌, length, inl, sym, ◌∙◌, subst}
use Rattle.std.proofs.lemmas.Result.{on_ok_weaker}
use Rattle.nv_spool.proofs.Gates.{after_behind, after_sync, after_gate, gate_written}
use Rattle.nv_spool.proofs.Holding.{begun, then_call, then_sync}
use Rattle.nv_spool.specs.Writing.{WithOrWithout}
use Rattle.spool_format.specs.Format.{Shows}
use Rattle.nv_spool.proofs.appending.append.Goals as goal

pub returns-in_err-write_at-clause-any_moment : goal.returns-in_err-write_at-clause-any_moment
returns-in_err-write_at-clause-any_moment g c t s selector rs change text gate room each =
    let P = WithOrWithout s selector rs change in
    let old = c.args.disk.now in
    let first = after_behind s selector rs change c.args.gate gate (length c.args.text.now) _ _ each (c.write_at.ensures.leaves t) in
    let start = begun g.D.Disk.leaves g.D.Disk.moment g.D.Disk.left_since P old (λ f left. g.met.D.Disk.only_now old f t left) (λ f left. inl (each f left)) in
    let behind = then_call g.D.Disk.leaves g.D.Disk.moment g.D.Disk.left_since P old old c.write_at.new.self start (c.write_at.ensures.time t) (λ f now. inl (first f now)) in
    behind.run

pub returns-in_err-sync-clause-any_moment : goal.returns-in_err-sync-clause-any_moment
returns-in_err-sync-clause-any_moment g c t s selector rs change text gate room each =
    let P = WithOrWithout s selector rs change in
    let old = c.args.disk.now in
    let first = after_behind s selector rs change c.args.gate gate (length c.args.text.now) _ _ each (c.write_at.ensures.leaves t) in
    let start = begun g.D.Disk.leaves g.D.Disk.moment g.D.Disk.left_since P old (λ f left. g.met.D.Disk.only_now old f t left) (λ f left. inl (each f left)) in
    let behind = then_call g.D.Disk.leaves g.D.Disk.moment g.D.Disk.left_since P old old c.write_at.new.self start (c.write_at.ensures.time t) (λ f now. inl (first f now)) in
    let t1 = c.write_at.ensures.tells ∙ t in
    let kept = then_sync g.D.Disk.leaves g.D.Disk.moment g.D.Disk.left_since P old c.write_at.new.self c.sync.new.self behind (c.sync.ensures.time t1) (c.sync.ensures.leaves t1) in
    kept.run

pub returns-in_err-write_at-2-clause-any_moment : goal.returns-in_err-write_at-2-clause-any_moment
returns-in_err-write_at-2-clause-any_moment g c t s selector rs change text gate room each =
    let P = WithOrWithout s selector rs change in
    let old = c.args.disk.now in
    let first = after_behind s selector rs change c.args.gate gate (length c.args.text.now) _ _ each (c.write_at.ensures.leaves t) in
    let start = begun g.D.Disk.leaves g.D.Disk.moment g.D.Disk.left_since P old (λ f left. g.met.D.Disk.only_now old f t left) (λ f left. inl (each f left)) in
    let behind = then_call g.D.Disk.leaves g.D.Disk.moment g.D.Disk.left_since P old old c.write_at.new.self start (c.write_at.ensures.time t) (λ f now. inl (first f now)) in
    let t1 = c.write_at.ensures.tells ∙ t in
    let kept = then_sync g.D.Disk.leaves g.D.Disk.moment g.D.Disk.left_since P old c.write_at.new.self c.sync.new.self behind (c.sync.ensures.time t1) (c.sync.ensures.leaves t1) in
    let t2 = c.sync.ensures.tells ∙ t1 in
    let staged = after_sync s selector rs change c.args.gate gate _ _ c.args.text.now _ text (c.in_ok-write_at.ensures.written t) (each _ (g.met.D.Disk.reads_so old t)) (c.in_ok-sync.ensures.durable t1) in
    let opened = then_call g.D.Disk.leaves g.D.Disk.moment g.D.Disk.left_since P old c.sync.new.self c.write_at-2.new.self kept (c.write_at-2.ensures.time t2) (after_gate s selector rs change c.args.gate gate room _ _ staged (c.write_at-2.ensures.leaves t2)) in
    opened.run

pub returns-clause-any_moment : goal.returns-clause-any_moment
returns-clause-any_moment g c t s selector rs change text gate room each =
    let P = WithOrWithout s selector rs change in
    let old = c.args.disk.now in
    let first = after_behind s selector rs change c.args.gate gate (length c.args.text.now) _ _ each (c.write_at.ensures.leaves t) in
    let start = begun g.D.Disk.leaves g.D.Disk.moment g.D.Disk.left_since P old (λ f left. g.met.D.Disk.only_now old f t left) (λ f left. inl (each f left)) in
    let behind = then_call g.D.Disk.leaves g.D.Disk.moment g.D.Disk.left_since P old old c.write_at.new.self start (c.write_at.ensures.time t) (λ f now. inl (first f now)) in
    let t1 = c.write_at.ensures.tells ∙ t in
    let kept = then_sync g.D.Disk.leaves g.D.Disk.moment g.D.Disk.left_since P old c.write_at.new.self c.sync.new.self behind (c.sync.ensures.time t1) (c.sync.ensures.leaves t1) in
    let t2 = c.sync.ensures.tells ∙ t1 in
    let staged = after_sync s selector rs change c.args.gate gate _ _ c.args.text.now _ text (c.in_ok-write_at.ensures.written t) (each _ (g.met.D.Disk.reads_so old t)) (c.in_ok-sync.ensures.durable t1) in
    let opened = then_call g.D.Disk.leaves g.D.Disk.moment g.D.Disk.left_since P old c.sync.new.self c.write_at-2.new.self kept (c.write_at-2.ensures.time t2) (after_gate s selector rs change c.args.gate gate room _ _ staged (c.write_at-2.ensures.leaves t2)) in
    let t3 = c.write_at-2.ensures.tells ∙ t2 in
    let ended = then_sync g.D.Disk.leaves g.D.Disk.moment g.D.Disk.left_since P old c.write_at-2.new.self c.sync-2.new.self opened (c.sync-2.ensures.time t3) (c.sync-2.ensures.leaves t3) in
    ended.run

pub returns-clause-acknowledged : goal.returns-clause-acknowledged
returns-clause-acknowledged g c =
    on_ok_weaker c.sync-2.result
    (λ durable t s selector rs change text gate room each f left.
    let t1 = (c.write_at.ensures.tells ∙ t) in
    let t2 = (c.sync.ensures.tells ∙ t1) in
    let t3 = (c.write_at-2.ensures.tells ∙ t2) in
    let staged = after_sync s selector rs change c.args.gate gate _ _ c.args.text.now _ text (c.in_ok-write_at.ensures.written t) (each _ (g.met.D.Disk.reads_so c.args.disk.now t)) (c.in_ok-sync.ensures.durable t1) in
    let read = staged _ (g.met.D.Disk.reads_so c.sync.new.self t2) in
    let done = gate_written s selector rs change c.args.gate gate room _ _ (c.in_ok-write_at-2.ensures.written t2) read in
    subst (Shows s selector (rs ++ (1, change) ∷ [])) (sym (durable t3 f left)) done)
    c.sync-2.ensures.durable
