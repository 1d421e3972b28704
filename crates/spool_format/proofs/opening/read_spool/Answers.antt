use Rattle.std.proofs.Common.{true, ◌≡◌, ◌+◌, ◌∷◌, [], ℕ, List, inl, inr, sym, ◌∙◌, ap, subst, arith}
use Rattle.std.proofs.lemmas.Result.{err_from_is_err_and}
use Rattle.outside.specs.Counts.{Rose}
use Rattle.outside.specs.Disk.{HasAt, Only}
use Rattle.spool_format.proofs.Given.{ok_given, told_weaker, rose_earlier}
use Rattle.spool_format.proofs.Replayed.{settled_read}
use Rattle.spool_format.specs.Format.{Sizes, half_start, head_bytes}
use Rattle.spool_format.specs.Items.{IsReadTo}
use Rattle.spool_format.specs.Unread.{NoHead, NoRecordBehind, IsUnread}
use Rattle.spool_format.proofs.opening.read_spool.Goals as goal

pub returns-in_err-selector-clause-fault : goal.returns-in_err-selector-clause-fault
returns-in_err-selector-clause-fault g c =
    let p = err_from_is_err_and c.from_residual.result c.from_residual.ensures.1 in
    let told = told_weaker _ (Rose (g.D.Disk.faults c.args.disk.now) (g.D.Disk.faults c.front.new.disk)) _ (λ place. g.D.Disk.tells c.args.disk.now ≡ true → IsUnread (g.D.Disk.reads c.args.disk.now) place)
    (rose_earlier (g.D.Disk.faults c.args.disk.now) (g.D.Disk.faults c.sync.new.self) _ c.sync.ensures.faults_stay)
    (λ place none t.
    inl (subst (λ (b : List ℕ). NoHead b place) (c.sync.ensures.reads t) (none (c.sync.ensures.tells ∙ t))))
    c.in_err-selector.field-0.0 c.in_err-selector.ensures.fault in
    rw (p.1, p.2) told

pub returns-in_err-end-clause-fault : goal.returns-in_err-end-clause-fault
returns-in_err-end-clause-fault g c =
    let p = err_from_is_err_and c.from_residual-in_err-end.result c.from_residual-in_err-end.ensures.1 in
    let told = told_weaker _ (Rose (g.D.Disk.faults c.args.disk.now) (g.D.Disk.faults c.records.new.disk)) _ (λ place. g.D.Disk.tells c.args.disk.now ≡ true → IsUnread (g.D.Disk.reads c.args.disk.now) place)
    (rose_earlier (g.D.Disk.faults c.args.disk.now) (g.D.Disk.faults c.front.new.disk) _ (omega (arith, c.sync.ensures.faults_stay, c.front.ensures.faults_stay)))
    (λ place none t.
    let t1 = c.sync.ensures.tells ∙ t in
    let t2 = c.front.ensures.tells ∙ t1 in
    let s1 = c.sync.ensures.reads t in
    let s2 = (c.front.ensures.quiet t1).same ∙ s1 in
    let s : Sizes = record { capacity = c.in_ok-selector.capacity; half = c.in_ok-selector.half } in
    let selector = c.in_ok-selector.selector in
    let at_start : c.half_start-start.result ≡ half_start s selector = c.half_start-start.ensures.start c.in_ok-selector.capacity in
    inr (record {
      s = s;
      selector = selector;
      size = c.in_ok-selector.ensures.size;
      head = subst (λ (b : List ℕ). HasAt b 0 (head_bytes s selector)) s1 (c.in_ok-selector.ensures.head t1);
      behind = subst (λ (k : ℕ). NoRecordBehind (g.D.Disk.reads c.args.disk.now) k (half_start s selector) (half_start s selector + c.in_ok-selector.half) place) (ap (λ z. z.capacity) c.in-Ok.ensures)
          (subst (λ (at : ℕ). NoRecordBehind (g.D.Disk.reads c.args.disk.now) c.in-Ok.queue.capacity at (at + c.in_ok-selector.half) place) at_start
          (subst (λ (b : List ℕ). NoRecordBehind b c.in-Ok.queue.capacity c.half_start-start.result (c.half_start-start.result + c.in_ok-selector.half) place) s2 (none t2)));
    }))
    c.in_err-end.field-0.0 c.in_err-end.ensures.fault in
    rw (p.1, p.2) told

pub returns-clause-at : goal.returns-clause-at
returns-clause-at g c t =
    let t1 = c.sync.ensures.tells ∙ t in
    let t2 = c.front.ensures.tells ∙ t1 in
    let R = g.D.Disk.reads c.args.disk.now in
    let half = c.in_ok-selector.half in
    let selector = c.in_ok-selector.selector in
    let end = c.in_ok-end.end in
    let cap = c.records.new.queue.capacity in
    let s : Sizes = record { capacity = cap; half = half } in
    let start = half_start s selector in
    let kept : cap ≡ c.in-Ok.queue.capacity = c.records.ensures.capacity in
    let is_cap : cap ≡ c.in_ok-selector.capacity = kept ∙ ap (λ z. z.capacity) c.in-Ok.ensures in
    let at_start : c.half_start-start.result ≡ start = c.half_start-start.ensures.start cap in
    let same1 = c.sync.ensures.reads t in
    let same2 = (c.front.ensures.quiet t1).same ∙ same1 in
    let only_synced = ok_given c.sync.result (sym c.is_err.ensures.value ∙ c.if-is_err.false) c.sync.ensures.durable t in
    let only : Only R (g.D.Disk.leaves c.records.new.disk) = λ f left. only_synced f ((c.front.ensures.quiet t1).follows f ((c.records.ensures.quiet t2).follows f left)) in
    let head = subst (λ (r : List ℕ). HasAt r 0 (head_bytes s selector)) same1
    (subst (λ (k : ℕ). HasAt (g.D.Disk.reads c.sync.new.self) 0 (head_bytes (record { capacity = k; half = half }) selector)) (sym is_cap) (c.in_ok-selector.ensures.head t1)) in
    let told : Type 0 = g.D.Disk.tells c.front.new.disk ≡ true in
    let rd = subst (λ (k : ℕ). IsReadTo told R start k c.records.new.queue.notes (start + end)) (sym kept)
    (subst (λ (b : ℕ). IsReadTo told R b c.in-Ok.queue.capacity c.records.new.queue.notes (b + end)) at_start
    (subst (λ (r : List ℕ). IsReadTo told r c.half_start-start.result c.in-Ok.queue.capacity c.records.new.queue.notes (c.half_start-start.result + end)) same2 c.in_ok-end.ensures.read)) in
    let closed = subst (λ (b : ℕ). HasAt R (b + end) (0 ∷ [])) at_start (subst (λ (r : List ℕ). HasAt r (c.half_start-start.result + end) (0 ∷ [])) same2 (c.in_ok-end.ensures.closed t2)) in
    settled_read s selector end c.records.new.queue.notes R (g.D.Disk.leaves c.records.new.disk) told t2 head rd closed (omega (arith, c.in_ok-end.ensures.within)) only
