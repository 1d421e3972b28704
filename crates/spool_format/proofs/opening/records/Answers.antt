use Rattle.std.proofs.Common.{true, ◌≡◌, ◌+◌, ◌<◌, ◌≤◌, ◌∷◌, [], ◌++◌, ℕ, List, length, sym, ◌∙◌, ap, subst, arith, length-append, Option}
use Rattle.std.specs.Prelude.{IfSome}
use Rattle.spool.specs.declared.note.Note.{Note}
use Rattle.outside.specs.Disk.{HasAt}
use Rattle.spool_format.proofs.Moments.{quiet_then}
use Rattle.spool_format.proofs.Pieces.{joined}
use Rattle.spool_format.proofs.Replayed.{stand-push, replayed-push}
use Rattle.spool_format.proofs.Spelled.{spelled-push}
use Rattle.spool_format.specs.Format.{changed, may_follow, spelled, record_bytes}
use Rattle.spool_format.specs.Items.{IsStep}
use Rattle.std.proofs.lemmas.Result.{err_from_is_err_and}
use Rattle.outside.specs.Counts.{Rose}
use Rattle.spool_format.specs.Unread.{NoChange, NoRecordBehind}
use Rattle.spool_format.proofs.Given.{told_weaker, rose_earlier}
use Rattle.spool_format.proofs.opening.records.Goals as goal

pub returns-in_err-next-clause-fault : goal.returns-in_err-next-clause-fault
returns-in_err-next-clause-fault g c =
    let p = err_from_is_err_and c.from_residual.result c.from_residual.ensures.1 in
    let told = told_weaker _ (Rose (g.D.Disk.faults c.args.disk.now) (g.D.Disk.faults c.step.new.disk)) _ (λ place. g.D.Disk.tells c.args.disk.now ≡ true → NoRecordBehind (g.D.Disk.reads c.args.disk.now) c.args.queue.now.capacity c.args.start c.args.stop place)
    (rose_earlier (g.D.Disk.faults c.args.disk.now) (g.D.Disk.faults c.items.disk) _ c.items.invariant.faults)
    (λ place none t.
    let inv = c.items.invariant in
    record {
      records = inv.read.records;
      stand = inv.read.stand;
      there = inv.read.there t;
      here = subst (λ (ns : List Note). NoChange (g.D.Disk.reads c.args.disk.now) (c.args.start + length (spelled inv.read.records)) c.args.stop ns place) inv.read.notes_are
          (subst (λ (at : ℕ). NoChange (g.D.Disk.reads c.args.disk.now) at c.args.stop c.items.queue.notes place) inv.read.at_is (subst (λ (b : List ℕ). NoChange b c.items.at c.args.stop c.items.queue.notes place) (inv.quiet t).same (none (inv.tells ∙ t))));
    })
    c.in_err-next.field-0.0 c.in_err-next.ensures.fault in
    rw (p.1, p.2) told

pub items-preserved : goal.items-preserved
items-preserved g c =
    let inv = c.items.invariant in
    let so_far = inv.read in
    let cap = c.args.queue.now.capacity in
    let R = g.D.Disk.reads c.args.disk.now in
    let next = c.in-Some.next in
    let one = subst (λ (o : Option ℕ). IfSome o (IsStep (g.D.Disk.tells c.items.disk ≡ true) (g.D.Disk.reads c.items.disk) c.items.at c.items.queue.capacity c.items.queue.notes c.step.new.queue.notes)) c.in-Some.is c.in_ok-next.ensures.more in
    let within = subst (λ (o : Option ℕ). IfSome o (λ n. (c.items.at < n) × (n ≤ c.args.stop))) c.in-Some.is c.in_ok-next.ensures.more_within in
    let grown = spelled-push so_far.records one.read in
    record {
      read = record {
        records = so_far.records ++ one.read ∷ [];
        stand = stand-push cap [] so_far.records one.read so_far.stand one.opened one.can (sym (ap (λ (ns : List Note). may_follow one.read.1 ns) so_far.notes_are) ∙ one.may);
        notes_are = one.notes_are ∙ ap (λ (k : ℕ). changed k one.read.1 c.items.queue.notes) inv.capacity ∙ ap (λ (ns : List Note). changed cap one.read.1 ns) so_far.notes_are ∙ sym (replayed-push cap [] so_far.records one.read);
        at_is = omega (arith, one.next_is, so_far.at_is, ap length grown, length-append (spelled so_far.records) (record_bytes one.read));
        there = λ t.
            subst (HasAt R c.args.start) (sym grown)
            (joined R c.args.start c.items.at (spelled so_far.records) (record_bytes one.read) so_far.at_is (so_far.there t)
            (subst (λ (b : List ℕ). HasAt b c.items.at (record_bytes one.read)) (inv.quiet t).same (one.there (inv.tells ∙ t))));
      };
      low = omega (arith, inv.low, within.0);
      high = within.1;
      texts = c.step.ensures.texts;
      capacity = c.step.ensures.capacity ∙ inv.capacity;
      quiet = λ t. quiet_then g.D.Disk.reads g.D.Disk.leaves g.D.Disk.moment g.D.Disk.left_since c.args.disk.now c.items.disk c.step.new.disk (inv.quiet t) (c.step.ensures.quiet (inv.tells ∙ t));
      tells = c.step.ensures.tells ∙ inv.tells;
      faults = omega (arith, inv.faults, c.step.ensures.faults_stay);
    }
