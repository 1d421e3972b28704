use Rattle.std.proofs.Common.{true, ◌≡◌, ◌⊎◌, ◌≤◌, ◌+◌, ◌∷◌, [], ◌++◌, ℕ, List, length, inr, sym, ◌∙◌, ap, subst, arith, length-append}
use Rattle.std.proofs.lemmas.Result.{err_from_is_err_and}
use Rattle.outside.specs.Counts.{Rose}
use Rattle.outside.specs.Disk.{HasAt}
use Rattle.spool_format.specs.Unread.{EndsAt}
use Rattle.spool_format.proofs.Given.{chosen_given, told_weaker, rose_earlier}
use Rattle.spool_format.proofs.Moments.{quiet_then}
use Rattle.spool_format.proofs.Pieces.{joined}
use Rattle.spool_format.proofs.Refusing.{ends_later}
use Rattle.spool_format.proofs.reading.text_at.Goals as goal

pub returns-in_err-byte-clause-fault : goal.returns-in_err-byte-clause-fault
returns-in_err-byte-clause-fault g c =
    let p = err_from_is_err_and c.from_residual.result c.from_residual.ensures.1 in
    let told = told_weaker _ (Rose (g.D.Disk.faults c.args.disk.now) (g.D.Disk.faults c.byte_at.new.disk)) _ (λ place. g.D.Disk.tells c.args.disk.now ≡ true → EndsAt (g.D.Disk.reads c.args.disk.now) c.args.stop c.args.at c.args.len place)
    (rose_earlier (g.D.Disk.faults c.args.disk.now) (g.D.Disk.faults c.loop-index.disk) _ c.loop-index.invariant.faults)
    (λ place ends t.
    let inv = c.loop-index.invariant in
    let missing = subst (λ (b : List ℕ). EndsAt b c.args.stop (c.args.at + c.loop-index.index) 1 place) (inv.quiet t).same (ends (inv.tells ∙ t)) in
    ends_later (g.D.Disk.reads c.args.disk.now) c.args.stop c.args.at c.args.len place c.loop-index.text.items (omega (arith, inv.size)) (subst (λ (n : ℕ). (n ≡ 0) ⊎ (c.args.at + n ≤ c.args.stop)) (sym inv.size) inv.before) (inv.text t)
    (subst (λ (n : ℕ). EndsAt (g.D.Disk.reads c.args.disk.now) c.args.stop (c.args.at + n) 1 place) (sym inv.size) missing))
    c.in_err-byte.field-0.0 c.in_err-byte.ensures.fault in
    rw (p.1, p.2) told

pub loop-index-preserved : goal.loop-index-preserved
loop-index-preserved g c =
    let inv = c.loop-index.invariant in
    let r = g.D.Disk.reads c.args.disk.now in
    let more = chosen_given c.push.result (c.loop-index.text.items ++ c.in_ok-byte.byte ∷ []) c.loop-index.text.items c.push.new.self.items (sym c.is_err.ensures.value ∙ c.if-is_err.false) c.push.ensures.items in
    record {
      text = λ t.
          let byte = subst (λ (b : List ℕ). HasAt b (c.args.at + c.loop-index.index) (c.in_ok-byte.byte ∷ [])) (inv.quiet t).same (c.in_ok-byte.ensures.byte (inv.tells ∙ t)) in
          subst (λ (l : List ℕ). HasAt r c.args.at l) (sym more) (joined r c.args.at (c.args.at + c.loop-index.index) c.loop-index.text.items (c.in_ok-byte.byte ∷ []) (omega (arith, inv.size)) (inv.text t) byte);
      size = omega (arith, inv.size, ap length more, length-append c.loop-index.text.items (c.in_ok-byte.byte ∷ []));
      before = inr (omega (arith, c.in_ok-byte.ensures.before));
      quiet = λ t. quiet_then g.D.Disk.reads g.D.Disk.leaves g.D.Disk.moment g.D.Disk.left_since c.args.disk.now c.loop-index.disk c.byte_at.new.disk (inv.quiet t) (c.byte_at.ensures.quiet (inv.tells ∙ t));
      tells = c.byte_at.ensures.tells ∙ inv.tells;
      faults = omega (arith, inv.faults, c.byte_at.ensures.faults_stay);
    }
