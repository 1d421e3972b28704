use Rattle.std.proofs.Common.{rules, true, ◌≡◌, ◌<◌, ◌+◌, ◌∷◌, [], ℕ, List, refl, ◌∙◌, subst, arith}
use Rattle.std.proofs.lemmas.Result.{err_from_is_err_and}
use Rattle.outside.specs.Counts.{Rose}
use Rattle.outside.specs.Disk.{HasAt}
use Rattle.spool_format.specs.Items.{StandsBehind}
use Rattle.spool_format.specs.Unread.{EndsAt, NoRecord, NoneBehind}
use Rattle.spool_format.proofs.Fields.{take_there}
use Rattle.spool_format.proofs.Given.{told_weaker, rose_earlier}
use Rattle.spool_format.proofs.Pieces.{joined}
use Rattle.spool_format.proofs.Refusing.{ends_gate, ends_operation, wrong_operation}
use Rattle.spool_format.proofs.opening.item_at.Goals as goal

pub returns-in_err-gate-clause-fault : goal.returns-in_err-gate-clause-fault
returns-in_err-gate-clause-fault g c =
    let p = err_from_is_err_and c.from_residual.result c.from_residual.ensures.1 in
    let told = told_weaker _ (Rose (g.D.Disk.faults c.args.disk.now) (g.D.Disk.faults c.byte_at.new.disk)) _ (λ place. g.D.Disk.tells c.args.disk.now ≡ true → NoRecord (g.D.Disk.reads c.args.disk.now) c.args.at c.args.stop place)
    (λ rose. rose)
    (λ place ends t. ends_gate (g.D.Disk.reads c.args.disk.now) c.args.at c.args.stop 1 (omega arith) place c.requires.before (ends t))
    c.in_err-gate.field-0.0 c.in_err-gate.ensures.fault in
    rw (p.1, p.2) told

pub returns-in_err-operation-clause-fault : goal.returns-in_err-operation-clause-fault
returns-in_err-operation-clause-fault g c =
    let p = err_from_is_err_and c.from_residual-in_err-operation.result c.from_residual-in_err-operation.ensures.1 in
    let told = told_weaker _ (Rose (g.D.Disk.faults c.args.disk.now) (g.D.Disk.faults c.byte_at-2.new.disk)) _ (λ place. g.D.Disk.tells c.args.disk.now ≡ true → NoRecord (g.D.Disk.reads c.args.disk.now) c.args.at c.args.stop place)
    (rose_earlier (g.D.Disk.faults c.args.disk.now) (g.D.Disk.faults c.byte_at.new.disk) _ (omega (arith, c.byte_at.ensures.faults_stay)))
    (λ place ends t.
    let opened : 0 < c.in_ok-gate.gate = omega arith in
    let t1 = c.byte_at.ensures.tells ∙ t in
    let s1 = (c.byte_at.ensures.quiet t).same in
    ends_operation (g.D.Disk.reads c.args.disk.now) c.args.at c.args.stop c.in_ok-gate.gate opened (c.in_ok-gate.ensures.byte t) place (omega (arith, c.in_ok-gate.ensures.before)) (subst (λ (b : List ℕ). EndsAt b c.args.stop (c.args.at + 1) 1 place) s1 (ends t1)))
    c.in_err-operation.field-0.0 c.in_err-operation.ensures.fault in
    rw (p.1, p.2) told

pub returns-in_err-change-clause-fault : goal.returns-in_err-change-clause-fault
returns-in_err-change-clause-fault g c =
    let p = err_from_is_err_and c.from_residual-in_err-change.result c.from_residual-in_err-change.ensures.1 in
    let R = g.D.Disk.reads c.args.disk.now in
    let told = told_weaker _ (Rose (g.D.Disk.faults c.args.disk.now) (g.D.Disk.faults c.noted_at.new.disk)) _ (λ place. g.D.Disk.tells c.args.disk.now ≡ true → NoRecord (g.D.Disk.reads c.args.disk.now) c.args.at c.args.stop place)
    (rose_earlier (g.D.Disk.faults c.args.disk.now) (g.D.Disk.faults c.byte_at-2.new.disk) _ (omega (arith, c.byte_at.ensures.faults_stay, c.byte_at-2.ensures.faults_stay)))
    (λ place none t.
    let gate = c.in_ok-gate.gate in
    let opened : 0 < gate = omega arith in
    let t1 = c.byte_at.ensures.tells ∙ t in
    let s1 = (c.byte_at.ensures.quiet t).same in
    let t2 = c.byte_at-2.ensures.tells ∙ t1 in
    let s2 = (c.byte_at-2.ensures.quiet t1).same ∙ s1 in
    let op = c.in_ok-operation.operation in
    let front = joined R c.args.at (c.args.at + 1) (gate ∷ []) (op ∷ []) refl (c.in_ok-gate.ensures.byte t) (subst (λ (r : List ℕ). HasAt r (c.args.at + 1) (op ∷ [])) s1 (c.in_ok-operation.ensures.byte t1)) in
    subst (λ (b : List ℕ). NoneBehind b c.args.at op c.args.stop place) s2 (none t2) gate opened front)
    c.in_err-change.field-0.0 c.in_err-change.ensures.fault in
    rw (p.1, p.2) told

pub returns-then-not-has_note-clause-fault : goal.returns-then-not-has_note-clause-fault
returns-then-not-has_note-clause-fault g c t =
    let opened : 0 < c.in_ok-gate.gate = omega arith in
    let t1 = c.byte_at.ensures.tells ∙ t in
    let s1 = (c.byte_at.ensures.quiet t).same in
    wrong_operation (g.D.Disk.reads c.args.disk.now) c.args.at c.args.stop c.in_ok-gate.gate opened (c.in_ok-gate.ensures.byte t) c.in_ok-operation.operation (c.has_note.ensures.no (search rules)) (λ is. absurd (omega (arith, is))) c.in_ok-operation.ensures.before
    (subst (λ (r : List ℕ). HasAt r (c.args.at + 1) (c.in_ok-operation.operation ∷ [])) s1 (c.in_ok-operation.ensures.byte t1))

pub returns-then-operation-eq3-clause-item : goal.returns-then-operation-eq3-clause-item
returns-then-operation-eq3-clause-item g c =
    let opened : 0 < c.in_ok-gate.gate = omega arith in
    let three : c.in_ok-operation.operation ≡ 3 = omega arith in (
      c.in_ok-gate.gate,
      opened,
      λ t.
          let t1 = c.byte_at.ensures.tells ∙ t in
          let s1 = (c.byte_at.ensures.quiet t).same in
          let op = subst (λ (b : ℕ). HasAt (g.D.Disk.reads c.args.disk.now) (c.args.at + 1) (b ∷ [])) three (subst (λ (r : List ℕ). HasAt r (c.args.at + 1) (c.in_ok-operation.operation ∷ [])) s1 (c.in_ok-operation.ensures.byte t1)) in
          take_there (g.D.Disk.reads c.args.disk.now) c.args.at c.in_ok-gate.gate (c.in_ok-gate.ensures.byte t) op,
    )

pub returns-clause-item : goal.returns-clause-item
returns-clause-item g c =
    let gate = c.in_ok-gate.gate in
    let opened : 0 < gate = omega arith in (
      gate,
      opened,
      λ t.
          let R = g.D.Disk.reads c.args.disk.now in
          let t1 = c.byte_at.ensures.tells ∙ t in
          let s1 = (c.byte_at.ensures.quiet t).same in
          let t2 = c.byte_at-2.ensures.tells ∙ t1 in
          let s2 = (c.byte_at-2.ensures.quiet t1).same ∙ s1 in
          let op = c.in_ok-operation.operation in
          let front = joined R c.args.at (c.args.at + 1) (gate ∷ []) (op ∷ []) refl (c.in_ok-gate.ensures.byte t) (subst (λ (r : List ℕ). HasAt r (c.args.at + 1) (op ∷ [])) s1 (c.in_ok-operation.ensures.byte t1)) in
          subst (λ (b : List ℕ). StandsBehind b c.args.at op c.in_ok-change.change) s2 (c.in_ok-change.ensures.there t2) gate front,
    )
