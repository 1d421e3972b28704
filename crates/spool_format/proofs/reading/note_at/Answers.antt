use Rattle.std.proofs.Common.{true, ◌≡◌, ⊎_elim, ◌+◌, ◌∷◌, [], ◌++◌, ℕ, List, length, refl, sym, ◌∙◌, ap, subst, arith}
use Rattle.std.proofs.lemmas.Result.{err_from_is_err_and}
use Rattle.std.specs.Int.{w32, w64, to_be_bytes}
use Rattle.outside.specs.Counts.{Rose}
use Rattle.outside.specs.Disk.{HasAt}
use Rattle.spool_format.specs.Format.{kind_byte}
use Rattle.spool_format.specs.Unread.{EndsAt, IsOther, IsKindByte, NoNote}
use Rattle.spool_format.proofs.Given.{told_weaker, rose_earlier}
use Rattle.spool_format.proofs.Pieces.{joined}
use Rattle.spool_format.proofs.Refusing.{ends_number, ends_kind, wrong_kind, ends_id, ends_length, wrong_length, ends_text}
use Rattle.spool_format.proofs.reading.note_at.Goals as goal

pub returns-in_err-number-clause-fault : goal.returns-in_err-number-clause-fault
returns-in_err-number-clause-fault g c =
    let p = err_from_is_err_and c.from_residual.result c.from_residual.ensures.1 in
    let told = told_weaker _ (Rose (g.D.Disk.faults c.args.disk.now) (g.D.Disk.faults c.u64_at.new.disk)) _ (λ place. g.D.Disk.tells c.args.disk.now ≡ true → NoNote (g.D.Disk.reads c.args.disk.now) c.args.at c.args.stop place)
    (λ rose. rose)
    (λ place ends t start gate op overwrite is opened noting here. ends_number (g.D.Disk.reads c.args.disk.now) start c.args.stop gate opened op noting overwrite c.args.at is here place c.requires.before (ends t))
    c.in_err-number.field-0.0 c.in_err-number.ensures.fault in
    rw (p.1, p.2) told

pub returns-in_err-kind-clause-fault : goal.returns-in_err-kind-clause-fault
returns-in_err-kind-clause-fault g c =
    let p = err_from_is_err_and c.from_residual-in_err-kind.result c.from_residual-in_err-kind.ensures.1 in
    let told = told_weaker _ (Rose (g.D.Disk.faults c.args.disk.now) (g.D.Disk.faults c.kind_at.new.disk)) _ (λ place. g.D.Disk.tells c.args.disk.now ≡ true → NoNote (g.D.Disk.reads c.args.disk.now) c.args.at c.args.stop place)
    (rose_earlier (g.D.Disk.faults c.args.disk.now) (g.D.Disk.faults c.u64_at.new.disk) _ (omega (arith, c.u64_at.ensures.faults_stay)))
    (λ place ends t start gate op overwrite is opened noting here.
    let t1 = c.u64_at.ensures.tells ∙ t in
    let s1 = (c.u64_at.ensures.quiet t).same in
    ⊎_elim
    (λ missing. ends_kind (g.D.Disk.reads c.args.disk.now) start c.args.stop gate opened op noting overwrite c.args.at is here c.in_ok-number.number c.in_ok-number.ensures.small (c.in_ok-number.ensures.number t) place (omega (arith, c.in_ok-number.ensures.before)) (subst (λ (b : List ℕ). EndsAt b c.args.stop (c.args.at + 8) 1 place) s1 missing))
    (λ other. wrong_kind (g.D.Disk.reads c.args.disk.now) start c.args.stop gate opened op noting overwrite c.args.at is here c.in_ok-number.number c.in_ok-number.ensures.small (c.in_ok-number.ensures.number t) place (subst (λ (b : List ℕ). IsOther IsKindByte b c.args.stop (c.args.at + 8) place) s1 other))
    (ends t1))
    c.in_err-kind.field-0.0 c.in_err-kind.ensures.fault in
    rw (p.1, p.2) told

pub returns-in_err-id-clause-fault : goal.returns-in_err-id-clause-fault
returns-in_err-id-clause-fault g c =
    let p = err_from_is_err_and c.from_residual-in_err-id.result c.from_residual-in_err-id.ensures.1 in
    let told = told_weaker _ (Rose (g.D.Disk.faults c.args.disk.now) (g.D.Disk.faults c.u32_at.new.disk)) _ (λ place. g.D.Disk.tells c.args.disk.now ≡ true → NoNote (g.D.Disk.reads c.args.disk.now) c.args.at c.args.stop place)
    (rose_earlier (g.D.Disk.faults c.args.disk.now) (g.D.Disk.faults c.kind_at.new.disk) _ (omega (arith, c.u64_at.ensures.faults_stay, c.kind_at.ensures.faults_stay)))
    (λ place ends t start gate op overwrite is opened noting here.
    let t1 = c.u64_at.ensures.tells ∙ t in
    let s1 = (c.u64_at.ensures.quiet t).same in
    let t2 = c.kind_at.ensures.tells ∙ t1 in
    let s2 = (c.kind_at.ensures.quiet t1).same ∙ s1 in
    ends_id (g.D.Disk.reads c.args.disk.now) start c.args.stop gate opened op noting overwrite c.args.at is here c.in_ok-number.number c.in_ok-number.ensures.small (c.in_ok-number.ensures.number t) c.in_ok-kind.kind (subst (λ (b : List ℕ). HasAt b (c.args.at + 8) (kind_byte c.in_ok-kind.kind ∷ [])) s1 (c.in_ok-kind.ensures.kind t1)) place (omega (arith, c.in_ok-kind.ensures.before)) (subst (λ (b : List ℕ). EndsAt b c.args.stop (c.args.at + 9) 4 place) s2 (ends t2)))
    c.in_err-id.field-0.0 c.in_err-id.ensures.fault in
    rw (p.1, p.2) told

pub returns-in_err-len-clause-fault : goal.returns-in_err-len-clause-fault
returns-in_err-len-clause-fault g c =
    let p = err_from_is_err_and c.from_residual-in_err-len.result c.from_residual-in_err-len.ensures.1 in
    let told = told_weaker _ (Rose (g.D.Disk.faults c.args.disk.now) (g.D.Disk.faults c.u32_at-2.new.disk)) _ (λ place. g.D.Disk.tells c.args.disk.now ≡ true → NoNote (g.D.Disk.reads c.args.disk.now) c.args.at c.args.stop place)
    (rose_earlier (g.D.Disk.faults c.args.disk.now) (g.D.Disk.faults c.u32_at.new.disk) _ (omega (arith, c.u64_at.ensures.faults_stay, c.kind_at.ensures.faults_stay, c.u32_at.ensures.faults_stay)))
    (λ place ends t start gate op overwrite is opened noting here.
    let t1 = c.u64_at.ensures.tells ∙ t in
    let s1 = (c.u64_at.ensures.quiet t).same in
    let t2 = c.kind_at.ensures.tells ∙ t1 in
    let s2 = (c.kind_at.ensures.quiet t1).same ∙ s1 in
    let t3 = c.u32_at.ensures.tells ∙ t2 in
    let s3 = (c.u32_at.ensures.quiet t2).same ∙ s2 in
    ends_length (g.D.Disk.reads c.args.disk.now) start c.args.stop gate opened op noting overwrite c.args.at is here c.in_ok-number.number c.in_ok-number.ensures.small (c.in_ok-number.ensures.number t) c.in_ok-kind.kind (subst (λ (b : List ℕ). HasAt b (c.args.at + 8) (kind_byte c.in_ok-kind.kind ∷ [])) s1 (c.in_ok-kind.ensures.kind t1)) c.in_ok-id.id c.in_ok-id.ensures.small (subst (λ (b : List ℕ). HasAt b (c.args.at + 9) (to_be_bytes w32 c.in_ok-id.id)) s2 (c.in_ok-id.ensures.number t2)) place (omega (arith, c.in_ok-id.ensures.before)) (subst (λ (b : List ℕ). EndsAt b c.args.stop (c.args.at + 13) 4 place) s3 (ends t3)))
    c.in_err-len.field-0.0 c.in_err-len.ensures.fault in
    rw (p.1, p.2) told

pub returns-then-len-gt87000-clause-fault : goal.returns-then-len-gt87000-clause-fault
returns-then-len-gt87000-clause-fault g c t start gate op overwrite is opened noting here =
    let t1 = c.u64_at.ensures.tells ∙ t in
    let s1 = (c.u64_at.ensures.quiet t).same in
    let t2 = c.kind_at.ensures.tells ∙ t1 in
    let s2 = (c.kind_at.ensures.quiet t1).same ∙ s1 in
    let t3 = c.u32_at.ensures.tells ∙ t2 in
    let s3 = (c.u32_at.ensures.quiet t2).same ∙ s2 in
    wrong_length (g.D.Disk.reads c.args.disk.now) start c.args.stop gate opened op noting overwrite c.args.at is here c.in_ok-number.number c.in_ok-number.ensures.small (c.in_ok-number.ensures.number t) c.in_ok-kind.kind (subst (λ (b : List ℕ). HasAt b (c.args.at + 8) (kind_byte c.in_ok-kind.kind ∷ [])) s1 (c.in_ok-kind.ensures.kind t1)) c.in_ok-id.id c.in_ok-id.ensures.small (subst (λ (b : List ℕ). HasAt b (c.args.at + 9) (to_be_bytes w32 c.in_ok-id.id)) s2 (c.in_ok-id.ensures.number t2)) c.in_ok-len.len c.in_ok-len.ensures.small (subst (λ (b : List ℕ). HasAt b (c.args.at + 13) (to_be_bytes w32 c.in_ok-len.len)) s3 (c.in_ok-len.ensures.number t3)) (omega arith) (omega (arith, c.in_ok-len.ensures.before))

pub returns-in_err-text-clause-fault : goal.returns-in_err-text-clause-fault
returns-in_err-text-clause-fault g c =
    let p = err_from_is_err_and c.from_residual-in_err-text.result c.from_residual-in_err-text.ensures.1 in
    let told = told_weaker _ (Rose (g.D.Disk.faults c.args.disk.now) (g.D.Disk.faults c.text_at.new.disk)) _ (λ place. g.D.Disk.tells c.args.disk.now ≡ true → NoNote (g.D.Disk.reads c.args.disk.now) c.args.at c.args.stop place)
    (rose_earlier (g.D.Disk.faults c.args.disk.now) (g.D.Disk.faults c.u32_at-2.new.disk) _ (omega (arith, c.u64_at.ensures.faults_stay, c.kind_at.ensures.faults_stay, c.u32_at.ensures.faults_stay, c.u32_at-2.ensures.faults_stay)))
    (λ place ends t start gate op overwrite is opened noting here.
    let t1 = c.u64_at.ensures.tells ∙ t in
    let s1 = (c.u64_at.ensures.quiet t).same in
    let t2 = c.kind_at.ensures.tells ∙ t1 in
    let s2 = (c.kind_at.ensures.quiet t1).same ∙ s1 in
    let t3 = c.u32_at.ensures.tells ∙ t2 in
    let s3 = (c.u32_at.ensures.quiet t2).same ∙ s2 in
    let t4 = c.u32_at-2.ensures.tells ∙ t3 in
    let s4 = (c.u32_at-2.ensures.quiet t3).same ∙ s3 in
    ends_text (g.D.Disk.reads c.args.disk.now) start c.args.stop gate opened op noting overwrite c.args.at is here c.in_ok-number.number c.in_ok-number.ensures.small (c.in_ok-number.ensures.number t) c.in_ok-kind.kind (subst (λ (b : List ℕ). HasAt b (c.args.at + 8) (kind_byte c.in_ok-kind.kind ∷ [])) s1 (c.in_ok-kind.ensures.kind t1)) c.in_ok-id.id c.in_ok-id.ensures.small (subst (λ (b : List ℕ). HasAt b (c.args.at + 9) (to_be_bytes w32 c.in_ok-id.id)) s2 (c.in_ok-id.ensures.number t2)) c.in_ok-len.len c.in_ok-len.ensures.small (subst (λ (b : List ℕ). HasAt b (c.args.at + 13) (to_be_bytes w32 c.in_ok-len.len)) s3 (c.in_ok-len.ensures.number t3)) place (omega arith) (omega (arith, c.in_ok-len.ensures.before)) (subst (λ (b : List ℕ). EndsAt b c.args.stop (c.args.at + 17) c.in_ok-len.len place) s4 (ends t4)))
    c.in_err-text.field-0.0 c.in_err-text.ensures.fault in
    rw (p.1, p.2) told

pub returns-clause-note : goal.returns-clause-note
returns-clause-note g c t =
    let t1 = c.u64_at.ensures.tells ∙ t in
    let t2 = c.kind_at.ensures.tells ∙ t1 in
    let t3 = c.u32_at.ensures.tells ∙ t2 in
    let t4 = c.u32_at-2.ensures.tells ∙ t3 in
    let r = g.D.Disk.reads c.args.disk.now in
    let at = c.args.at in
    let s1 = (c.u64_at.ensures.quiet t).same in
    let s2 = (c.kind_at.ensures.quiet t1).same ∙ s1 in
    let s3 = (c.u32_at.ensures.quiet t2).same ∙ s2 in
    let s4 = (c.u32_at-2.ensures.quiet t3).same ∙ s3 in
    let kind = subst (λ (b : List ℕ). HasAt b (at + 8) (kind_byte c.in_ok-kind.kind ∷ [])) s1 (c.in_ok-kind.ensures.kind t1) in
    let id = subst (λ (b : List ℕ). HasAt b (at + 9) (to_be_bytes w32 c.in_ok-id.id)) s2 (c.in_ok-id.ensures.number t2) in
    let len = subst (λ (b : List ℕ). HasAt b (at + 13) (to_be_bytes w32 c.in_ok-len.len)) s3 (c.in_ok-len.ensures.number t3) in
    let text = subst (λ (b : List ℕ). HasAt b (at + 17) c.from_vec.result) s4 (subst (λ (l : List ℕ). HasAt (g.D.Disk.reads c.u32_at-2.new.disk) (at + 17) l) (sym c.from_vec.ensures) (c.in_ok-text.ensures.text t4)) in
    let size : c.in_ok-len.len ≡ length c.from_vec.result = omega (arith, c.in_ok-text.ensures.len, ap length c.from_vec.ensures) in
    let head = joined r at (at + 8) (to_be_bytes w64 c.in_ok-number.number) (kind_byte c.in_ok-kind.kind ∷ to_be_bytes w32 c.in_ok-id.id) refl (c.in_ok-number.ensures.number t)
    (joined r (at + 8) (at + 9) (kind_byte c.in_ok-kind.kind ∷ []) (to_be_bytes w32 c.in_ok-id.id) (omega arith) kind id) in
    joined r at (at + 17) ((to_be_bytes w64 c.in_ok-number.number ++ (kind_byte c.in_ok-kind.kind ∷ to_be_bytes w32 c.in_ok-id.id)) ++ to_be_bytes w32 (length c.from_vec.result)) c.from_vec.result refl
    (joined r at (at + 13) (to_be_bytes w64 c.in_ok-number.number ++ (kind_byte c.in_ok-kind.kind ∷ to_be_bytes w32 c.in_ok-id.id)) (to_be_bytes w32 (length c.from_vec.result)) refl head
    (subst (λ (n : ℕ). HasAt r (at + 13) (to_be_bytes w32 n)) size len))
    text
