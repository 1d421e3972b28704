use Rattle.std.proofs.Common.{rules, true, ◌≡◌, ◌∷◌, [], ℕ, List, refl, ◌∙◌, subst, arith}
use Rattle.std.specs.Int.{w32, w64, to_be_bytes}
use Rattle.std.proofs.lemmas.Result.{err_from_is_err_and}
use Rattle.outside.specs.Counts.{Rose}
use Rattle.outside.specs.Disk.{HasAt}
use Rattle.spool_format.specs.Unread.{EndsAt, NoHead}
use Rattle.spool_format.proofs.Given.{told_weaker, rose_earlier}
use Rattle.spool_format.proofs.Heads.{ends_selector, ends_capacity, wrong_capacity, ends_half, wrong_half}
use Rattle.spool_format.proofs.Pieces.{joined}
use Rattle.spool_format.proofs.opening.front.Goals as goal

pub returns-in_err-selector-clause-fault : goal.returns-in_err-selector-clause-fault
returns-in_err-selector-clause-fault g c =
    let p = err_from_is_err_and c.from_residual.result c.from_residual.ensures.1 in
    let told = told_weaker _ (Rose (g.D.Disk.faults c.args.disk.now) (g.D.Disk.faults c.byte_at.new.disk)) _ (λ place. g.D.Disk.tells c.args.disk.now ≡ true → NoHead (g.D.Disk.reads c.args.disk.now) place)
    (λ rose. rose)
    (λ place ends t. ends_selector (g.D.Disk.reads c.args.disk.now) place (ends t))
    c.in_err-selector.field-0.0 c.in_err-selector.ensures.fault in
    rw (p.1, p.2) told

pub returns-in_err-capacity-clause-fault : goal.returns-in_err-capacity-clause-fault
returns-in_err-capacity-clause-fault g c =
    let p = err_from_is_err_and c.from_residual-in_err-capacity.result c.from_residual-in_err-capacity.ensures.1 in
    let told = told_weaker _ (Rose (g.D.Disk.faults c.args.disk.now) (g.D.Disk.faults c.u32_at.new.disk)) _ (λ place. g.D.Disk.tells c.args.disk.now ≡ true → NoHead (g.D.Disk.reads c.args.disk.now) place)
    (rose_earlier (g.D.Disk.faults c.args.disk.now) (g.D.Disk.faults c.byte_at.new.disk) _ c.byte_at.ensures.faults_stay)
    (λ place ends t.
    let t1 = c.byte_at.ensures.tells ∙ t in
    let s1 = (c.byte_at.ensures.quiet t).same in
    ends_capacity (g.D.Disk.reads c.args.disk.now) c.in_ok-selector.selector (c.in_ok-selector.ensures.byte t) place (subst (λ (b : List ℕ). EndsAt b 13 1 4 place) s1 (ends t1)))
    c.in_err-capacity.field-0.0 c.in_err-capacity.ensures.fault in
    rw (p.1, p.2) told

pub returns-in_err-half-clause-fault : goal.returns-in_err-half-clause-fault
returns-in_err-half-clause-fault g c =
    let p = err_from_is_err_and c.from_residual-in_err-half.result c.from_residual-in_err-half.ensures.1 in
    let told = told_weaker _ (Rose (g.D.Disk.faults c.args.disk.now) (g.D.Disk.faults c.u64_at.new.disk)) _ (λ place. g.D.Disk.tells c.args.disk.now ≡ true → NoHead (g.D.Disk.reads c.args.disk.now) place)
    (rose_earlier (g.D.Disk.faults c.args.disk.now) (g.D.Disk.faults c.u32_at.new.disk) _ (omega (arith, c.byte_at.ensures.faults_stay, c.u32_at.ensures.faults_stay)))
    (λ place ends t.
    let t1 = c.byte_at.ensures.tells ∙ t in
    let s1 = (c.byte_at.ensures.quiet t).same in
    let t2 = c.u32_at.ensures.tells ∙ t1 in
    let s2 = (c.u32_at.ensures.quiet t1).same ∙ s1 in
    ends_half (g.D.Disk.reads c.args.disk.now) c.in_ok-selector.selector (c.in_ok-selector.ensures.byte t) c.in_ok-capacity.capacity c.in_ok-capacity.ensures.small (subst (λ (b : List ℕ). HasAt b 1 (to_be_bytes w32 c.in_ok-capacity.capacity)) s1 (c.in_ok-capacity.ensures.number t1)) (c.is_capacity.ensures.yes (search rules)).0 (c.is_capacity.ensures.yes (search rules)).1 place (subst (λ (b : List ℕ). EndsAt b 13 5 8 place) s2 (ends t2)))
    c.in_err-half.field-0.0 c.in_err-half.ensures.fault in
    rw (p.1, p.2) told

pub returns-then-not-is_capacity-clause-fault : goal.returns-then-not-is_capacity-clause-fault
returns-then-not-is_capacity-clause-fault g c t =
    let t1 = c.byte_at.ensures.tells ∙ t in
    let s1 = (c.byte_at.ensures.quiet t).same in
    wrong_capacity (g.D.Disk.reads c.args.disk.now) c.in_ok-selector.selector (c.in_ok-selector.ensures.byte t) c.in_ok-capacity.capacity c.in_ok-capacity.ensures.small (subst (λ (b : List ℕ). HasAt b 1 (to_be_bytes w32 c.in_ok-capacity.capacity)) s1 (c.in_ok-capacity.ensures.number t1)) (c.is_capacity.ensures.no (search rules))

pub returns-then-not-is_half-clause-fault : goal.returns-then-not-is_half-clause-fault
returns-then-not-is_half-clause-fault g c t =
    let t1 = c.byte_at.ensures.tells ∙ t in
    let s1 = (c.byte_at.ensures.quiet t).same in
    let t2 = c.u32_at.ensures.tells ∙ t1 in
    let s2 = (c.u32_at.ensures.quiet t1).same ∙ s1 in
    let sized = c.is_capacity.ensures.yes (search rules) in
    wrong_half (g.D.Disk.reads c.args.disk.now) c.in_ok-selector.selector (c.in_ok-selector.ensures.byte t) c.in_ok-capacity.capacity c.in_ok-capacity.ensures.small (subst (λ (b : List ℕ). HasAt b 1 (to_be_bytes w32 c.in_ok-capacity.capacity)) s1 (c.in_ok-capacity.ensures.number t1)) sized.0 sized.1 c.in_ok-half.half c.in_ok-half.ensures.small
    (subst (λ (b : List ℕ). HasAt b 5 (to_be_bytes w64 c.in_ok-half.half)) s2 (c.in_ok-half.ensures.number t2)) (c.is_half.ensures.no (search rules))

pub returns-clause-head : goal.returns-clause-head
returns-clause-head g c t =
    let R = g.D.Disk.reads c.args.disk.now in
    let t1 = c.byte_at.ensures.tells ∙ t in
    let t2 = c.u32_at.ensures.tells ∙ t1 in
    let s1 = (c.byte_at.ensures.quiet t).same in
    let s2 = (c.u32_at.ensures.quiet t1).same ∙ s1 in
    let capacity = subst (λ (b : List ℕ). HasAt b 1 (to_be_bytes w32 c.in_ok-capacity.capacity)) s1 (c.in_ok-capacity.ensures.number t1) in
    let half = subst (λ (b : List ℕ). HasAt b 5 (to_be_bytes w64 c.in_ok-half.half)) s2 (c.in_ok-half.ensures.number t2) in
    joined R 0 5 (c.in_ok-selector.selector ∷ to_be_bytes w32 c.in_ok-capacity.capacity) (to_be_bytes w64 c.in_ok-half.half) refl
    (joined R 0 1 (c.in_ok-selector.selector ∷ []) (to_be_bytes w32 c.in_ok-capacity.capacity) refl (c.in_ok-selector.ensures.byte t) capacity)
    half
