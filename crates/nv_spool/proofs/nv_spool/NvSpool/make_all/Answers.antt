use Rattle.std.proofs.Common.{rules, true, ◌≡◌, inr, ◌+◌, [], ◌∷◌, ℕ, List, length, take, refl, sym, ◌∙◌, ap, subst, arith}
use Rattle.std.specs.Prelude.{suc}
use Rattle.std.proofs.lemmas.List.{nil_from_length, take_all}
use Rattle.std.specs.Vec.Iter.{into_iter_items}
use Rattle.spool.specs.declared.note.Note.{Note}
use Rattle.outside.specs.Counts.{Rose}
use Rattle.outside.specs.Disk.{Each}
use Rattle.spool_format.specs.declared.change.Change.{Change}
use Rattle.spool_format.specs.Format.{Sizes, CanStand, StandsFor, changed, may_follow}
use Rattle.spool_format.specs.Runs.{LeavesOnly}
use Rattle.spool_format.proofs.Given.{told_weaker, rose_earlier}
use Rattle.spool_format.proofs.Moments.{started, then, weaker}
use Rattle.nv_spool.specs.Writing.{AfterSome, BeforeOrAfter, CanMake, made}
use Rattle.nv_spool.proofs.Prefixes.{one_more, first_change}
use Rattle.nv_spool.proofs.nv_spool.NvSpool.make_all.Goals as goal

-- the first of the changes that are left, and those behind it
first_of : (capacity : ℕ) (notes : List Note) (all : List Change) (one : Change) (others : List Change) → all ≡ one ∷ others → CanMake capacity notes all → CanStand one × (may_follow one notes ≡ true) × CanMake capacity (changed capacity one notes) others
first_of capacity notes all one others is can = subst (CanMake capacity notes) is can

-- one change more: some of the first ones, and one of those that are left
more : {D : Type 0} (moment : D → ℕ) (left_since : D → ℕ → List ℕ → Type 0) (old mid new : D) (s : Sizes) (notes now : List Note) (count : ℕ) (all left : List Change) (change : Change) (behind : List Change) → left ≡ change ∷ behind
    → LeavesOnly moment left_since old mid (AfterSome s notes (take count all))
    → ((k : ℕ) (bytes : List ℕ) → AfterSome s now (take k left) bytes → AfterSome s notes (take (count + k) all) bytes)
    → LeavesOnly moment left_since mid new (BeforeOrAfter s now (changed s.capacity change now))
    → LeavesOnly moment left_since old new (AfterSome s notes (take (count + 1) all))
more moment left_since old mid new s notes now count all left change behind is so_far later call =
    let next : suc count ≡ count + 1 = omega arith in
    then moment left_since old mid new (AfterSome s notes (take (count + 1) all)) (BeforeOrAfter s now (changed s.capacity change now))
    (weaker moment left_since old mid (AfterSome s notes (take count all)) (AfterSome s notes (take (count + 1) all)) so_far (λ bytes some. subst (λ (n : ℕ). AfterSome s notes (take n all) bytes) next (one_more s notes count all bytes some)))
    call
    (λ bytes either. later 1 bytes (subst (λ (l : List Change). AfterSome s now (take 1 l) bytes) (sym is) (first_change s now change behind bytes either)))

pub make-requires-clause-can : goal.make-requires-clause-can
make-requires-clause-can g c = (first_of c.args.self.now.sizes.capacity c.loop-change.self.notes _ _ _ c.in-Some.ensures.steps.0 c.loop-change.invariant.changes).0

pub make-requires-clause-may : goal.make-requires-clause-may
make-requires-clause-may g c = (first_of c.args.self.now.sizes.capacity c.loop-change.self.notes _ _ _ c.in-Some.ensures.steps.0 c.loop-change.invariant.changes).1

pub overflow_add-count : goal.overflow_add-count
overflow_add-count g c = omega (arith, c.loop-change.invariant.count, ap length c.in-Some.ensures.steps.0, c.args.changes.ok.0, c.args.changes.ok.1, c.args.changes.small)

pub loop-change-init : goal.loop-change-init
loop-change-init g c =
    let s = c.args.self.now.sizes in
    let notes = c.args.self.now.notes in
    let same : into_iter_items c.into_iter-change-iterator.result ≡ c.args.changes.items = search rules in
    record {
      changes = subst (CanMake s.capacity notes) (sym same) c.requires.changes;
      count = omega (arith, ap length same);
      sizes = refl;
      opened = c.requires.opened;
      tells = refl;
      faults = omega arith;
      notes = ap (λ (l : List Change). made s.capacity l notes) same;
      stands = c.requires.stands;
      later = λ k bytes some.
          let all : k ≡ 0 + k = omega arith in
          subst (λ (n : ℕ). AfterSome s notes (take n c.args.changes.items) bytes) all (subst (λ (l : List Change). AfterSome s notes (take k l) bytes) same some);
      so_far = λ t. started g.D.Disk.moment g.D.Disk.left_since c.args.self.now.disk (StandsFor s notes) (λ bytes left. c.requires.stands t bytes (g.met.D.Disk.only_now c.args.self.now.disk bytes t left));
    }

pub loop-change-preserved : goal.loop-change-preserved
loop-change-preserved g c =
    let inv = c.loop-change.invariant in
    let s = c.args.self.now.sizes in
    let is = c.in-Some.ensures.steps.0 in
    let now = c.loop-change.self.notes in
    let change = c.in-Some.change in
    let behind = into_iter_items c.next.new.self in
    let after : c.make.new.self.notes ≡ changed s.capacity change now = c.in-Ok.ensures.after ∙ ap (λ (z : Sizes). changed z.capacity change now) inv.sizes in
    record {
      changes = subst (λ (ns : List Note). CanMake s.capacity ns behind) (sym after) (first_of s.capacity now _ _ _ is inv.changes).2;
      count = omega (arith, inv.count, ap length is);
      sizes = c.make.ensures.sizes ∙ inv.sizes;
      opened = c.in-Ok.ensures.opened;
      tells = c.make.ensures.tells ∙ inv.tells;
      faults = omega (arith, inv.faults, c.make.ensures.faults_stay);
      notes = ap (λ (ns : List Note). made s.capacity behind ns) after ∙ sym (ap (λ (l : List Change). made s.capacity l now) is) ∙ inv.notes;
      stands = λ t. subst (λ (z : Sizes). Each (g.D.Disk.leaves c.make.new.self.disk) (StandsFor z c.make.new.self.notes)) (c.make.ensures.sizes ∙ inv.sizes) (c.in-Ok.ensures.acknowledged (inv.tells ∙ t));
      later = λ k bytes some.
          let same : c.loop-change.count + suc k ≡ (c.loop-change.count + 1) + k = omega arith in
          subst (λ (n : ℕ). AfterSome s c.args.self.now.notes (take n c.args.changes.items) bytes) same
          (inv.later (suc k) bytes (subst (λ (l : List Change). AfterSome s now (take (suc k) l) bytes) (sym is) (inr (subst (λ (ns : List Note). AfterSome s ns (take k behind) bytes) after some))));
      so_far = λ t.
          more g.D.Disk.moment g.D.Disk.left_since c.args.self.now.disk c.loop-change.self.disk c.make.new.self.disk s c.args.self.now.notes now c.loop-change.count c.args.changes.items (into_iter_items c.loop-change.change-iterator) change behind is
          (inv.so_far t) inv.later
          (subst (λ (z : Sizes). LeavesOnly g.D.Disk.moment g.D.Disk.left_since c.loop-change.self.disk c.make.new.self.disk (BeforeOrAfter z now (changed z.capacity change now))) inv.sizes (c.make.ensures.any_moment inv.opened (inv.tells ∙ t)));
    }

pub returns-in-Err-clause-up_to_a_fault : goal.returns-in-Err-clause-up_to_a_fault
returns-in-Err-clause-up_to_a_fault g c t =
    let inv = c.loop-change.invariant in
    let s = c.args.self.now.sizes in
    more g.D.Disk.moment g.D.Disk.left_since c.args.self.now.disk c.loop-change.self.disk c.make.new.self.disk s c.args.self.now.notes c.loop-change.self.notes c.loop-change.count c.args.changes.items (into_iter_items c.loop-change.change-iterator) c.in-Some.change (into_iter_items c.next.new.self) c.in-Some.ensures.steps.0
    (inv.so_far t) inv.later
    (subst (λ (z : Sizes). LeavesOnly g.D.Disk.moment g.D.Disk.left_since c.loop-change.self.disk c.make.new.self.disk (BeforeOrAfter z c.loop-change.self.notes (changed z.capacity c.in-Some.change c.loop-change.self.notes))) inv.sizes (c.make.ensures.any_moment inv.opened (inv.tells ∙ t)))

pub returns-in-Err-clause-fault : goal.returns-in-Err-clause-fault
returns-in-Err-clause-fault g c =
    told_weaker (Rose (g.D.Disk.faults c.loop-change.self.disk) (g.D.Disk.faults c.make.new.self.disk)) (Rose (g.D.Disk.faults c.args.self.now.disk) (g.D.Disk.faults c.make.new.self.disk)) (λ place. ⊥) (λ place. ⊥)
    (rose_earlier (g.D.Disk.faults c.args.self.now.disk) (g.D.Disk.faults c.loop-change.self.disk) _ c.loop-change.invariant.faults)
    (λ place none. none)
    c.in-Err.fault (c.in-Err.ensures.fault c.loop-change.invariant.opened)

pub returns-clause-after : goal.returns-clause-after
returns-clause-after g c =
    let none : into_iter_items c.loop-change.change-iterator ≡ [] = nil_from_length _ (omega (arith, c.loop-change.change-iterator.rest.ok.0, c.in-None.ensures.steps.0)) in
    sym (ap (λ (l : List Change). made c.args.self.now.sizes.capacity l c.loop-change.self.notes) none) ∙ c.loop-change.invariant.notes

pub returns-clause-acknowledged : goal.returns-clause-acknowledged
returns-clause-acknowledged g c t = subst (λ (z : Sizes). Each (g.D.Disk.leaves c.loop-change.self.disk) (StandsFor z c.loop-change.self.notes)) (sym c.loop-change.invariant.sizes) (c.loop-change.invariant.stands t)

pub returns-clause-any_moment : goal.returns-clause-any_moment
returns-clause-any_moment g c t =
    let inv = c.loop-change.invariant in
    let none : into_iter_items c.loop-change.change-iterator ≡ [] = nil_from_length _ (omega (arith, c.loop-change.change-iterator.rest.ok.0, c.in-None.ensures.steps.0)) in
    subst (λ (l : List Change). LeavesOnly g.D.Disk.moment g.D.Disk.left_since c.args.self.now.disk c.loop-change.self.disk (AfterSome c.args.self.now.sizes c.args.self.now.notes l))
    (take_all c.loop-change.count c.args.changes.items (omega (arith, inv.count, ap length none))) (inv.so_far t)
