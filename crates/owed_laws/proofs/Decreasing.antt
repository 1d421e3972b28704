-- A Done that ends a command takes one from what is owed.
use Rattle.std.proofs.Common.{◌≡◌, ℕ, ◌+◌, ◌-◌, ◌*◌, Bool, true, false, ◌||◌, if◌then◌else◌, List, length, Option, Some, refl, sym, ap, subst, ◌∙◌, ◌⊎◌, inl, inr, arith}
use Rattle.std.proofs.lemmas.Bool.{false_from_ne_true}
use Rattle.gem_tables.specs.Table.{is_one_of}
use Rattle.floor_moves.specs.Floor.{Loc, slot, aligner, arm, chamber, Task, pick, place, align, process, named, Command, idle, busy, Floor, set, is_outside, is_finished, step_at}
use Rattle.floor_moves.specs.Effects.{worked, processed, turned, moved, aligned, stepped}
use Rattle.floor_moves.specs.Valid.{PickStands, PlaceStands, AlignStands, ProcessStands, IsUnnamed, HaveChambers, Valid}
use Rattle.floor_moves.proofs.Maps.{set_tells, set_here, set_else, set_both}
use Rattle.floor_moves.proofs.Issuing.{left_open, turned-keeps}
use Rattle.floor_moves.proofs.Moving.{idle_not_busy}
use Rattle.floor_moves.proofs.Done.{closed-unnamed, finished-keeps, processed_agrees}
use Rattle.owed_laws.specs.Owed.{steps_left, owed_at, owed_by, owed, owed_to}
use Rattle.owed_laws.specs.Undisturbed.{ArePlanned, Undisturbed, OneLess}
use Rattle.owed_laws.proofs.Totals.{sum_falls}
use Rattle.owed_laws.proofs.Agreeing.{agree-undisturbed, agree-owed}
use Rattle.owed_laws.proofs.Beginning.{step_to_come}

-- ---- a Process, behind the row that closes it

-- The substrate of a Process of the last step, which was closed, is finished: one less is owed.
pub finished-falls : (planned : ℕ → List (List ℕ)) (counted : ℕ → Bool) (g : Floor) (n d state : ℕ) → IsUnnamed n g → Valid g → Undisturbed counted g → g.place_of n ≡ Some (chamber d) → is_finished (g.processing n) ≡ false
    → is_one_of (step_at (g.steps_of n) (planned n)) d ≡ true → length (planned n) ≡ g.steps_of n + 1 → is_finished state ≡ true → OneLess planned counted g (worked n state g)
finished-falls planned counted g n d state unnamed v u at unfinished due last ends = (
  record {
    jobs = record {
      members = u.jobs.members;
      not_stopping = u.jobs.not_stopping;
      not_aborting = u.jobs.not_aborting;
      named = λ k kept is f. u.jobs.named k kept is (was_unfinished k f);
    };
    substrates = record {
      here = λ k kept is f. u.substrates.here k kept is (was_unfinished k f);
      finished = λ k kept is f. set_both n k state g.processing (λ x. is_finished x ≡ true → g.is_aligned k ≡ true) (λ same _. ap g.is_aligned same ∙ v.steps.aligned n d at) (λ other old. u.substrates.finished k kept is old) f;
      in_slot = λ k p q there f. u.substrates.in_slot k p q there (was_unfinished k f);
      to_chamber = λ m k c e o t. ap is_finished (set_else n k state g.processing (λ same. unnamed m e o (ap named t ∙ same))) ∙ u.substrates.to_chamber m k c e o t;
      not_given = u.substrates.not_given;
    };
  },
  sum_falls counted (owed planned g) (owed planned (worked n state g)) n g.substrates v.places.distinct (v.places.kept n (chamber d) at) (u.jobs.members n (v.members.outside n (ap is_outside at)))
      (falls ∙ ap (λ (x : ℕ). owed_by (planned n) (g.steps_of n) (g.place_of n) (is_finished x) (g.is_aligned n) + 1) (sym (set_here n state g.processing)))
      (λ k other. ap (λ (x : ℕ). owed_by (planned k) (g.steps_of k) (g.place_of k) (is_finished x) (g.is_aligned k)) (sym (set_else n k state g.processing other))),
)
  where
    was_unfinished : (k : ℕ) → is_finished (set n state g.processing k) ≡ false → is_finished (g.processing k) ≡ false
    was_unfinished k f = set_both n k state g.processing (λ x. is_finished x ≡ false → is_finished (g.processing k) ≡ false) (λ same e. absurd (cc)) (λ other e. e) f

    in_it : (f t : Bool) → f ≡ false → t ≡ true → owed_by (planned n) (g.steps_of n) (Some (chamber d)) f (g.is_aligned n) ≡ owed_by (planned n) (g.steps_of n) (Some (chamber d)) t (g.is_aligned n) + 1
    in_it true t e s = absurd (cc)
    in_it false false e s = absurd (cc)
    in_it false true e s =
        let three : 3 * (length (planned n) - g.steps_of n) ≡ 3 * 0 + 2 + 1 = omega (arith, last) in
        ap (λ (b : Bool). if b then 3 * (length (planned n) - g.steps_of n) else 3 * (length (planned n) - g.steps_of n) + 2) due ∙ three

    falls : owed_by (planned n) (g.steps_of n) (g.place_of n) (is_finished (g.processing n)) (g.is_aligned n) ≡ owed_by (planned n) (g.steps_of n) (g.place_of n) (is_finished state) (g.is_aligned n) + 1
    falls = subst (λ (p : Option Loc). owed_by (planned n) (g.steps_of n) p (is_finished (g.processing n)) (g.is_aligned n) ≡ owed_by (planned n) (g.steps_of n) p (is_finished state) (g.is_aligned n) + 1) (sym at) (in_it (is_finished (g.processing n)) (is_finished state) unfinished ends)

-- what stands undisturbed does so where a step is done, and the command of a module is closed
pub stepped-stands : (counted : ℕ → Bool) (g : Floor) (m n : ℕ) → Undisturbed counted g → Undisturbed counted (stepped n m g)
stepped-stands counted g m n u = record {
  jobs = u.jobs;
  substrates = record {
    here = u.substrates.here;
    finished = u.substrates.finished;
    in_slot = u.substrates.in_slot;
    to_chamber = λ k i d x e w. u.substrates.to_chamber k i d x (left_open g m idle idle_not_busy k x e).1 w;
    not_given = u.substrates.not_given;
  };
}

module _ (planned : ℕ → List (List ℕ)) (counted : ℕ → Bool) (g : Floor) (v : Valid g) (u : Undisturbed counted g) where
  -- what a command names is in a job
  named_member : (m n : ℕ) (c : Command) (t : Task) → g.equipment m ≡ busy c → c.task ≡ t → named t ≡ n → g.jobs.is_member n ≡ true
  named_member m n c t is e its = subst (λ (k : ℕ). g.jobs.is_member k ≡ true) (ap named e ∙ its) (v.members.named m c is)

  -- ---- a move

  moved-stands : (m n : ℕ) (l : Loc) → ((p k : ℕ) → l ≡ slot p k → is_finished (g.processing n) ≡ true) → Undisturbed counted (moved n l m g)
  moved-stands m n l to_slot = record {
    jobs = u.jobs;
    substrates = record {
      here = u.substrates.here;
      finished = u.substrates.finished;
      in_slot = λ k p q at f. slots k p q f (set_tells n k (Some l) g.place_of (Some (slot p q)) at);
      to_chamber = λ k i d c e t. u.substrates.to_chamber k i d c (left_open g m idle idle_not_busy k c e).1 t;
      not_given = u.substrates.not_given;
    };
  } where
    same_loc : (a b : Loc) → Some a ≡ Some b → a ≡ b
    same_loc a b e = cc

    slots : (k p q : ℕ) → is_finished (g.processing k) ≡ false → ((k ≡ n) × (Some l ≡ Some (slot p q))) ⊎ ((k ≡ n → ⊥) × (g.place_of k ≡ Some (slot p q))) → g.is_aligned k ≡ false
    slots k p q f (inl t) = let is : is_finished (g.processing k) ≡ true = ap (λ (i : ℕ). is_finished (g.processing i)) t.0 ∙ to_slot p q (same_loc l (slot p q) t.1) in absurd (cc)
    slots k p q f (inr t) = u.substrates.in_slot k p q t.1 f

  -- what is owed for one that is placed so and is aligned so
  abbrev owes : ℕ → Option Loc → Bool → ℕ
  owes k p b = owed_by (planned k) (g.steps_of k) p (is_finished (g.processing k)) b

  moved-owes : (m n : ℕ) (l : Loc) → g.jobs.is_member n ≡ true → owed planned g n ≡ owes n (Some l) (g.is_aligned n) + 1 → owed_to planned counted (moved n l m g) + 1 ≡ owed_to planned counted g
  moved-owes m n l in_job less =
      sum_falls counted (owed planned g) (owed planned (moved n l m g)) n g.substrates v.places.distinct (v.members.kept n in_job) (u.jobs.members n in_job)
      (less ∙ ap (λ (p : Option Loc). owes n p (g.is_aligned n) + 1) (sym (set_here n (Some l) g.place_of)))
      (λ k other. ap (λ (p : Option Loc). owes k p (g.is_aligned k)) (sym (set_else n k (Some l) g.place_of other)))

  -- one in a job that is finished is aligned
  aligned_there : (n : ℕ) → g.jobs.is_member n ≡ true → is_finished (g.processing n) ≡ true → g.is_aligned n ≡ true
  aligned_there n in_job f = u.substrates.finished n (v.members.kept n in_job) (u.jobs.members n in_job) f

  -- from a chamber goes an unfinished one for which that isn't in the next step that is planned
  pub done_pick-falls : (m n : ℕ) (l : Loc) (c : Command) → g.equipment m ≡ busy c → c.task ≡ pick n l
      → ((d : ℕ) → l ≡ chamber d → is_finished (g.processing n) ≡ false → is_one_of (step_at (g.steps_of n) (planned n)) d ≡ false) → OneLess planned counted g (moved n arm m g)
  done_pick-falls m n l c is t through = (
    moved-stands m n arm (λ p k e. absurd (cc)),
    moved-owes m n arm in_job (ap (λ (p : Option Loc). owes n p (g.is_aligned n)) s.stands ∙ by l refl (is_finished (g.processing n)) refl (g.is_aligned n) refl (length (planned n) - g.steps_of n)),
  )
    where
      s : PickStands m n l g
      s = v.commands.picks m n l c is t

      in_job : g.jobs.is_member n ≡ true
      in_job = named_member m n c (pick n l) is t refl

      at : (y : Loc) → l ≡ y → g.place_of n ≡ Some y
      at y e = s.stands ∙ ap (λ (z : Loc). Some z) e

      by : (y : Loc) → l ≡ y → (f : Bool) → is_finished (g.processing n) ≡ f → (a : Bool) → g.is_aligned n ≡ a → (left : ℕ) → owed_at (Some y) f (step_at (g.steps_of n) (planned n)) (if f then 0 else left) a ≡ owed_at (Some arm) f (step_at (g.steps_of n) (planned n)) (if f then 0 else left) a + 1
      by (slot p k) e true q a r left = absurd (let w = s.from_slot p k e in cc)
      by (slot p k) e false q true r left = absurd (let w = u.substrates.in_slot n p k (at (slot p k) e) q in cc)
      by (slot p k) e false q false r left = omega arith
      by aligner e true q true r left = omega arith
      by aligner e false q true r left = omega arith
      by aligner e false q false r left = absurd (let w = s.from_aligner e in let z : (is_finished (g.processing n) || g.is_aligned n) ≡ false = ap (λ (b : Bool). b || g.is_aligned n) q ∙ r in cc)
      by arm e f q a r left = absurd (s.not_arm e)
      by (chamber d) e true q true r left = omega arith
      by _ e true q false r left = absurd (let w = aligned_there n in_job q in cc)
      by (chamber d) e false q true r left =
          let all : 3 * left + 2 ≡ 3 * left + 1 + 1 = omega arith in
          ap (λ (b : Bool). if b then 3 * left else 3 * left + 2) (through d e q) ∙ all
      by (chamber d) e false q false r left = absurd (let w = v.steps.aligned n d (at (chamber d) e) in cc)

  -- into a chamber goes one for which that is in the next step that is planned
  pub done_place-falls : (m n : ℕ) (l : Loc) (c : Command) → g.equipment m ≡ busy c → c.task ≡ place n l
      → ((d : ℕ) → l ≡ chamber d → is_finished (g.processing n) ≡ false → is_one_of (step_at (g.steps_of n) (planned n)) d ≡ true) → OneLess planned counted g (moved n l m g)
  done_place-falls m n l c is t due = (
    moved-stands m n l (λ p k e. (s.to_slot p k e).1),
    moved-owes m n l in_job (ap (λ (p : Option Loc). owes n p (g.is_aligned n)) s.stands ∙ by l refl (is_finished (g.processing n)) refl (g.is_aligned n) refl (length (planned n) - g.steps_of n)),
  )
    where
      s : PlaceStands m n l g
      s = v.commands.places m n l c is t

      in_job : g.jobs.is_member n ≡ true
      in_job = named_member m n c (place n l) is t refl

      by : (y : Loc) → l ≡ y → (f : Bool) → is_finished (g.processing n) ≡ f → (a : Bool) → g.is_aligned n ≡ a → (left : ℕ) → owed_at (Some arm) f (step_at (g.steps_of n) (planned n)) (if f then 0 else left) a ≡ owed_at (Some y) f (step_at (g.steps_of n) (planned n)) (if f then 0 else left) a + 1
      by (slot p k) e true q true r left = omega arith
      by (slot p k) e false q a r left = absurd (let w = (s.to_slot p k e).1 in cc)
      by aligner e true q true r left = absurd (let w = s.to_aligner e in cc)
      by aligner e false q true r left = absurd (let w = s.to_aligner e in cc)
      by aligner e false q false r left = omega arith
      by arm e f q a r left = absurd (s.not_arm e)
      by (chamber d) e true q a r left = absurd (let w = u.substrates.to_chamber m n d c is (t ∙ ap (λ (z : Loc). place n z) e) in cc)
      by _ e true q false r left = absurd (let w = aligned_there n in_job q in cc)
      by (chamber d) e false q true r left = sym (ap (λ (b : Bool). (if b then 3 * left else 3 * left + 2) + 1) (due d e q))
      by (chamber d) e false q false r left = absurd (let w = (s.to_chamber d e).1 in cc)

  -- ---- an Align

  pub done_align-falls : (m n : ℕ) (c : Command) → g.equipment m ≡ busy c → c.task ≡ align n → OneLess planned counted g (aligned n m g)
  done_align-falls m n c is t = (
    record {
      jobs = u.jobs;
      substrates = record {
        here = u.substrates.here;
        finished = λ k kept in_it f. set_both n k true g.is_aligned (λ b. b ≡ true) (λ same. refl) (λ other. u.substrates.finished k kept in_it f);
        in_slot = λ k p q at f. set_else n k true g.is_aligned (λ same. not_in_slot k p q at same) ∙ u.substrates.in_slot k p q at f;
        to_chamber = λ k i d x e w. u.substrates.to_chamber k i d x (left_open g m idle idle_not_busy k x e).1 w;
        not_given = u.substrates.not_given;
      };
    },
    sum_falls counted (owed planned g) (owed planned (aligned n m g)) n g.substrates v.places.distinct (v.members.kept n in_job) (u.jobs.members n in_job)
        (falls ∙ ap (λ (b : Bool). owes n (g.place_of n) b + 1) (sym (set_here n true g.is_aligned)))
        (λ k other. ap (owes k (g.place_of k)) (sym (set_else n k true g.is_aligned other))),
  )
    where
      s : AlignStands m n g
      s = v.commands.aligns m n c is t

      in_job : g.jobs.is_member n ≡ true
      in_job = named_member m n c (align n) is t refl

      not_in_slot : (k p q : ℕ) → g.place_of k ≡ Some (slot p q) → k ≡ n → ⊥
      not_in_slot k p q at same = let e : Some (slot p q) ≡ Some aligner = sym at ∙ ap g.place_of same ∙ s.stands in cc

      there : (a : Bool) (left : ℕ) → a ≡ false → (if a then 3 * left + 2 else 3 * left + 3) ≡ 3 * left + 2 + 1
      there true left e = absurd (cc)
      there false left e = omega arith

      falls : owes n (g.place_of n) (g.is_aligned n) ≡ owes n (g.place_of n) true + 1
      falls =
          subst (λ (p : Option Loc). owes n p (g.is_aligned n) ≡ owes n p true + 1) (sym s.stands)
          (there (g.is_aligned n) (steps_left (is_finished (g.processing n)) (length (planned n)) (g.steps_of n)) s.unaligned)

  -- ---- where the route of each unfinished one in a job is the one that is planned

  module _ (fits : ArePlanned planned g) where
    -- a chamber is in a step of the one, or isn't, as it is of the other
    in_planned : (n i d : ℕ) (b : Bool) → g.jobs.is_member n ≡ true → is_finished (g.processing n) ≡ false → is_one_of (step_at i (g.jobs.route_of n)) d ≡ b → is_one_of (step_at i (planned n)) d ≡ b
    in_planned n i d b in_job f e = sym (ap (λ (r : List (List ℕ)). is_one_of (step_at i r) d) (fits n in_job f)) ∙ e

    pub pick-falls : (m n : ℕ) (l : Loc) (c : Command) → g.equipment m ≡ busy c → c.task ≡ pick n l → OneLess planned counted g (moved n arm m g)
    pick-falls m n l c is t = done_pick-falls m n l c is t (λ d e f. in_planned n (g.steps_of n) d false (named_member m n c (pick n l) is t refl) f ((v.commands.picks m n l c is t).from_chamber d e f))

    pub place-falls : (m n : ℕ) (l : Loc) (c : Command) → g.equipment m ≡ busy c → c.task ≡ place n l → OneLess planned counted g (moved n l m g)
    place-falls m n l c is t = done_place-falls m n l c is t (λ d e f. in_planned n (g.steps_of n) d true (named_member m n c (place n l) is t refl) f (((v.commands.places m n l c is t).to_chamber d e).2 f))

    -- what is owed for one of which so many steps are done
    abbrev after : ℕ → ℕ → ℕ
    after k i = owed_by (planned k) i (g.place_of k) (is_finished (g.processing k)) (g.is_aligned k)

    -- Done of a Process whose step isn't the last: that is done
    pub stepped-falls : (m n : ℕ) (c : Command) → g.equipment m ≡ busy c → c.task ≡ process n → HaveChambers g → OneLess planned counted g (stepped n m g)
    stepped-falls m n c is t reach = (
      stepped-stands counted g m n u,
      sum_falls counted (owed planned g) (owed planned (stepped n m g)) n g.substrates v.places.distinct (v.members.kept n in_job) (u.jobs.members n in_job)
          (falls ∙ ap (λ (i : ℕ). after n i + 1) (sym (set_here n (g.steps_of n + 1) g.steps_of)))
          (λ k other. ap (after k) (sym (set_else n k (g.steps_of n + 1) g.steps_of other))),
    )
      where
        s : ProcessStands m n g
        s = v.commands.processes m n c is t

        in_job : g.jobs.is_member n ≡ true
        in_job = named_member m n c (process n) is t refl

        in_it : (i : ℕ) (b : Bool) → is_one_of (step_at i (planned n)) s.0 ≡ b → after n i ≡ (if b then 3 * (length (planned n) - i) else 3 * (length (planned n) - i) + 2)
        in_it i b e =
            ap (λ (p : Option Loc). owed_by (planned n) i p (is_finished (g.processing n)) (g.is_aligned n)) s.2
            ∙ ap (λ (f : Bool). owed_by (planned n) i (Some (chamber s.0)) f (g.is_aligned n)) s.3
            ∙ ap (λ (x : Bool). if x then 3 * (length (planned n) - i) else 3 * (length (planned n) - i) + 2) e

        -- steps rise, so the one behind it is of other chambers
        not_next : is_one_of (step_at (g.steps_of n + 1) (g.jobs.route_of n)) s.0 ≡ false
        not_next =
            false_from_ne_true (is_one_of (step_at (g.steps_of n + 1) (g.jobs.route_of n)) s.0)
            (λ e. let less = reach.rise n (g.steps_of n) (g.steps_of n + 1) s.0 s.0 in_job (omega arith) s.4 e in omega (arith, less))

        falls : after n (g.steps_of n) ≡ after n (g.steps_of n + 1) + 1
        falls =
            let more = step_to_come planned g v fits n s.0 s.2 s.3 in
            let three : 3 * (length (planned n) - g.steps_of n) ≡ 3 * (length (planned n) - (g.steps_of n + 1)) + 2 + 1 = omega (arith, more) in
            in_it (g.steps_of n) true (in_planned n (g.steps_of n) s.0 true in_job s.3 s.4)
            ∙ three
            ∙ ap (λ (k : ℕ). k + 1) (sym (in_it (g.steps_of n + 1) false (in_planned n (g.steps_of n + 1) s.0 false in_job s.3 not_next)))

    -- Done of one whose step is the last, with the row of its substrate behind it
    pub processed-falls : (m n : ℕ) (c : Command) → g.equipment m ≡ busy c → c.task ≡ process n → g.steps_of n + 1 ≡ length (g.jobs.route_of n) → OneLess planned counted g (processed n (turned m idle g))
    processed-falls m n c is t last =
        let s = v.commands.processes m n c is t in
        let in_job = named_member m n c (process n) is t refl in
        let unnamed = closed-unnamed g m n c idle idle_not_busy is t v in
        let valid = turned-keeps g m idle idle_not_busy v in
        let step = stepped-stands counted g m n u in
        let closed : Undisturbed counted (turned m idle g) = record { jobs = step.jobs; substrates = step.substrates } in
        let one : length (planned n) ≡ g.steps_of n + 1 = sym (last ∙ ap (λ (r : List (List ℕ)). length r) (fits n in_job s.3)) in
        let less : OneLess planned counted (turned m idle g) (worked n 2 (turned m idle g)) = finished-falls planned counted (turned m idle g) n s.0 2 unnamed valid closed s.2 s.3 (in_planned n (g.steps_of n) s.0 true in_job s.3 s.4) one refl in
        let agrees = processed_agrees (turned m idle g) n in (
          agree-undisturbed (worked n 2 (turned m idle g)) (processed n (turned m idle g)) agrees counted (finished-keeps (turned m idle g) n 2 refl unnamed valid) less.0,
          ap (λ (k : ℕ). k + 1) (agree-owed (worked n 2 (turned m idle g)) (processed n (turned m idle g)) agrees planned counted) ∙ less.1,
        )
