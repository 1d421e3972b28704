-- As a control job starts nothing is disturbed, and a Done is owed for each command of each counted substrate; at the end none is owed.
use Rattle.std.proofs.Common.{◌≡◌, ◌<◌, ℕ, ◌+◌, ◌-◌, ◌*◌, Bool, true, false, not, ◌&&◌, if◌then◌else◌, List, length, Option, Some, None, refl, ap, subst, ◌∙◌, arith}
use Rattle.std.proofs.lemmas.Bool.{false_from_ne_true}
use Rattle.gem_tables.specs.Table.{is_one_of}
use Rattle.floor_moves.specs.Floor.{Loc, slot, aligner, arm, chamber, named, Floor, own, is_outside, is_finished, step_at, is_done}
use Rattle.floor_moves.specs.Valid.{Valid}
use Rattle.owed_laws.specs.Owed.{owed_by, owed, owed_to, commands_for, commands_of}
use Rattle.owed_laws.specs.Undisturbed.{AreUnaligned, Begins, ArePlanned, Undisturbed}
use Rattle.owed_laws.proofs.Totals.{sum_same, sum_is_zero, sum_zero}

-- ---- the beginning

module _ (counted : ℕ → Bool) (g : Floor) (v : Valid g) (b : Begins counted g) where
  jobless : (n : ℕ) → g.jobs.is_member n ≡ true → ⊥
  jobless n is = let f = b.no_member n in cc

  inside : (n : ℕ) → is_outside (g.place_of n) ≡ false
  inside n = false_from_ne_true (is_outside (g.place_of n)) (λ out. jobless n (v.members.outside n out))

  unfinished : (n : ℕ) → is_one_of g.substrates n ≡ true → counted n ≡ true → is_finished (g.processing n) ≡ false
  unfinished n kept is = ap is_finished (b.needs n kept is)

  pub begins_undisturbed : AreUnaligned g → Undisturbed counted g
  begins_undisturbed u = record {
    jobs = record {
      members = λ n is. absurd (jobless n is);
      not_stopping = b.not_stopping;
      not_aborting = b.not_aborting;
      named = λ n kept is _. b.named n kept is;
    };
    substrates = record {
      here = λ n kept is _. b.here n kept is;
      finished = λ n kept is f. absurd (let z = unfinished n kept is in cc);
      in_slot = u;
      to_chamber = λ m n c d e t. absurd (jobless (named d.task) (v.members.named m d e));
      not_given = b.not_given;
    };
  }

  -- each counted one that is kept is in its slot
  pub begins_inside : (n : ℕ) → is_one_of g.substrates n ≡ true → counted n ≡ true → g.place_of n ≡ Some (own n g)
  begins_inside n kept is = by (g.place_of n) refl
    where
      by : (p : Option Loc) → g.place_of n ≡ p → p ≡ Some (own n g)
      by None e = absurd (let w = v.removed n kept e in let z = unfinished n kept is in cc)
      by (Some (slot p k)) e = ap (λ (l : Loc). Some l) (v.places.home n p k e)
      by (Some aligner) e = absurd (let w = inside n in let z = ap is_outside e in cc)
      by (Some arm) e = absurd (let w = inside n in let z = ap is_outside e in cc)
      by (Some (chamber d)) e = absurd (let w = inside n in let z = ap is_outside e in cc)

  -- nothing is done of what is planned for it
  each_owed : (planned : ℕ → List (List ℕ)) (n : ℕ) → is_one_of g.substrates n ≡ true → counted n ≡ true → owed planned g n ≡ commands_for (length (planned n))
  each_owed planned n kept is =
      let none = v.steps.fresh n kept (b.needs n kept is) in
      let all : 3 * (length (planned n) - g.steps_of n) + 5 ≡ 5 + 3 * length (planned n) = omega (arith, none) in
      ap (λ (p : Option Loc). owed_by (planned n) (g.steps_of n) p (is_finished (g.processing n)) (g.is_aligned n)) (begins_inside n kept is)
      ∙ ap (λ (f : Bool). owed_by (planned n) (g.steps_of n) (Some (own n g)) f (g.is_aligned n)) (unfinished n kept is)
      ∙ all

  pub begins_owed : (planned : ℕ → List (List ℕ)) → owed_to planned counted g ≡ commands_of (λ n. length (planned n)) counted g
  begins_owed planned = sum_same counted (owed planned g) (λ n. commands_for (length (planned n))) g.substrates (each_owed planned)

-- ---- the end

-- one that is done has nothing to come
pub done_owed : (planned : ℕ → List (List ℕ)) (g : Floor) (n : ℕ) → is_done n g ≡ true → owed planned g n ≡ 0
done_owed planned g n d = by (g.place_of n) (is_finished (g.processing n)) d
  where
    by : (p : Option Loc) (f : Bool) → (f && not (is_outside p)) ≡ true → owed_by (planned n) (g.steps_of n) p f (g.is_aligned n) ≡ 0
    by None f e = refl
    by (Some (slot q k)) true e = refl
    by (Some (slot q k)) false e = absurd (cc)
    by (Some aligner) true e = absurd (cc)
    by (Some aligner) false e = absurd (cc)
    by (Some arm) true e = absurd (cc)
    by (Some arm) false e = absurd (cc)
    by (Some (chamber c)) true e = absurd (cc)
    by (Some (chamber c)) false e = absurd (cc)

-- an unfinished one in a chamber has a step to come
abbrev pub HaveToCome : (ℕ → List (List ℕ)) → Floor → Type 0
HaveToCome planned g = (n c : ℕ) → g.place_of n ≡ Some (chamber c) → is_finished (g.processing n) ≡ false → g.steps_of n < length (planned n)

-- so it has by the route that is planned
pub step_to_come : (planned : ℕ → List (List ℕ)) (g : Floor) → Valid g → ArePlanned planned g → HaveToCome planned g
step_to_come planned g v fits n c at f =
    let in_job = v.members.outside n (ap is_outside at) in
    subst (λ (r : List (List ℕ)). g.steps_of n < length r) (fits n in_job f) (v.members.left n in_job f)

-- and one that is kept and has nothing to come is done
pub owed_done : (planned : ℕ → List (List ℕ)) (g : Floor) (n : ℕ) → Valid g → HaveToCome planned g → is_one_of g.substrates n ≡ true → owed planned g n ≡ 0 → is_done n g ≡ true
owed_done planned g n v more kept z = by (g.place_of n) refl (is_finished (g.processing n)) refl (g.is_aligned n) z
  where
    -- what is still to come in a chamber is three Dones or two at the least
    in_chamber : g.steps_of n < length (planned n) → (b : Bool) → (if b then 3 * (length (planned n) - g.steps_of n) else 3 * (length (planned n) - g.steps_of n) + 2) ≡ 0 → ⊥
    in_chamber less true z = omega (arith, less, z)
    in_chamber less false z = omega (arith, z)

    by : (p : Option Loc) → g.place_of n ≡ p → (f : Bool) → is_finished (g.processing n) ≡ f → (a : Bool) → owed_by (planned n) (g.steps_of n) p f a ≡ 0 → (f && not (is_outside p)) ≡ true
    by None e true q a z = refl
    by None e false q a z = let f = v.removed n kept e in absurd (cc)
    by (Some (slot x k)) e true q a z = refl
    by (Some (slot x k)) e false q a z = absurd (omega (arith, z))
    by (Some aligner) e true q true z = absurd (omega (arith, z))
    by (Some aligner) e true q false z = absurd (omega (arith, z))
    by (Some aligner) e false q true z = absurd (omega (arith, z))
    by (Some aligner) e false q false z = absurd (omega (arith, z))
    by (Some arm) e true q true z = absurd (omega (arith, z))
    by (Some arm) e true q false z = absurd (omega (arith, z))
    by (Some arm) e false q true z = absurd (omega (arith, z))
    by (Some arm) e false q false z = absurd (omega (arith, z))
    by (Some (chamber c)) e true q a z = absurd (omega (arith, z))
    by (Some (chamber c)) e false q a z = absurd (in_chamber (more n c e q) (is_one_of (step_at (g.steps_of n) (planned n)) c) z)

pub nothing_left : (planned : ℕ → List (List ℕ)) (counted : ℕ → Bool) (g : Floor) → ((n : ℕ) → is_one_of g.substrates n ≡ true → counted n ≡ true → is_done n g ≡ true) → owed_to planned counted g ≡ 0
nothing_left planned counted g each = sum_is_zero counted (owed planned g) g.substrates (λ n kept is. done_owed planned g n (each n kept is))

pub each_done : (planned : ℕ → List (List ℕ)) (counted : ℕ → Bool) (g : Floor) → Valid g → HaveToCome planned g → owed_to planned counted g ≡ 0 → (n : ℕ) → is_one_of g.substrates n ≡ true → counted n ≡ true → is_done n g ≡ true
each_done planned counted g v more z n kept is = owed_done planned g n v more kept (sum_zero counted (owed planned g) g.substrates z n kept is)
