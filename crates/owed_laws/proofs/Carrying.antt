-- A registration, and a carrier that is forgotten, leave what stands undisturbed, and as much is owed.
use Rattle.std.proofs.Common.{◌≡◌, ◌≤◌, ℕ, ◌==◌, Bool, true, false, not, List, Option, Some, None, cond, refl, sym, ap, subst, ◌∙◌, ◌⊎◌, inl, inr, arith}
use Rattle.std.proofs.lemmas.Bool.{false_from_ne_true, not-false, not-true}
use Rattle.gem_tables.specs.Table.{is_one_of}
use Rattle.floor_moves.specs.Floor.{Loc, slot, arm, chamber, Floor, is_outside, is_finished}
use Rattle.floor_moves.specs.Carriers.{registered, forgotten, HasEnded}
use Rattle.floor_moves.specs.Valid.{Valid}
use Rattle.floor_moves.proofs.Maps.{set_tells, set_else, set_both}
use Rattle.floor_moves.proofs.Scans.{filter_tells, one_of_behind}
use Rattle.floor_moves.proofs.Facts.{is_number}
use Rattle.floor_moves.proofs.Promised.{no_member}
use Rattle.owed_laws.specs.Owed.{owed_by, owed}
use Rattle.owed_laws.specs.Undisturbed.{Undisturbed}
use Rattle.owed_laws.proofs.Totals.{sum_same, sum_behind, sum_left}
use Rattle.owed_laws.proofs.Columns.{Stays}

-- ---- a substrate is registered

module _ (planned : ℕ → List (List ℕ)) (counted : ℕ → Bool) (g : Floor) (v : Valid g) (u : Undisturbed counted g) (c p k : ℕ) where
  -- the number of the new substrate
  abbrev pub r : ℕ
  r = g.next_substrate

  abbrev pub new : Floor
  new = registered c p k g

  not_counted : counted r ≡ false
  not_counted = u.substrates.not_given r (omega arith)

  -- a counted one is another
  is_other : (n : ℕ) → counted n ≡ true → n ≡ r → ⊥
  is_other n is same = let t : counted r ≡ true = ap counted (sym same) ∙ is in let f = not_counted in cc

  -- and what is kept is too
  kept_other : (n : ℕ) → is_one_of g.substrates n ≡ true → n ≡ r → ⊥
  kept_other n kept same = let less = v.places.given n kept in omega (arith, less, same)

  was_kept : (n : ℕ) → is_one_of new.substrates n ≡ true → counted n ≡ true → is_one_of g.substrates n ≡ true
  was_kept n kept is = by (one_of_behind g.substrates r n kept)
    where
      by : (n ≡ r) ⊎ (is_one_of g.substrates n ≡ true) → is_one_of g.substrates n ≡ true
      by (inl same) = absurd (is_other n is same)
      by (inr t) = t

  same_finish : (n : ℕ) → (n ≡ r → ⊥) → is_finished (new.processing n) ≡ is_finished (g.processing n)
  same_finish n other = ap is_finished (set_else r n 0 g.processing other)

  same_carrier : (n : ℕ) → (n ≡ r → ⊥) → new.carrier_of n ≡ g.carrier_of n
  same_carrier n other = set_else r n c g.carrier_of other

  same_owed : (n : ℕ) → (n ≡ r → ⊥) → owed planned new n ≡ owed planned g n
  same_owed n other =
      ap (λ (x : Option Loc). owed_by (planned n) (new.steps_of n) x (is_finished (new.processing n)) (new.is_aligned n)) (set_else r n (Some (slot p k)) g.place_of other)
      ∙ ap (λ (f : Bool). owed_by (planned n) (new.steps_of n) (g.place_of n) f (new.is_aligned n)) (same_finish n other)
      ∙ ap (λ (i : ℕ). owed_by (planned n) i (g.place_of n) (is_finished (g.processing n)) (new.is_aligned n)) (set_else r n 0 g.steps_of other)
      ∙ ap (owed_by (planned n) (g.steps_of n) (g.place_of n) (is_finished (g.processing n))) (set_else r n false g.is_aligned other)

  pub registered-stays : Stays planned counted g new
  registered-stays = (
    record {
      jobs = record {
        members = u.jobs.members;
        not_stopping = u.jobs.not_stopping;
        not_aborting = u.jobs.not_aborting;
        named = λ n kept is f. let o = is_other n is in ap g.jobs.names_carrier (same_carrier n o) ∙ u.jobs.named n (was_kept n kept is) is (sym (same_finish n o) ∙ f);
      };
      substrates = record {
        here = λ n kept is f. let o = is_other n is in subst (λ (a : ℕ). a ≤ 1) (sym (ap g.access (same_carrier n o))) (u.substrates.here n (was_kept n kept is) is (sym (same_finish n o) ∙ f));
        finished = λ n kept is f. let o = is_other n is in set_else r n false g.is_aligned o ∙ u.substrates.finished n (was_kept n kept is) is (sym (same_finish n o) ∙ f);
        in_slot = λ n x y at f. set_both r n false g.is_aligned (λ b. b ≡ false) (λ same. refl) (λ other. u.substrates.in_slot n x y (sym (set_else r n (Some (slot p k)) g.place_of other) ∙ at) (sym (same_finish n other) ∙ f));
        to_chamber = λ m n d x e t. same_finish n (kept_other n (v.places.kept n arm (v.commands.places m n (chamber d) x e t).stands)) ∙ u.substrates.to_chamber m n d x e t;
        not_given = λ n less. u.substrates.not_given n (omega (arith, less));
      };
    },
    sum_behind counted (owed planned new) g.substrates r not_counted ∙ sum_same counted (owed planned new) (owed planned g) g.substrates (λ n _ is. same_owed n (is_other n is)),
  )

-- ---- a carrier is forgotten

-- one without a place, or in its slot, has nothing to come once it is finished
inside_owes : (route : List (List ℕ)) (done : ℕ) (p : Option Loc) (aligned : Bool) → is_outside p ≡ false → owed_by route done p true aligned ≡ 0
inside_owes route done None aligned e = refl
inside_owes route done (Some (slot x k)) aligned e = refl
inside_owes route done _ aligned e = absurd (cc)

module _ (planned : ℕ → List (List ℕ)) (counted : ℕ → Bool) (g : Floor) (v : Valid g) (u : Undisturbed counted g) (c : ℕ) (ends : HasEnded c g) where
  abbrev pub left : Floor
  left = forgotten c g

  abbrev pub remains : ℕ → Bool
  remains n = not (g.carrier_of n == c)

  place_was : (n : ℕ) (l : Loc) → left.place_of n ≡ Some l → g.place_of n ≡ Some l
  place_was n l e = by (g.carrier_of n == c) e
    where
      by : (b : Bool) → cond b None (g.place_of n) ≡ Some l → g.place_of n ≡ Some l
      by true f = absurd (cc)
      by false f = f

  kept_was : (n : ℕ) → is_one_of left.substrates n ≡ true → is_one_of g.substrates n ≡ true
  kept_was n kept = (filter_tells remains g.substrates n kept).0

  -- a counted substrate of it has nothing to come
  its_owed : (n : ℕ) → is_one_of g.substrates n ≡ true → counted n ≡ true → g.carrier_of n ≡ c → owed planned g n ≡ 0
  its_owed n kept is same = by (is_finished (g.processing n)) refl
    where
      its_end : HasEnded (g.carrier_of n) g
      its_end = subst (λ (d : ℕ). HasEnded d g) (sym same) ends

      inside : is_outside (g.place_of n) ≡ false
      inside = false_from_ne_true (is_outside (g.place_of n)) (λ out. no_member g v.carriers v.members n its_end (v.members.outside n out))

      not_unfinished : is_finished (g.processing n) ≡ false → HasEnded (g.carrier_of n) g → ⊥
      not_unfinished f (inl over) = let less = u.substrates.here n kept is f in omega (arith, less, over)
      not_unfinished f (inr unread) = let read = v.carriers.verified n kept in cc

      by : (f : Bool) → is_finished (g.processing n) ≡ f → owed_by (planned n) (g.steps_of n) (g.place_of n) f (g.is_aligned n) ≡ 0
      by true e = inside_owes (planned n) (g.steps_of n) (g.place_of n) (g.is_aligned n) inside
      by false e = absurd (not_unfinished e its_end)

  pub forgotten-stays : Stays planned counted g left
  forgotten-stays = (
    record {
      jobs = record {
        members = u.jobs.members;
        not_stopping = u.jobs.not_stopping;
        not_aborting = u.jobs.not_aborting;
        named = λ n kept is f. u.jobs.named n (kept_was n kept) is f;
      };
      substrates = record {
        here = λ n kept is f. u.substrates.here n (kept_was n kept) is f;
        finished = λ n kept is f. u.substrates.finished n (kept_was n kept) is f;
        in_slot = λ n x y at f. u.substrates.in_slot n x y (place_was n (slot x y) at) f;
        to_chamber = u.substrates.to_chamber;
        not_given = u.substrates.not_given;
      };
    },
    sum_left counted remains (owed planned g) (owed planned left) g.substrates
        (λ n kept is t. ap (λ (x : Option Loc). owed_by (planned n) (g.steps_of n) x (is_finished (g.processing n)) (g.is_aligned n)) (ap (λ (b : Bool). cond b None (g.place_of n)) (not-true (g.carrier_of n == c) t)))
        (λ n kept is t. its_owed n kept is (is_number (g.carrier_of n) c (not-false (g.carrier_of n == c) t))),
  )
