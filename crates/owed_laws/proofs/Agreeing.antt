-- What is owed, and what stands undisturbed, is said of what is kept.
use Rattle.std.proofs.Common.{◌≡◌, ◌≤◌, ℕ, Bool, true, false, List, filter, Option, Some, None, refl, sym, ap, subst, ◌∙◌}
use Rattle.gem_tables.specs.Table.{is_one_of}
use Rattle.floor_moves.specs.Floor.{Loc, slot, aligner, arm, chamber, Floor, is_finished}
use Rattle.floor_moves.specs.Sums.{sum_of}
use Rattle.floor_moves.specs.Valid.{Valid}
use Rattle.floor_moves.specs.Agree.{Agree}
use Rattle.owed_laws.specs.Owed.{owed_by, owed, owed_to, commands_of}
use Rattle.owed_laws.specs.Undisturbed.{AreUnaligned, Undisturbed}
use Rattle.owed_laws.proofs.Totals.{sum_same}
use Rattle.floor_moves.proofs.Agreeing.{place_back, busy_back, kept_back, finished_same}

-- what is owed for one that is finished is the same however many steps are done
none_asked : (route : List (List ℕ)) (i k : ℕ) (p : Option Loc) (b : Bool) → owed_by route i p true b ≡ owed_by route k p true b
none_asked route i k None b = refl
none_asked route i k (Some (slot p n)) b = refl
none_asked route i k (Some aligner) b = refl
none_asked route i k (Some arm) b = refl
none_asked route i k (Some (chamber c)) b = refl

module _ (g h : Floor) (a : Agree g h) where
  module _ (planned : ℕ → List (List ℕ)) where
    -- the steps are asked of one that is unfinished alone
    steps_same : (n : ℕ) (f : Bool) → is_one_of g.substrates n ≡ true → is_finished (g.processing n) ≡ f → owed_by (planned n) (h.steps_of n) (g.place_of n) f (g.is_aligned n) ≡ owed_by (planned n) (g.steps_of n) (g.place_of n) f (g.is_aligned n)
    steps_same n true kept e = none_asked (planned n) (h.steps_of n) (g.steps_of n) (g.place_of n) (g.is_aligned n)
    steps_same n false kept e = ap (λ (k : ℕ). owed_by (planned n) k (g.place_of n) false (g.is_aligned n)) (a.steps_of n kept e)

    owed_same : (n : ℕ) → is_one_of g.substrates n ≡ true → owed planned h n ≡ owed planned g n
    owed_same n kept =
        ap (λ (p : Option Loc). owed_by (planned n) (h.steps_of n) p (is_finished (h.processing n)) (h.is_aligned n)) (a.place_of n)
        ∙ ap (λ (f : Bool). owed_by (planned n) (h.steps_of n) (g.place_of n) f (h.is_aligned n)) (finished_same g h a n kept)
        ∙ ap (owed_by (planned n) (h.steps_of n) (g.place_of n) (is_finished (g.processing n))) (a.is_aligned n kept)
        ∙ steps_same n (is_finished (g.processing n)) kept refl

    pub agree-owed : (counted : ℕ → Bool) → owed_to planned counted h ≡ owed_to planned counted g
    agree-owed counted =
        ap (λ (ns : List ℕ). sum_of (owed planned h) (filter counted ns)) a.substrates
        ∙ sum_same counted (owed planned h) (owed planned g) g.substrates (λ n kept _. owed_same n kept)

  pub agree-commands : (steps : ℕ → ℕ) (counted : ℕ → Bool) → commands_of steps counted h ≡ commands_of steps counted g
  agree-commands steps counted = ap (λ (ns : List ℕ). commands_of steps counted (record g { substrates = ns })) a.substrates

  pub agree-unaligned : Valid g → AreUnaligned g → AreUnaligned h
  agree-unaligned v u n p k at f =
      let was = place_back g h a n _ at in
      let kept = v.places.kept n (slot p k) was in
      a.is_aligned n kept ∙ u n p k was (sym (finished_same g h a n kept) ∙ f)

  pub agree-undisturbed : (counted : ℕ → Bool) → Valid g → Undisturbed counted g → Undisturbed counted h
  agree-undisturbed counted v u = record {
    jobs = record {
      members = λ n is. u.jobs.members n (sym (a.jobs.is_member n) ∙ is);
      not_stopping = λ n. a.jobs.is_stopping n ∙ u.jobs.not_stopping n;
      not_aborting = λ n. a.jobs.is_aborting n ∙ u.jobs.not_aborting n;
      named = λ n kept is f. let i = kept_back g h a n kept in
          ap h.jobs.names_carrier (a.carrier_of n i) ∙ a.jobs.names_carrier (g.carrier_of n) (g.port_of n) (v.carriers.present n i) ∙ u.jobs.named n i is (sym (finished_same g h a n i) ∙ f);
    };
    substrates = record {
      here = λ n kept is f. let i = kept_back g h a n kept in subst (λ (k : ℕ). k ≤ 1) (sym (access_same n i)) (u.substrates.here n i is (sym (finished_same g h a n i) ∙ f));
      finished = λ n kept is f. let i = kept_back g h a n kept in a.is_aligned n i ∙ u.substrates.finished n i is (sym (finished_same g h a n i) ∙ f);
      in_slot = agree-unaligned v u.substrates.in_slot;
      to_chamber = λ m n c d e t. let was = busy_back g h a m _ e in finished_same g h a n (v.places.kept n arm (v.commands.places m n (chamber c) d was t).stands) ∙ u.substrates.to_chamber m n c d was t;
      not_given = λ n less. u.substrates.not_given n (subst (λ (k : ℕ). k ≤ n) a.next_substrate less);
    };
  } where
    access_same : (n : ℕ) → is_one_of g.substrates n ≡ true → h.access (h.carrier_of n) ≡ g.access (g.carrier_of n)
    access_same n i = ap h.access (a.carrier_of n i) ∙ a.access (g.carrier_of n) (v.carriers.known (g.carrier_of n) (g.port_of n) (v.carriers.present n i))
