-- Where a substrate is to go, by numbers: its own slot, the aligner, or a chamber of its next step, each where it is empty and Idle.
use Rattle.std.proofs.Common.{◌≡◌, ◌≤◌, ◌<◌, ◌⊎◌, inl, inr, ℕ, zero, suc, ◌+◌, ◌==◌, nat_le, Bool, true, false, ◌||◌, ◌&&◌, not, if◌then◌else◌, List, [], ◌∷◌, length, map, Option, Some, None, option_map, slice_get, refl, ◌∙◌, ap, subst, arith}
use Rattle.std.specs.Option.{option_or}
use Rattle.std.proofs.lemmas.Bool.{and_parts, or_right}
use Rattle.std.proofs.lemmas.Bool.Decides.{Decides-eqb, nat_tests}
use Rattle.gem_tables.specs.Table.{is_one_of}
use Rattle.gem_tables.proofs.Rows.{both}
use Rattle.gem_ids.specs.declared.numbers.LocId.{LocId}
use Rattle.gem_ids.specs.declared.numbers.LocId.TheVariants.{Slot, Aligner, Arm, Chamber}
use Rattle.robot_moves.specs.Modules.{module_at, chamber_module, is_idle}
use Rattle.tool_tasks.specs.Chambers.{has_chamber}
use Rattle.robot_moves.specs.Moves.{first_of, is_empty, is_free, is_next, chamber_where_free, free_chamber, target, where_free, free_target}
use Rattle.robot_moves.specs.declared.module.Module.{Module}
use Rattle.robot_moves.specs.declared.module.Module.TheVariants.{Idle}
use Rattle.robot_moves.specs.declared.view.PlaceView.{PlaceView}
use Rattle.floor_model.specs.Floor.{ToolFloor}
use Rattle.floor_model.specs.Views.{views}
use Rattle.floor_model.proofs.Moves.{is_idle_module}
use Rattle.floor_moves.specs.Floor.{aligner, chamber, idle, modules, is_finished, next_step, chamber_module as its_module}
use Rattle.floor_moves.specs.Valid.{Empty, HasRoom}
use Rattle.place_laws.specs.Picture.{picture, loc_of, module_of, numbers_from}
use Rattle.place_laws.specs.Sound.{Base}
use Rattle.floor_laws.proofs.IssueViews.{IsSeen, empty_seen}

-- ---- numbers of modules and chambers

-- a number from one on is among so many
pub among_numbers : (first count n : ℕ) → first ≤ n → n < first + count → is_one_of (numbers_from first count) n ≡ true
among_numbers first zero n least most = absurd (omega (arith, least, most))
among_numbers first (suc count) n least most = of (first == n) refl (λ other. among_numbers (first + 1) count n (omega (arith, least, other)) (omega (arith, most))) where
  of : (b : Bool) → (first == n) ≡ b → ((first ≡ n → ⊥) → is_one_of (numbers_from (first + 1) count) n ≡ true) → (b || is_one_of (numbers_from (first + 1) count) n) ≡ true
  of true e rest = refl
  of false e rest = rest (λ same. let t = (Decides-eqb first n).1 same in cc)

-- modules of two chambers are the same where the chambers are
same_chamber : (c d : ℕ) → (its_module d == its_module c) ≡ (d == c)
same_chamber c d = grind (arith, nat_tests)

-- a chamber is among those that have the number of its module
chamber_among : (c : ℕ) (cs : List ℕ) → is_one_of (map its_module cs) (its_module c) ≡ is_one_of cs c
chamber_among c [] = refl
chamber_among c (d ∷ ds) = ap (λ (b : Bool). b || is_one_of (map its_module ds) (its_module c)) (same_chamber c d) ∙ ap (λ (b : Bool). (d == c) || b) (chamber_among c ds)

-- a module that is there has a number of the list's
get_within : {A : Type 0} (n : ℕ) (xs : List A) (x : A) → slice_get xs n ≡ Some x → n < length xs
get_within n [] x e = absurd (cc)
get_within zero (y ∷ ys) x e = omega arith
get_within (suc n) (y ∷ ys) x e = let later = get_within n ys x e in omega (arith, later)

-- so has the module of a number, counted from 1
at_within : (m : ℕ) (ms : List Module) (x : Module) → module_at m ms ≡ Some x → (1 ≤ m) × (m ≤ length ms)
at_within zero ms x e = absurd (cc)
at_within (suc n) ms x e = let less = get_within n ms x e in (omega arith, omega (arith, less))

module _ (f : ToolFloor) (b : Base f) where
  -- an Idle module is idle by numbers, and is one of the tool
  pub idle_seen : (m : ℕ) → is_idle (module_at m f.modules) ≡ true → (picture f).equipment m ≡ idle
  idle_seen m e = ap (λ (o : Option Module). module_of o f.places) (is_idle_module (module_at m f.modules) e)

  -- so is the chamber of an Idle module
  pub chamber_within : (c : ℕ) → 1 ≤ c → is_idle (module_at (chamber_module c) f.modules) ≡ true → is_one_of (picture f).chambers c ≡ true
  chamber_within c least e =
      let within = at_within (chamber_module c) f.modules Idle (is_idle_module (module_at (chamber_module c) f.modules) e) in
      let most = within.1 in
      let few = b.modules in
      among_numbers 1 f.places.chambers c least (omega (arith, most, few))

  -- and the module itself
  pub module_within : (m : ℕ) → is_idle (module_at m f.modules) ≡ true → is_one_of (modules (picture f)) m ≡ true
  module_within zero e = absurd (cc)
  module_within (suc zero) e = refl
  module_within (suc (suc zero)) e = refl
  module_within (suc (suc (suc c))) e =
      or_right (1 == suc (suc (suc c))) (is_one_of (2 ∷ map its_module (picture f).chambers) (suc (suc (suc c))))
      (or_right (2 == suc (suc (suc c))) (is_one_of (map its_module (picture f).chambers) (suc (suc (suc c))))
      (chamber_among (suc c) (picture f).chambers ∙ chamber_within (suc c) (omega arith) e))

-- ---- targets

-- of a finished substrate, its own slot
pub record IsHome (v : PlaceView) (loc : LocId) : Type 0 where
  pub finished : v.finished ≡ true
  pub its_own : loc ≡ v.slot

-- of one that isn't aligned, the aligner
pub record IsAligner (v : PlaceView) (loc : LocId) : Type 0 where
  pub unfinished : v.finished ≡ false
  pub unaligned : v.aligned ≡ false
  pub at : loc ≡ Aligner

-- of an aligned one, a chamber of its next step
pub record IsChamber (v : PlaceView) (loc : LocId) : Type 0 where
  pub unfinished : v.finished ≡ false
  pub aligned : v.aligned ≡ true
  pub c : ℕ
  pub least : 1 ≤ c
  pub next : is_next v c ≡ true
  pub at : loc ≡ Chamber c

-- one of them
abbrev pub IsTarget : PlaceView → LocId → Type 0
IsTarget v loc = IsHome v loc ⊎ (IsAligner v loc ⊎ IsChamber v loc)

-- a chamber of 1 to 8 that a set has is in the step of that set
next_of : (v : PlaceView) (c : ℕ) → 1 ≤ c → c ≤ 8 → has_chamber v.chambers c ≡ true → is_next v c ≡ true
next_of v c least most has = both (nat_le 1 c && nat_le c 8) (has_chamber v.chambers c) (within c least most) has where
  within : (c : ℕ) → 1 ≤ c → c ≤ 8 → (nat_le 1 c && nat_le c 8) ≡ true
  within c least most = grind (arith, nat_tests)

module _ (vs : List PlaceView) (ms : List Module) (v : PlaceView) where
  -- the first chamber that is found has the bit, and is one of those that were looked at
  chamber_found : (first count c : ℕ) → first_of (chamber_where_free vs ms v) first count ≡ Some c → (first ≤ c) × (c < first + count) × (has_chamber v.chambers c ≡ true)
  chamber_found first zero c e = absurd (cc)
  chamber_found first (suc count) c e = of (has_chamber v.chambers first && is_free vs ms (Chamber first)) refl (chamber_found (first + 1) count c) e where
    of : (t : Bool) → (has_chamber v.chambers first && is_free vs ms (Chamber first)) ≡ t → (first_of (chamber_where_free vs ms v) (first + 1) count ≡ Some c → (first + 1 ≤ c) × (c < first + 1 + count) × (has_chamber v.chambers c ≡ true)) → option_or (if t then Some first else None) (first_of (chamber_where_free vs ms v) (first + 1) count) ≡ Some c → (first ≤ c) × (c < first + suc count) × (has_chamber v.chambers c ≡ true)
    of true q rest e =
        let same : first ≡ c = cc in
        let has = (and_parts (has_chamber v.chambers first) (is_free vs ms (Chamber first)) q).0 in
        (omega (arith, same), omega (arith, same), subst (λ (n : ℕ). has_chamber v.chambers n ≡ true) same has)
    of false q rest e =
        let later = rest e in
        let least = later.0 in
        let most = later.1 in
        (omega (arith, least), omega (arith, most), later.2)

  -- a target is one of the three
  target_is : (loc : LocId) → target vs ms v ≡ Some loc → IsTarget v loc
  target_is loc e = of v.finished refl v.aligned refl e where
    in_chamber : v.finished ≡ false → v.aligned ≡ true → (o : Option ℕ) → free_chamber vs ms v ≡ o → option_map (λ (c : ℕ). Chamber c) o ≡ Some loc → IsTarget v loc
    in_chamber p q None r e = absurd (cc)
    in_chamber p q (Some c) r e =
        let found = chamber_found 1 8 c r in
        let most = found.1 in
        inr (inr (record { unfinished = p; aligned = q; c = c; least = found.0; next = next_of v c found.0 (omega (arith, most)) found.2; at = cc }))

    of : (finished : Bool) → v.finished ≡ finished → (aligned : Bool) → v.aligned ≡ aligned
        → (if finished then Some v.slot else (if not aligned then Some Aligner else option_map (λ (c : ℕ). Chamber c) (free_chamber vs ms v))) ≡ Some loc → IsTarget v loc
    of true p aligned q e = inl (record { finished = p; its_own = cc })
    of false p false q e = inr (inl (record { unfinished = p; unaligned = q; at = cc }))
    of false p true q e = in_chamber p q (free_chamber vs ms v) refl e

  -- a free target is a target, and is free
  pub free_target_is : (loc : LocId) → free_target vs ms v ≡ Some loc → IsTarget v loc × (is_free vs ms loc ≡ true)
  free_target_is loc e = of (target vs ms v) refl e where
    where_tested : (at : LocId) (t : Bool) → is_free vs ms at ≡ t → (if t then Some at else None) ≡ Some loc → (at ≡ loc) × (is_free vs ms at ≡ true)
    where_tested at true q e = (cc, q)
    where_tested at false q e = absurd (cc)

    of : (o : Option LocId) → target vs ms v ≡ o → where_free vs ms o ≡ Some loc → IsTarget v loc × (is_free vs ms loc ≡ true)
    of None q e = absurd (cc)
    of (Some at) q e =
        let here = where_tested at (is_free vs ms at) refl e in
        (target_is loc (q ∙ ap (λ (l : LocId). Some l) here.0), subst (λ (l : LocId). is_free vs ms l ≡ true) here.0 here.1)

-- ---- by numbers

module _ (f : ToolFloor) (b : Base f) where
  -- what is free is empty, and a module's is Idle
  pub free_empty : (loc : LocId) → is_free (views f) f.modules loc ≡ true → Empty (loc_of loc) (picture f)
  free_empty (Slot p k) e = empty_seen f b (Slot p k) e
  free_empty Aligner e = empty_seen f b Aligner (and_parts (is_empty Aligner (views f)) (is_idle (module_at 2 f.modules)) e).0
  free_empty Arm e = empty_seen f b Arm (and_parts (is_empty Arm (views f)) (is_idle (module_at 1 f.modules)) e).0
  free_empty (Chamber c) e = empty_seen f b (Chamber c) (and_parts (is_empty (Chamber c) (views f)) (is_idle (module_at (chamber_module c) f.modules)) e).0

  -- a chamber that is free is one of the tool
  pub free_chamber_within : (c : ℕ) → 1 ≤ c → is_free (views f) f.modules (Chamber c) ≡ true → is_one_of (picture f).chambers c ≡ true
  free_chamber_within c least e = chamber_within f b c least (and_parts (is_empty (Chamber c) (views f)) (is_idle (module_at (chamber_module c) f.modules)) e).1

  -- where a target is free there is room for a substrate in a job
  pub room_seen : (n : ℕ) (v : PlaceView) (loc : LocId) → IsSeen f n v → (picture f).jobs.is_member n ≡ true → free_target (views f) f.modules v ≡ Some loc → HasRoom n (picture f)
  room_seen n v loc s member e unfinished = of (free_target_is (views f) f.modules v loc e) where
    of : IsTarget v loc × (is_free (views f) f.modules loc ≡ true) → record {
      at_aligner : (picture f).is_aligned n ≡ false → Empty aligner (picture f);
      in_chamber : (picture f).is_aligned n ≡ true → (c : ℕ) × (is_one_of (next_step n (picture f)) c ≡ true) × (is_one_of (picture f).chambers c ≡ true) × Empty (chamber c) (picture f);
    }
    of (inl h, free) = let yes : is_finished ((picture f).processing n) ≡ true = s.finished ∙ h.finished in absurd (cc)
    of (inr (inl h), free) = record {
      at_aligner = λ un. free_empty Aligner (subst (λ (l : LocId). is_free (views f) f.modules l ≡ true) h.at free);
      in_chamber = λ al. let no : (picture f).is_aligned n ≡ false = s.aligned ∙ h.unaligned in absurd (cc);
    }
    of (inr (inr h), free) =
        let here = subst (λ (l : LocId). is_free (views f) f.modules l ≡ true) h.at free in
        record {
          at_aligner = λ un. let yes : (picture f).is_aligned n ≡ true = s.aligned ∙ h.aligned in absurd (cc);
          in_chamber = λ al. (h.c, s.next member h.c ∙ h.next, free_chamber_within h.c h.least here, free_empty (Chamber h.c) here);
        }
