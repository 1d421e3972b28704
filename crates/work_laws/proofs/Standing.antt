-- What stands where by numbers stands there for the planner: who is seen at a place, which modules are Idle, which targets are free, and who
-- may leave.
use Rattle.std.proofs.Common.{◌≡◌, ◌≤◌, ◌<◌, ℕ, zero, suc, ◌+◌, ◌==◌, nat_le, Bool, true, false, ◌||◌, ◌&&◌, not, if◌then◌else◌, List, [], ◌∷◌, find, length, Option, Some, None, option_map, is_some, slice_get, refl, sym, ◌∙◌, ap, subst, arith}
use Rattle.std.specs.Option.{option_or}
use Rattle.std.proofs.lemmas.Bool.{and_parts, and_from}
use Rattle.std.proofs.lemmas.Bool.Decides.{Decides-eqb, nat_tests}
use Rattle.gem_tables.specs.Table.{is_one_of}
use Rattle.gem_ids.specs.declared.numbers.LocId.{LocId}
use Rattle.gem_ids.specs.declared.numbers.LocId.TheVariants.{Slot, Aligner, Arm, Chamber}
use Rattle.robot_moves.specs.Modules.{module_at, is_idle, chamber_module}
use Rattle.tool_tasks.specs.Chambers.{has_chamber}
use Rattle.robot_moves.specs.Moves.{first_of, holder, is_empty, is_free, chamber_where_free, free_chamber, where_free, free_target, is_next, may_leave, is_useful}
use Rattle.robot_moves.specs.declared.module.Module.{Module as ToolModule}
use Rattle.robot_moves.specs.declared.view.PlaceView.{PlaceView}
use Rattle.substrate.specs.Locations.{is_same}
use Rattle.substrate.specs.declared.registered.Registered.{Registered}
use Rattle.process_job.specs.Jobs.{recipe_named}
use Rattle.process_job.specs.declared.job.ProcessJob.{ProcessJob}
use Rattle.floor_model.specs.declared.tracked.Substrate.{Substrate}
use Rattle.floor_model.specs.Floor.{ToolFloor, substrate_numbered}
use Rattle.floor_model.specs.Jobs.{job_of}
use Rattle.floor_model.specs.Views.{views}
use Rattle.floor_moves.specs.Floor as law
use Rattle.floor_moves.specs.Floor.{Loc, slot, own}
use Rattle.floor_moves.specs.Rest.{HasTarget, MayLeave}
use Rattle.floor_moves.specs.Valid.{Empty, Valid}
use Rattle.place_laws.specs.Picture.{picture, loc_of, numbers_from, steps_in, of_one, of_job}
use Rattle.place_laws.specs.Sound.{Base}
use Rattle.floor_laws.proofs.IssueHeld.{none_any}
use Rattle.floor_laws.proofs.IssueViews.{IsSeen, holder_seen, none_seen}
use Rattle.work_laws.proofs.Lists.{none_of}
use Rattle.place_laws.proofs.Names.{same_loc}

-- ---- numbers of chambers and modules

-- a number that is one of so many from one on is within them
pub within : (first count n : ℕ) → is_one_of (numbers_from first count) n ≡ true → (first ≤ n) × (n < first + count)
within first zero n e = absurd (cc)
within first (suc count) n e = of (first == n) refl e (within (first + 1) count n) where
  of : (b : Bool) → (first == n) ≡ b → (b || is_one_of (numbers_from (first + 1) count) n) ≡ true → (is_one_of (numbers_from (first + 1) count) n ≡ true → (first + 1 ≤ n) × (n < first + 1 + count)) → (first ≤ n) × (n < first + suc count)
  of true q e rest = let same = (Decides-eqb first n).0 q in (omega (arith, same), omega (arith, same))
  of false q e rest = let more = rest e in let a = more.0 in let b = more.1 in (omega (arith, a), omega (arith, b))

-- there is a module of each place in the list
pub there : (n : ℕ) (ms : List ToolModule) → n < length ms → (x : ToolModule) × (slice_get ms n ≡ Some x)
there n [] less = absurd (omega (arith, less))
there zero (x ∷ ms) less = (x, refl)
there (suc n) (x ∷ ms) less = there n ms (omega (arith, less))

-- ---- chambers that are chosen

module _ (vs : List PlaceView) (ms : List ToolModule) (w : PlaceView) where
  -- one that is chosen is free
  chosen_free : (first count d : ℕ) → first_of (chamber_where_free vs ms w) first count ≡ Some d → is_free vs ms (Chamber d) ≡ true
  chosen_free first zero d e = absurd (cc)
  chosen_free first (suc count) d e = of (has_chamber w.chambers first && is_free vs ms (Chamber first)) refl (chosen_free (first + 1) count d) e where
    of : (t : Bool) → (has_chamber w.chambers first && is_free vs ms (Chamber first)) ≡ t → (first_of (chamber_where_free vs ms w) (first + 1) count ≡ Some d → is_free vs ms (Chamber d) ≡ true) → option_or (if t then Some first else None) (first_of (chamber_where_free vs ms w) (first + 1) count) ≡ Some d → is_free vs ms (Chamber d) ≡ true
    of true q rest e =
        let same : first ≡ d = cc in
        subst (λ (n : ℕ). is_free vs ms (Chamber n) ≡ true) same (and_parts (has_chamber w.chambers first) (is_free vs ms (Chamber first)) q).1
    of false q rest e = rest e

  -- where a chamber of its recipe is free, its target is
  chamber_target : (c : ℕ) → 1 ≤ c → c ≤ 8 → (has_chamber w.chambers c && is_free vs ms (Chamber c)) ≡ true → is_some (where_free vs ms (option_map (λ (c : ℕ). Chamber c) (free_chamber vs ms w))) ≡ true
  chamber_target c least most e = of (free_chamber vs ms w) refl where
    of : (o : Option ℕ) → free_chamber vs ms w ≡ o → is_some (where_free vs ms (option_map (λ (c : ℕ). Chamber c) o)) ≡ true
    of None q =
        let none : chamber_where_free vs ms w c ≡ None = none_of (chamber_where_free vs ms w) 1 8 c q least (omega (arith, most)) in
        let some : chamber_where_free vs ms w c ≡ Some c = ap (λ (b : Bool). if b then Some c else None) e in
        absurd (cc)
    of (Some d) q = ap (λ (b : Bool). is_some (if b then Some (Chamber d) else None)) (chosen_free 1 8 d q)

-- ---- by numbers

-- one with a chamber in its next step is in a job
next_member : (f : ToolFloor) (n c : ℕ) → is_one_of (law.next_step n (picture f)) c ≡ true → (picture f).jobs.is_member n ≡ true
next_member f n c e = of (substrate_numbered n f.substrates) e where
  of_its : (steps : ℕ) (o : Option ProcessJob) → is_one_of (law.step_at steps (of_one [] (λ (j : ProcessJob). steps_in (recipe_named j.recipe f.jobs.process.recipes)) o)) c ≡ true → of_one false (λ (j : ProcessJob). true) o ≡ true
  of_its steps None e = absurd (cc)
  of_its steps (Some j) e = refl

  of : (o : Option Substrate) → is_one_of (law.step_at (of_one 0 (λ (s : Substrate). s.steps) o) (of_one [] (of_job [] (λ j. steps_in (recipe_named j.recipe f.jobs.process.recipes)) f.jobs) o)) c ≡ true → of_one false (of_job false (λ j. true) f.jobs) o ≡ true
  of None e = absurd (cc)
  of (Some s) e = of_its s.steps (job_of s f.jobs) e

module _ (f : ToolFloor) (b : Base f) (v : Valid (picture f)) (many : length f.modules ≡ 2 + f.places.chambers)
    (idles : (m : ℕ) → 1 ≤ m → m ≤ length f.modules → is_idle (module_at m f.modules) ≡ true) where
  -- ---- modules

  aligner_there : is_idle (module_at 2 f.modules) ≡ true
  aligner_there = idles 2 (omega arith) (omega (arith, many))

  chamber_there : (c : ℕ) → is_one_of (picture f).chambers c ≡ true → is_idle (module_at (chamber_module c) f.modules) ≡ true
  chamber_there c known = let w = within 1 f.places.chambers c known in let most = w.1 in idles (chamber_module c) (omega arith) (omega (arith, most, many))

  -- ---- who is where

  -- the view of a substrate at a place
  pub record IsShown (n : ℕ) (loc : LocId) (w : PlaceView) : Type 0 where
    pub held : holder loc (views f) ≡ Some w
    pub seen : IsSeen f n w
    pub at : w.at ≡ loc

  pub shown : (n : ℕ) (loc : LocId) → (picture f).place_of n ≡ Some (loc_of loc) → (w : PlaceView) × IsShown n loc w
  shown n loc at = of (holder loc (views f)) refl where
    of : (o : Option PlaceView) → holder loc (views f) ≡ o → (w : PlaceView) × IsShown n loc w
    of None e = absurd (none_seen f b loc e n at)
    of (Some w) e =
        let its = holder_seen f b loc w e in
        let seen : IsSeen f its.0.0 w = its.0.1 in
        let here : (picture f).place_of its.0.0 ≡ Some (loc_of loc) = seen.at ∙ ap (λ (l : LocId). Some (loc_of l)) its.1 in
        let same : its.0.0 ≡ n = v.places.apart its.0.0 n (loc_of loc) here at in
        (w, record { held = e; seen = subst (λ (k : ℕ). IsSeen f k w) same seen; at = its.1 })

  -- where nobody is nobody is seen
  pub none_held : (loc : LocId) → Empty (loc_of loc) (picture f) → holder loc (views f) ≡ None
  none_held loc free = of (holder loc (views f)) refl where
    of : (o : Option PlaceView) → holder loc (views f) ≡ o → o ≡ None
    of None e = refl
    of (Some w) e =
        let its = holder_seen f b loc w e in
        let seen : IsSeen f its.0.0 w = its.0.1 in
        absurd (free its.0.0 (seen.at ∙ ap (λ (l : LocId). Some (loc_of l)) its.1))

  empty_there : (loc : LocId) → Empty (loc_of loc) (picture f) → is_empty loc (views f) ≡ true
  empty_there loc free = ap (λ (t : Bool). not t) (none_any (λ (x : PlaceView). is_same x.at loc) (views f) (none_held loc free))

  -- a place has a name
  pub place_named : (n : ℕ) (l : Loc) → (picture f).place_of n ≡ Some l → (loc : LocId) × (loc_of loc ≡ l)
  place_named n l at = of (find (λ (r : Registered). r.number == n) f.places.held) at where
    of : (o : Option Registered) → option_map (λ (r : Registered). loc_of r.at) o ≡ Some l → (loc : LocId) × (loc_of loc ≡ l)
    of None e = absurd (cc)
    of (Some r) e = (r.at, cc)

  -- ---- targets

  module _ (n : ℕ) (w : PlaceView) (s : IsSeen f n w) where
    -- what the target is, by whether it is finished and aligned
    abbrev target_by : Bool → Bool → Option LocId
    target_by finished is_aligned = if finished then Some w.slot else (if not is_aligned then Some Aligner else option_map (λ (c : ℕ). Chamber c) (free_chamber (views f) f.modules w))

    home_there : w.finished ≡ true → Empty (own n (picture f)) (picture f) → is_some (free_target (views f) f.modules w) ≡ true
    home_there finished free =
        let home = s.home in
        let empty : Empty (loc_of (Slot home.0 home.1)) (picture f) = subst (λ (l : Loc). Empty l (picture f)) (s.its_own ∙ ap loc_of home.2) free in
        let is : is_free (views f) f.modules w.slot ≡ true = ap (is_free (views f) f.modules) home.2 ∙ empty_there (Slot home.0 home.1) empty in
        ap (λ (x : Bool). is_some (where_free (views f) f.modules (target_by x w.aligned))) finished
        ∙ ap (λ (x : Bool). is_some (if x then Some w.slot else None)) is

    by_aligned : (is_aligned : Bool) → w.finished ≡ false → w.aligned ≡ is_aligned → is_some (where_free (views f) f.modules (target_by false is_aligned)) ≡ true → is_some (free_target (views f) f.modules w) ≡ true
    by_aligned is_aligned unfinished al e =
        ap (λ (x : Bool). is_some (where_free (views f) f.modules (target_by x w.aligned))) unfinished
        ∙ ap (λ (x : Bool). is_some (where_free (views f) f.modules (target_by false x))) al ∙ e

    -- where there is room for it next, the planner has a target
    pub target_there : HasTarget n (picture f) → is_some (free_target (views f) f.modules w) ≡ true
    target_there has = of w.finished refl w.aligned refl where
      of : (x : Bool) → w.finished ≡ x → (y : Bool) → w.aligned ≡ y → is_some (free_target (views f) f.modules w) ≡ true
      of true p y q = home_there p (has.0 (s.finished ∙ p))
      of false p false q =
          by_aligned false p q (ap (λ (x : Bool). is_some (if x then Some Aligner else None))
          (and_from (is_empty Aligner (views f)) (is_idle (module_at 2 f.modules)) (empty_there Aligner ((has.1 (s.finished ∙ p)).at_aligner (s.aligned ∙ q))) aligner_there))
      of false p true q =
          let c = (has.1 (s.finished ∙ p)).in_chamber (s.aligned ∙ q) in
          let next = and_parts (nat_le 1 c.0 && nat_le c.0 8) (has_chamber w.chambers c.0) (sym (s.next (next_member f n c.0 c.1) c.0) ∙ c.1) in
          let lies = next.0 in
          let least : 1 ≤ c.0 = grind (arith, nat_tests, lies) in
          let most : c.0 ≤ 8 = grind (arith, nat_tests, lies) in
          let open_there : is_free (views f) f.modules (Chamber c.0) ≡ true = and_from (is_empty (Chamber c.0) (views f)) (is_idle (module_at (chamber_module c.0) f.modules)) (empty_there (Chamber c.0) c.3) (chamber_there c.0 c.2) in
          by_aligned true p q (chamber_target (views f) f.modules w c.0 least most (and_from (has_chamber w.chambers c.0) (is_free (views f) f.modules (Chamber c.0)) next.1 open_there))

    -- ---- who may leave

    leaves_there : (loc : LocId) → (picture f).place_of n ≡ Some (loc_of loc) → MayLeave n (loc_of loc) (picture f) → may_leave loc f.modules w ≡ true
    leaves_there (Slot p k) at may =
        and_from (is_same (Slot p k) w.slot && not w.finished) w.may_start
        (and_from (is_same (Slot p k) w.slot) (not w.finished) (same_loc (Slot p k) w.slot (v.places.home n p.0 k.0 at ∙ s.its_own)) (ap not (sym s.finished ∙ may.0)))
        (sym s.starts ∙ may.1)
    leaves_there Aligner at may =
        and_from (is_idle (module_at 2 f.modules)) (w.finished || w.aligned) aligner_there
        (ap (λ (x : Bool). x || w.aligned) (sym s.finished) ∙ ap (λ (x : Bool). law.is_finished ((picture f).processing n) || x) (sym s.aligned) ∙ may)
    leaves_there Arm at may = absurd may
    leaves_there (Chamber c) at may =
        and_from (is_idle (module_at (chamber_module c) f.modules)) (w.finished || not (is_next w c)) (chamber_there c (v.places.chambers n c at))
        (of w.finished (λ unfinished. sym (s.next (v.members.outside n (ap law.is_outside at)) c) ∙ may (s.finished ∙ unfinished)) refl)
      where
        of : (b : Bool) → (w.finished ≡ false → is_next w c ≡ false) → w.finished ≡ b → (b || not (is_next w c)) ≡ true
        of true none e = refl
        of false none e = ap not (none e)

    -- its pick is useful
    pub useful_there : (loc : LocId) → w.at ≡ loc → (picture f).place_of n ≡ Some (loc_of loc) → MayLeave n (loc_of loc) (picture f) → HasTarget n (picture f) → is_useful (views f) f.modules w ≡ true
    useful_there loc is at may has =
        and_from (may_leave w.at f.modules w) (is_some (free_target (views f) f.modules w)) (ap (λ (l : LocId). may_leave l f.modules w) is ∙ leaves_there loc at may) (target_there has)
