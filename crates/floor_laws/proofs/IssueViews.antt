-- What the planner is told of a substrate is what the floor by numbers says of it.
use Rattle.std.proofs.Common.{◌≡◌, ℕ, ◌==◌, Bool, true, false, ◌||◌, not, List, [], ◌∷◌, ◌++◌, find, Option, Some, None, option_map, slice_get, refl, sym, ◌∙◌, ap, subst}
use Rattle.std.specs.List.{AllByRecursion, list_any}
use Rattle.gem_tables.specs.Table.{is_one_of}
use Rattle.gem_ids.specs.declared.numbers.LocId.{LocId}
use Rattle.gem_ids.specs.declared.numbers.LocId.TheVariants.{Slot}
use Rattle.gem_ids.specs.declared.numbers.PortNo.{PortNo}
use Rattle.gem_ids.specs.declared.numbers.SlotNo.{SlotNo}
use Rattle.robot_moves.specs.Moves.{holder, is_empty, is_next}
use Rattle.robot_moves.specs.declared.view.PlaceView.{PlaceView}
use Rattle.shop_floor.proofs.Belonging.{all_at}
use Rattle.substrate.specs.Locations.{is_same}
use Rattle.substrate.specs.Places.{stands_at}
use Rattle.substrate.specs.Record.{is_finished}
use Rattle.substrate.specs.Tables.{processing_number}
use Rattle.substrate.specs.declared.record.Processing.{Processing}
use Rattle.substrate.specs.declared.record.Processing.TheVariants as processing
use Rattle.substrate.specs.declared.registered.Registered.{Registered}
use Rattle.substrate.proofs.Sites.{same_is}
use Rattle.records.proofs.Truth.{not_true}
use Rattle.process_job.specs.declared.job.ProcessJob.{ProcessJob}
use Rattle.floor_model.specs.declared.tracked.Substrate.{Substrate}
use Rattle.floor_model.specs.Floor.{ToolFloor, substrate_numbered, number_of}
use Rattle.floor_model.specs.Jobs.{job_of, is_job_so, is_processing}
use Rattle.floor_model.specs.Views.{view_of, view_in, views_of, views}
use Rattle.floor_moves.specs.Floor.{own, is_finished as is_finished_state, next_step}
use Rattle.floor_moves.specs.Valid.{Empty}
use Rattle.place_laws.specs.Picture.{picture, loc_of, numbered, of_one, of_job}
use Rattle.place_laws.specs.Sound.{Base}
use Rattle.place_laws.proofs.Holding.{found_among, kept_there, own_place, IsThere}
use Rattle.place_laws.proofs.Routes.{its_job, listed_next}
use Rattle.floor_laws.proofs.IssueHeld.{found_so, found_any, none_any, IsHeld, HasKept, all_held}
use Rattle.place_laws.proofs.Names.{same_loc}

-- ---- places

-- ---- states of processing

pub finished_number : (p : Processing) → is_finished_state (processing_number p) ≡ is_finished p
finished_number processing.NeedsProcessing = refl
finished_number processing.InProcess = refl
finished_number processing.Processed = refl
finished_number processing.Aborted = refl
finished_number processing.Stopped = refl
finished_number processing.Rejected = refl
finished_number processing.Lost = refl
finished_number processing.Skipped = refl

-- ---- one view

-- A view is of the substrate of this number: what it says of it, the floor by numbers says. The chambers of its next step are those of the
-- route of its job, where it is in one.
pub record IsSeen (f : ToolFloor) (n : ℕ) (v : PlaceView) : Type 0 where
  pub number : numbered v.sub f.places ≡ n
  pub at : (picture f).place_of n ≡ Some (loc_of v.at)
  pub home : (port : PortNo) × (k : SlotNo) × (v.slot ≡ Slot port k)
  pub its_own : own n (picture f) ≡ loc_of v.slot
  pub finished : is_finished_state ((picture f).processing n) ≡ v.finished
  pub aligned : (picture f).is_aligned n ≡ v.aligned
  pub starts : (picture f).jobs.may_start n ≡ v.may_start
  pub next : (picture f).jobs.is_member n ≡ true → (c : ℕ) → is_one_of (next_step n (picture f)) c ≡ is_next v c

-- a view is of one
abbrev pub IsView : ToolFloor → PlaceView → Type 0
IsView f v = (n : ℕ) × IsSeen f n v

-- the view of a place and its substrate
abbrev seen_at : ToolFloor → Registered → Substrate → PlaceView
seen_at f r s = view_of r s (job_of s f.jobs) f.jobs.process.recipes

module _ (f : ToolFloor) (b : Base f) where
  -- that of a place that is held is
  seen : (r : Registered) (s : Substrate) → IsHeld f r s → IsSeen f r.number (seen_at f r s)
  seen r s h =
      let there : IsThere f r.number = kept_there f b.carried r.number (found_among number_of r.number f.substrates s h.found) in
      let same : there.one ≡ s = by_found there.one there.found in
      record {
        number = rw h.named refl;
        at = rw h.numbered refl;
        home = (there.of.port, there.of.slot, ap (λ (x : Substrate). x.slot) (sym same) ∙ there.of.own);
        its_own = own_place f r.number there ∙ ap (λ (x : Substrate). loc_of x.slot) same;
        finished = ap (λ (o : Option Substrate). is_finished_state (of_one 0 (λ (x : Substrate). processing_number x.states.processing) o)) h.found ∙ finished_number s.states.processing;
        aligned = ap (of_one false (λ (x : Substrate). x.aligned)) h.found;
        starts = ap (of_one false (of_job false (λ j. is_processing j.states.state) f.jobs)) h.found ∙ starts_so (job_of s f.jobs);
        next = λ member c. let j = its_job f r.number s h.found member in listed_next f r.number s h.found j.0 j.1 c;
      }
    where
      by_found : (x : Substrate) → substrate_numbered r.number f.substrates ≡ Some x → x ≡ s
      by_found x e = let here : substrate_numbered r.number f.substrates ≡ Some s = h.found in cc

      starts_so : (o : Option ProcessJob) → of_one false (λ (j : ProcessJob). is_processing j.states.state) o ≡ is_job_so is_processing o
      starts_so None = refl
      starts_so (Some j) = refl

  -- ---- all of them

  all_seen : (rs : List Registered) → AllByRecursion (HasKept f) rs → AllByRecursion (IsView f) (views_of f.jobs f.substrates rs)
  all_seen [] all = tt
  all_seen (r ∷ rs) all =
      subst (λ (o : Option Substrate). AllByRecursion (IsView f) (view_in r o f.jobs ++ views_of f.jobs f.substrates rs)) (sym all.0.1.found)
      ((r.number, seen r all.0.0 all.0.1), all_seen rs all.1)

  -- each is of a substrate
  pub views_seen : AllByRecursion (IsView f) (views f)
  views_seen = all_seen f.places.held (all_held f b)

  -- one is at a place where a substrate is held there
  any_seen : (loc : LocId) (rs : List Registered) → AllByRecursion (HasKept f) rs → list_any (λ (v : PlaceView). is_same v.at loc) (views_of f.jobs f.substrates rs) ≡ list_any (stands_at loc) rs
  any_seen loc [] all = refl
  any_seen loc (r ∷ rs) all =
      subst (λ (o : Option Substrate). list_any (λ (v : PlaceView). is_same v.at loc) (view_in r o f.jobs ++ views_of f.jobs f.substrates rs) ≡ list_any (stands_at loc) (r ∷ rs)) (sym all.0.1.found)
      (ap (λ (a : Bool). is_same r.at loc || a) (any_seen loc rs all.1))

  -- where no view is, no substrate is
  pub empty_seen : (loc : LocId) → is_empty loc (views f) ≡ true → Empty (loc_of loc) (picture f)
  empty_seen loc e n at = of (find (λ (r : Registered). r.number == n) f.places.held) refl at where
    of : (o : Option Registered) → find (λ (r : Registered). r.number == n) f.places.held ≡ o → option_map (λ (r : Registered). loc_of r.at) o ≡ Some (loc_of loc) → ⊥
    of None q at = absurd (cc)
    of (Some r) q at =
        let place : loc_of r.at ≡ loc_of loc = cc in
        let taken : list_any (stands_at loc) f.places.held ≡ true = found_any (λ (x : Registered). x.number == n) (stands_at loc) f.places.held r q (same_loc r.at loc place) in
        let free : list_any (λ (v : PlaceView). is_same v.at loc) (views f) ≡ false = not_true _ e in
        let none : list_any (stands_at loc) f.places.held ≡ false = sym (any_seen loc f.places.held (all_held f b)) ∙ free in
        absurd (cc)

  -- who is found at a place is there
  pub holder_seen : (loc : LocId) (v : PlaceView) → holder loc (views f) ≡ Some v → IsView f v × (v.at ≡ loc)
  holder_seen loc v e =
      let found = found_so (IsView f) (λ (x : PlaceView). is_same x.at loc) (views f) v views_seen e in
      (found.0, same_is v.at loc found.1)

  -- where none is found, no substrate is
  pub none_seen : (loc : LocId) → holder loc (views f) ≡ None → Empty (loc_of loc) (picture f)
  none_seen loc e = empty_seen loc (ap (λ (a : Bool). not a) (none_any (λ (x : PlaceView). is_same x.at loc) (views f) e))

  -- so is one that is in the list
  pub view_seen : (i : ℕ) (v : PlaceView) → slice_get (views f) i ≡ Some v → IsView f v
  view_seen i v e = all_at (IsView f) i (views f) v e views_seen
