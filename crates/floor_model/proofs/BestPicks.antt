-- The best pick is that of the greatest chamber that has one, else that of the aligner, else the first from a slot.
use Rattle.std.proofs.Common.{◌≡◌, inl, inr, ℕ, ◌-◌, ◌≤◌, ◌<◌, nat_lt, Bool, true, false, true≢false, List, length, Option, Some, None, slice_get, refl, sym, ap, subst, ◌∙◌, arith}
use Rattle.std.proofs.lemmas.Bool.Decides.{nat_tests}
use Rattle.gem_ids.specs.declared.numbers.LocId.{LocId}
use Rattle.gem_ids.specs.declared.numbers.LocId.TheVariants.{Slot, Aligner, Arm, Chamber}
use Rattle.substrate.specs.Locations.{is_work_place}
use Rattle.substrate.specs.Places.{ArePlaces}
use Rattle.robot_moves.specs.Moves.{stage_of, is_useful, best_pick}
use Rattle.robot_moves.specs.Best.{GoesFirst}
use Rattle.robot_moves.specs.declared.module.Module.{Module}
use Rattle.robot_moves.specs.declared.view.PlaceView.{PlaceView}
use Rattle.robot_moves.proofs.Best.{first_own}
use Rattle.robot_moves.proofs.Least.{no_best, the_best}
use Rattle.floor_model.specs.Floor.{ToolFloor, RiseTo}
use Rattle.floor_model.specs.Views.{views}
use Rattle.floor_model.specs.Picks.{chamber_pick, last_chamber_pick, aligner_pick, first_in_slot}
use Rattle.floor_model.proofs.Told.{views_rise}
use Rattle.floor_model.proofs.PlacePicks.{IsLast, last_is, last_none, IsFromChamber, useful_leaves, aligner_useful, aligner_stands, chamber_useful, chamber_stands}
use Rattle.floor_model.proofs.SlotPicks.{IsPicked, picked_by, slot_first, slot_none}

-- ---- the stages: a slot, the aligner, the chambers by their numbers

slot_least : (l : LocId) → is_work_place l ≡ false → stage_of l < stage_of Aligner
slot_least (Slot p k) rests = omega arith
slot_least Aligner rests = absurd (true≢false rests)
slot_least Arm rests = absurd (true≢false rests)
slot_least (Chamber c) rests = absurd (true≢false rests)

slots_alike : (l m : LocId) → is_work_place l ≡ false → is_work_place m ≡ false → stage_of l ≡ stage_of m
slots_alike (Slot p k) (Slot q j) a b = refl
slots_alike (Slot p k) Aligner a b = absurd (true≢false b)
slots_alike (Slot p k) Arm a b = absurd (true≢false b)
slots_alike (Slot p k) (Chamber d) a b = absurd (true≢false b)
slots_alike Aligner m a b = absurd (true≢false a)
slots_alike Arm m a b = absurd (true≢false a)
slots_alike (Chamber c) m a b = absurd (true≢false a)

aligner_less : (c : ℕ) → 1 ≤ c → stage_of Aligner < stage_of (Chamber c)
aligner_less c least = omega (arith, least)

chamber_less : (c d : ℕ) → c < d → stage_of (Chamber c) < stage_of (Chamber d)
chamber_less c d less = omega (arith, less)

-- one goes first by its stage
by_stage : (v w : PlaceView) (l m : LocId) → v.at ≡ l → w.at ≡ m → stage_of m < stage_of l → GoesFirst v w
by_stage v w l m at there less =
    inl (subst (λ (x : LocId). stage_of w.at < stage_of x) (sym at) (subst (λ (x : LocId). stage_of x < stage_of l) (sym there) less))

module _ (f : ToolFloor) (places : ArePlaces f.places) (ms : List Module) where
  -- what is so of each useful pick, where it is so of those from the chambers, from the aligner and from the slots
  each_useful : (P : PlaceView → Type 0)
      → ((c : ℕ) (w : PlaceView) → w.at ≡ Chamber c → IsFromChamber f places ms c w → P w)
      → ((w : PlaceView) → w.at ≡ Aligner → aligner_pick (views f) ms ≡ Some w → P w)
      → ((w : PlaceView) → is_work_place w.at ≡ false → IsPicked f ms w → P w)
      → (i : ℕ) (w : PlaceView) → slice_get (views f) i ≡ Some w → is_useful (views f) ms w ≡ true → P w
  each_useful P chamber aligner slot i w there useful = of w.at refl where
    of : (l : LocId) → w.at ≡ l → P w
    of (Slot p k) at =
        let rests : is_work_place w.at ≡ false = subst (λ (l : LocId). is_work_place l ≡ false) (sym at) refl in
        slot w rests (picked_by f places ms i w there rests useful)
    of Aligner at = aligner w at (aligner_useful f places ms i w there at useful)
    of Arm at = absurd (true≢false (sym (useful_leaves (views f) ms w Arm at useful)))
    of (Chamber c) at = chamber c w at (chamber_useful f places ms i w c there at useful)

  -- no pick is from a chamber where the last of them isn't there
  none_from : last_chamber_pick (views f) ms ≡ None → (c : ℕ) (w : PlaceView) → IsFromChamber f places ms c w → ⊥
  none_from none c w from =
      let nothing = last_none (chamber_pick (views f) ms) (length ms - 2) none c from.first from.last in
      let something = from.is in
      cc

  -- the pick from the greatest chamber that has one goes first of all
  pub by_chamber : (v : PlaceView) → last_chamber_pick (views f) ms ≡ Some v → Some v ≡ best_pick (views f) ms
  by_chamber v e =
      let last = last_is (chamber_pick (views f) ms) (length ms - 2) v e in
      let own = chamber_stands f places ms last.number v last.is in
      let past : stage_of Aligner < stage_of (Chamber last.number) = aligner_less last.number last.first in
      sym (the_best (views f) ms 0 own.there.0 v (views_rise f places) own.there.1 own.useful
      (each_useful (GoesFirst v)
      (λ c w at from. before last own.at c w at from)
      (λ w at here. by_stage v w (Chamber last.number) Aligner own.at at past)
      (λ w rests here. by_stage v w (Chamber last.number) w.at own.at refl (let less = slot_least w.at rests in omega (arith, past, less)))))
    where
      before : (last : IsLast (chamber_pick (views f) ms) (length ms - 2) v) → v.at ≡ Chamber last.number → (c : ℕ) (w : PlaceView) → w.at ≡ Chamber c → IsFromChamber f places ms c w → GoesFirst v w
      before last own c w at from = of (nat_lt c last.number) refl (nat_lt last.number c) refl where
        of : (t : Bool) → nat_lt c last.number ≡ t → (u : Bool) → nat_lt last.number c ≡ u → GoesFirst v w
        of true p u q = by_stage v w (Chamber last.number) (Chamber c) own at (chamber_less c last.number (grind (arith, nat_tests)))
        of false p true q =
            let nothing = last.behind c (grind (arith, nat_tests)) from.last in
            let something = from.is in
            absurd (cc)
        of false p false q =
            let number : last.number ≡ c = grind (arith, nat_tests) in
            let same : Some v ≡ Some w = sym last.is ∙ ap (chamber_pick (views f) ms) number ∙ from.is in
            let one : v ≡ w = cc in
            subst (GoesFirst v) one (first_own v)

  -- where there is none, that of the aligner does
  pub by_aligner : (v : PlaceView) → last_chamber_pick (views f) ms ≡ None → aligner_pick (views f) ms ≡ Some v → Some v ≡ best_pick (views f) ms
  by_aligner v none e =
      let own = aligner_stands f places ms v e in
      sym (the_best (views f) ms 0 own.there.0 v (views_rise f places) own.there.1 own.useful
      (each_useful (GoesFirst v)
      (λ c w at from. absurd (none_from none c w from))
      (λ w at here. let same : v ≡ w = cc in subst (GoesFirst v) same (first_own v))
      (λ w rests here. by_stage v w Aligner w.at own.at refl (slot_least w.at rests))))

  -- and where there is none either, the first from a slot
  pub by_slot : (given : ℕ) → RiseTo 0 given f.substrates → last_chamber_pick (views f) ms ≡ None → aligner_pick (views f) ms ≡ None → first_in_slot f ms ≡ best_pick (views f) ms
  by_slot given numbers none nor = of (first_in_slot f ms) refl where
    of : (o : Option PlaceView) → first_in_slot f ms ≡ o → first_in_slot f ms ≡ best_pick (views f) ms
    of None e =
        e
        ∙ sym (no_best (views f) ms
        (each_useful (λ w. ⊥)
        (λ c w at from. none_from none c w from)
        (λ w at here. cc)
        (λ w rests here. slot_none f ms e w here)))
    of (Some v) e =
        let own = slot_first f places ms given numbers v e in
        e
        ∙ sym (the_best (views f) ms 0 own.0.there.0 v (views_rise f places) own.0.there.1 own.0.useful
        (each_useful (GoesFirst v)
        (λ c w at from. absurd (none_from none c w from))
        (λ w at here. absurd (cc))
        (λ w rests here. inr (slots_alike w.at v.at rests own.0.rests, own.1 w here))))
