-- Where events stand, whose CEIDs rise.
use Rattle.std.proofs.Common.{◌≡◌, ℕ, zero, suc, ◌<◌, ◌≤◌, ◌==◌, Bool, true, false, nat_lt, ◌&&◌, List, [], ◌∷◌, map, length, get_or, refl, sym, ap, arith, Result, Ok, Err, IfSome, IfNone}
use Rattle.std.specs.List.{list_all, list_any, HoldsAt}
use Rattle.std.specs.List.Sorted.{IsSearchInRange, IsBinarySearchResult, IsNonDecreasingBy}
use Rattle.std.specs.Result.{result_ok}
use Rattle.std.specs.Ordering.{nat_cmp, ordering_index}
use Rattle.std.proofs.lemmas.Cmp.{ranked}
use Rattle.std.proofs.lemmas.Bool.Decides.{nat_tests}
use Rattle.gem_rows.specs.Events.{ceids}
use Rattle.event_reports.specs.Reports.{EventLine}

-- the CEIDs of events
abbrev pub ceids_of : List EventLine → List ℕ
ceids_of events = map (λ (e : EventLine). e.ceid) events

-- each number is below all behind it
abbrev rising : List ℕ → Bool
rising [] = true
rising (n ∷ ns) = list_all (λ m. nat_lt n m) ns && rising ns

-- a number below all CEIDs is below each
below_at : (n : ℕ) (events : List EventLine) (i : ℕ) (d : EventLine) → list_all (λ m. nat_lt n m) (ceids_of events) ≡ true → i < length events → n < (get_or events i d).ceid
below_at n [] i d below less = absurd (omega arith)
below_at n (e ∷ events) zero d below less = grind (arith, nat_tests)
below_at n (e ∷ events) (suc i) d below less =
    let rest : list_all (λ m. nat_lt n m) (ceids_of events) ≡ true = grind (arith, nat_tests) in
    below_at n events i d rest (omega arith)

-- of two places the later one has the greater CEID
rises_at : (events : List EventLine) (i j : ℕ) (d : EventLine) → rising (ceids_of events) ≡ true → i < j → j < length events → (get_or events i d).ceid < (get_or events j d).ceid
rises_at [] i j d rises before less = absurd (omega arith)
rises_at (e ∷ events) i zero d rises before less = absurd (omega arith)
rises_at (e ∷ events) zero (suc j) d rises before less =
    let below : list_all (λ m. nat_lt e.ceid m) (ceids_of events) ≡ true = grind (arith, nat_tests) in
    below_at e.ceid events j d below (omega arith)
rises_at (e ∷ events) (suc i) (suc j) d rises before less =
    let rest : rising (ceids_of events) ≡ true = grind (arith, nat_tests) in
    rises_at events i j d rest (omega arith) (omega arith)

-- a CEID that stands nowhere is that of no event
nowhere : (ceid : ℕ) (events : List EventLine) → ((i : ℕ) (d : EventLine) → i < length events → (get_or events i d).ceid ≡ ceid → ⊥) → list_any (λ (e : EventLine). e.ceid == ceid) events ≡ false
nowhere ceid [] absent = refl
nowhere ceid (e ∷ events) absent =
    let here : (e.ceid == ceid) ≡ false = grind (arith, nat_tests, absent 0 e (omega arith)) in
    rw (here, nowhere ceid events (λ i d less same. absent (suc i) d (omega arith) same)) refl

-- the event of a CEID that none has is not enabled
pub not_enabled : (ceid : ℕ) (events : List EventLine) → list_any (λ (e : EventLine). e.ceid == ceid) events ≡ false → list_any (λ (e : EventLine). (e.ceid == ceid) && e.enabled) events ≡ false
not_enabled ceid [] none = refl
not_enabled ceid (e ∷ events) none =
    let here : (e.ceid == ceid) ≡ false = grind (arith, nat_tests) in
    let others : list_any (λ (x : EventLine). x.ceid == ceid) events ≡ false = grind (arith, nat_tests) in
    rw (here, not_enabled ceid events others) refl

-- what a search for a CEID finds: the place of its event, or that there is none
pub searched : (events : List EventLine) → ceids_of events ≡ ceids → (ceid : ℕ) (r : Result ℕ ℕ) → IsSearchInRange r (length events) → IsBinarySearchResult (λ (e : EventLine). nat_cmp e.ceid ceid) events r
    → record { place : IfSome (result_ok r) (HoldsAt (λ (e : EventLine). e.ceid ≡ ceid) events); none : IfNone (result_ok r) (list_any (λ (e : EventLine). e.ceid == ceid) events ≡ false) }
searched events all ceid (Ok place) range equal = record { place = λ d. ranked _ ceid _ (sym (equal d)); none = tt }
searched events all ceid (Err gap) range parted =
    let rises : rising (ceids_of events) ≡ true = rw all refl in
    let in_order : IsNonDecreasingBy (λ (e : EventLine). ordering_index (nat_cmp e.ceid ceid)) events = λ i j d before less.
    let keys : (get_or events i d).ceid ≤ (get_or events j d).ceid = grind (arith, rises_at events i j d rises, λ (same : i ≡ j). ap (λ (n : ℕ). (get_or events n d).ceid) same) in
    grind (arith, nat_tests) in
    record {
      place = tt;
      none = nowhere ceid events (λ k d less same.
          let below : k < gap → (get_or events k d).ceid < ceid = λ low. ranked _ ceid _ (sym ((parted in_order).0 k d (omega arith) low)) in
          let above : gap ≤ k → ceid < (get_or events k d).ceid = λ high. ranked _ ceid _ (sym ((parted in_order).1 k d high less)) in
          grind (arith, below, above, same));
    }

-- an event that stands at a place is enabled where its line says so
pub enabled_at : (events : List EventLine) → ceids_of events ≡ ceids → (ceid place : ℕ) (d : EventLine) → place < length events → (get_or events place d).ceid ≡ ceid
    → list_any (λ (e : EventLine). (e.ceid == ceid) && e.enabled) events ≡ (get_or events place d).enabled
enabled_at events all ceid place d less is = at_place events place (rw all refl) less is where
  at_place : (events : List EventLine) (place : ℕ) → rising (ceids_of events) ≡ true → place < length events → (get_or events place d).ceid ≡ ceid
      → list_any (λ (e : EventLine). (e.ceid == ceid) && e.enabled) events ≡ (get_or events place d).enabled
  at_place [] place rises less is = absurd (omega arith)
  at_place (e ∷ events) zero rises less is =
      let here : (e.ceid == ceid) ≡ true = grind (arith, nat_tests) in
      let others : list_any (λ (x : EventLine). (x.ceid == ceid) && x.enabled) events ≡ false = not_enabled ceid events (nowhere ceid events (λ i other within same. absurd (omega (arith, below_at e.ceid events i other (grind (arith, nat_tests)) within)))) in
      rw (here, others) (grind (arith, nat_tests))
  at_place (e ∷ events) (suc i) rises less is =
      let above : e.ceid < ceid = omega (arith, below_at e.ceid events i d (grind (arith, nat_tests)) (omega arith)) in
      let here : (e.ceid == ceid) ≡ false = grind (arith, nat_tests) in
      rw here (at_place events i (grind (arith, nat_tests)) (omega arith) is)
