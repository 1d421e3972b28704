-- The items of reports are few and small.
use Rattle.std.proofs.Common.{◌≡◌, ◌≤◌, ◌==◌, ℕ, suc, Bool, true, false, cond, List, [], ◌∷◌, length, Option, Some, None, refl, ap, arith}
use Rattle.std.specs.List.{AllByRecursion, find}
use Rattle.std.specs.Option.{option_map, unwrap_or}
use Rattle.item_model.specs.Data.{Data, list, no_items}
use Rattle.item_model.specs.Plain.{count_of}
use Rattle.item_model.specs.Weight.{IsBounded, AreBounded}
use Rattle.item_model.proofs.Weights.{bounded-list}
use Rattle.event_reports.specs.Values.{AreSmallValues}
use Rattle.event_reports.specs.Limits.{most_vids, most_linked}
use Rattle.event_reports.specs.Reports.{Report, EventLine, Reports, vids_of, link_of, value_items, one_items, report_item, items_of_reports, report_items}
use Rattle.event_reports.specs.Within.{IsShort, HasShortLink, AreWithin}

found_vids : (p : Report → Bool) (reports : List Report) → AllByRecursion IsShort reports → length (unwrap_or (option_map (λ (r : Report). r.vids) (find p reports)) []) ≤ most_vids
found_vids p [] short = omega arith
found_vids p (r ∷ reports) short = by_test (p r) (found_vids p reports short.1) where
  by_test : (b : Bool) → length (unwrap_or (option_map (λ (x : Report). x.vids) (find p reports)) []) ≤ most_vids → length (unwrap_or (option_map (λ (x : Report). x.vids) (cond b (Some r) (find p reports))) []) ≤ most_vids
  by_test true others = short.0
  by_test false others = others

found_link : (p : EventLine → Bool) (events : List EventLine) → AllByRecursion HasShortLink events → length (unwrap_or (option_map (λ (e : EventLine). e.reports) (find p events)) []) ≤ most_linked
found_link p [] short = omega arith
found_link p (e ∷ events) short = by_test (p e) (found_link p events short.1) where
  by_test : (b : Bool) → length (unwrap_or (option_map (λ (x : EventLine). x.reports) (find p events)) []) ≤ most_linked → length (unwrap_or (option_map (λ (x : EventLine). x.reports) (cond b (Some e) (find p events))) []) ≤ most_linked
  by_test true others = short.0
  by_test false others = others

pub count_values : (value : ℕ → Option Data) (vids : List ℕ) → count_of (value_items value vids) ≡ length vids
count_values value [] = refl
count_values value (vid ∷ vids) = ap suc (count_values value vids)

count-reports : (value : ℕ → Option Data) (r : Reports) (rptids : List ℕ) → count_of (items_of_reports value rptids r) ≡ length rptids
count-reports value r [] = refl
count-reports value r (rptid ∷ rptids) = ap suc (count-reports value r rptids)

-- a report has at most 64 values
pub few_values : (value : ℕ → Option Data) (r : Reports) (rptid : ℕ) → AreWithin r → count_of (one_items value rptid r) ≤ most_vids
few_values value r rptid within =
    let vids = found_vids (λ p. p.id == rptid) r.reports within.vids in
    omega (arith, count_values value (vids_of rptid r))

-- an event has at most 16 reports
pub few_reports : (value : ℕ → Option Data) (r : Reports) (ceid : ℕ) → AreWithin r → count_of (report_items value ceid r) ≤ most_linked
few_reports value r ceid within =
    let links = found_link (λ e. e.ceid == ceid) r.events within.links in
    omega (arith, count-reports value r (link_of ceid r))

small_value : (value : ℕ → Option Data) → AreSmallValues value → (vid : ℕ) (o : Option Data) → value vid ≡ o → IsBounded 1 84 (unwrap_or o (list no_items))
small_value value small vid None is = record { depth = omega arith; size = omega arith; bodies = (omega arith, tt) }
small_value value small vid (Some d) is = small vid d is

pub small_values_of : (value : ℕ → Option Data) → AreSmallValues value → (vids : List ℕ) → AreBounded 1 84 (value_items value vids)
small_values_of value small [] = tt
small_values_of value small (vid ∷ vids) = (small_value value small vid (value vid) refl, small_values_of value small vids)

-- the values of a report are small
pub small_values : (value : ℕ → Option Data) (r : Reports) (rptid : ℕ) → AreSmallValues value → AreBounded 1 84 (one_items value rptid r)
small_values value r rptid small = small_values_of value small (vids_of rptid r)

small_report : (value : ℕ → Option Data) (r : Reports) → AreWithin r → AreSmallValues value → (rptid : ℕ) → IsBounded 3 5392 (report_item value rptid r)
small_report value r within small rptid =
    let inner = bounded-list 1 84 64 (one_items value rptid r) (omega arith) (few_values value r rptid within) (small_values value r rptid small) in
    let deep = inner.depth in
    let size = inner.size in
    record { depth = omega arith; size = omega arith; bodies = (omega arith, (omega arith, (inner.bodies, tt))) }

small_reports_of : (value : ℕ → Option Data) (r : Reports) → AreWithin r → AreSmallValues value → (rptids : List ℕ) → AreBounded 3 5392 (items_of_reports value rptids r)
small_reports_of value r within small [] = tt
small_reports_of value r within small (rptid ∷ rptids) = (small_report value r within small rptid, small_reports_of value r within small rptids)

-- the reports of an event are small
pub small_reports : (value : ℕ → Option Data) (r : Reports) (ceid : ℕ) → AreWithin r → AreSmallValues value → AreBounded 3 5392 (report_items value ceid r)
small_reports value r ceid within small = small_reports_of value r within small (link_of ceid r)
