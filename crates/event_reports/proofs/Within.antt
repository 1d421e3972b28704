-- What stays within the limits.
use Rattle.std.proofs.Common.{ℕ, suc, ◌<◌, ◌≤◌, ◌==◌, Bool, true, false, not, cond, if◌then◌else◌, List, [], ◌∷◌, length, map, get_or, set, arith}
use Rattle.std.proofs.lemmas.List.Elements.{All-get_or, All-set, All-from_recursion, recursion_from_All}
use Rattle.std.specs.List.{AllByRecursion, filter}
use Rattle.event_reports.specs.Reports.{Report, EventLine, silent, is_named, with_enabled, link_without, unlinked, with_link}
use Rattle.event_reports.specs.Within.{IsShort, HasShortLink}
use Rattle.event_reports.specs.Limits.{most_reports, most_linked}

-- events without links
pub silent-within : (ids : List ℕ) → AllByRecursion HasShortLink (map silent ids)
silent-within [] = tt
silent-within (id ∷ ids) = (omega arith, silent-within ids)

-- events of which each keeps a short link
pub map-within : (f : EventLine → EventLine) → ((e : EventLine) → HasShortLink e → HasShortLink (f e)) → (events : List EventLine) → AllByRecursion HasShortLink events → AllByRecursion HasShortLink (map f events)
map-within f kept [] short = tt
map-within f kept (e ∷ events) short = (kept e short.0, map-within f kept events short.1)

-- an event that is enabled or disabled keeps its link
pub enabled-within : (on : Bool) (ceids : List ℕ) (e : EventLine) → HasShortLink e → HasShortLink (with_enabled on ceids e)
enabled-within on ceids e short = by_name (is_named ceids e.ceid) where
  by_name : (b : Bool) → HasShortLink (if b then record e { enabled = on } else e)
  by_name true = short
  by_name false = short

shorter : {A : Type 0} (test : A → Bool) (xs : List A) → length (filter test xs) ≤ length xs
shorter test [] = omega arith
shorter test (x ∷ xs) = by_test (test x) (shorter test xs) where
  by_test : (b : Bool) → length (filter test xs) ≤ length xs → length (cond b (x ∷ filter test xs) (filter test xs)) ≤ suc (length xs)
  by_test true rest = omega arith
  by_test false rest = omega arith

-- a link without a report is as short
pub without-within : (rptid : ℕ) (e : EventLine) → HasShortLink e → HasShortLink (link_without rptid e)
without-within rptid e short = omega (arith, shorter (λ linked_id. not (linked_id == rptid)) e.reports)

-- an event without a link has a short one
pub unlinked-within : (e : EventLine) → HasShortLink e → HasShortLink (unlinked e)
unlinked-within e short = omega arith

-- an event that gets a short link
pub linked-within : (ceid : ℕ) (rptids : List ℕ) → length rptids ≤ most_linked → (e : EventLine) → HasShortLink e → HasShortLink (with_link ceid rptids e)
linked-within ceid rptids few e short = by_name (e.ceid == ceid) where
  by_name : (b : Bool) → HasShortLink (if b then record e { reports = rptids } else e)
  by_name true = few
  by_name false = short

-- fewer reports are no more than there can be
pub fewer-within : (test : Report → Bool) (reports : List Report) → length reports ≤ most_reports → length (filter test reports) ≤ most_reports
fewer-within test reports few = omega (arith, shorter test reports)

-- some of short reports
pub filter-within : (test : Report → Bool) (reports : List Report) → AllByRecursion IsShort reports → AllByRecursion IsShort (filter test reports)
filter-within test [] short = tt
filter-within test (p ∷ reports) short = by_test (test p) (filter-within test reports short.1) where
  by_test : (b : Bool) → AllByRecursion IsShort (filter test reports) → AllByRecursion IsShort (cond b (p ∷ filter test reports) (filter test reports))
  by_test true rest = (short.0, rest)
  by_test false rest = rest

-- one of events with short links
pub at-within : (events : List EventLine) (i : ℕ) (e : EventLine) → i < length events → AllByRecursion HasShortLink events → HasShortLink (get_or events i e)
at-within events i e less short = All-get_or HasShortLink events i e less (All-from_recursion HasShortLink events short)

-- another event with a short link at a place
pub set-within : (events : List EventLine) (i : ℕ) (e : EventLine) → AllByRecursion HasShortLink events → HasShortLink e → AllByRecursion HasShortLink (set events i e)
set-within events i e short one =
    recursion_from_All HasShortLink (set events i e) (All-set HasShortLink events i e one (All-from_recursion HasShortLink events short))
