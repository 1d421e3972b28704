-- What is always true of the reports of a plant: no more than can be (this tool's profile, limits).
use Rattle.std.specs.Prelude.{◌≡◌, ◌≤◌, length, map}
use Rattle.std.specs.List.{AllByRecursion}
use Rattle.gem_rows.specs.Events.{ceids}
use Rattle.event_reports.specs.Reports.{Report, EventLine, Reports}
use Rattle.event_reports.specs.Limits.{most_reports, most_vids, most_linked}

-- a report of no more VIDs than it can have
abbrev pub IsShort : Report → Type 0
IsShort p = length p.vids ≤ most_vids

-- an event that is linked to no more reports than it can be
abbrev pub HasShortLink : EventLine → Type 0
HasShortLink e = length e.reports ≤ most_linked

-- no more reports, VIDs of a report and linked reports of an event than there can be, and the events of the tables in their
-- order, which is rising by CEID
pub record AreWithin (r : Reports) : Type 0 where
  pub count : length r.reports ≤ most_reports
  pub vids : AllByRecursion IsShort r.reports
  pub links : AllByRecursion HasShortLink r.events
  pub events : map (λ e. e.ceid) r.events ≡ ceids
