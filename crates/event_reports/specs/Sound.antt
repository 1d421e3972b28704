-- What the messages of a host leave as it must be.
use Rattle.std.specs.Prelude.{◌≡◌, ◌==◌, true, false, List, [], ◌∷◌, map}
use Rattle.std.specs.List.{list_any, list_all, AllByRecursion}
use Rattle.event_reports.specs.Reports.{Report, EventLine, Reports, is_report}

-- the same ports, chambers and collection events
pub record IsSamePlant (before after : Reports) : Type 0 where
  pub ports : after.ports ≡ before.ports
  pub chambers : after.chambers ≡ before.chambers
  pub events : map (λ e. e.ceid) after.events ≡ map (λ e. e.ceid) before.events

-- no two reports have one RPTID
abbrev pub AreDifferent : List Report → Type 0
AreDifferent [] = Unit {0}
AreDifferent (p ∷ reports) = (list_any (λ q. q.id == p.id) reports ≡ false) × AreDifferent reports

-- the reports that an event is linked to are defined
abbrev pub IsLinkedTo : Reports → EventLine → Type 0
IsLinkedTo r e = list_all (λ rptid. is_report rptid r) e.reports ≡ true

-- each RPTID is that of one report, and links name defined reports alone
pub record IsSound (r : Reports) : Type 0 where
  pub different : AreDifferent r.reports
  pub linked : AllByRecursion (IsLinkedTo r) r.events
