-- How reports are kept.
use Rattle.std.specs.Prelude.{◌≡◌, true, false}
use Rattle.std.specs.List.{list_any}
use Rattle.event_reports.specs.declared.reports.Reports.TheInside.{Inside}
use Rattle.event_reports.specs.Reports.{Reports}
use Rattle.event_reports.specs.Within.{AreWithin}

-- what callers see
abbrev pub reports_of : Inside → Reports
reports_of r = record { ports = r.ports; chambers = r.chambers; reports = r.reports.items; events = r.events.items }

-- no more than can be, and where it is kept that no event is enabled, none is
pub record AreKept (r : Inside) : Type 0 where
  pub within : AreWithin (reports_of r)
  pub silent : r.none_enabled ≡ true → list_any (λ e. e.enabled) r.events.items ≡ false
