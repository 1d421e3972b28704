use Rattle.event_reports.proofs.SamePlant.{same-defined, same-linked, same-enabled}
use Rattle.event_reports.proofs.laws.the_plant_stays_the_same.Goals as goal

pub returns : goal.returns
returns c = record { defined = same-defined; linked = same-linked; enabled = same-enabled }
