use Rattle.event_reports.proofs.SameAlarms.{same-marked, same-alarms_enabled, few_set}
use Rattle.event_reports.proofs.laws.the_alarms_stay_the_same.Goals as goal

pub returns : goal.returns
returns c = record { marked = same-marked; enabled = same-alarms_enabled; few = few_set }
