use Rattle.event_reports.proofs.Soundness.{sound-none, sound-defined, sound-linked, sound-enabled}
use Rattle.event_reports.proofs.laws.reports_stay_sound.Goals as goal

pub returns : goal.returns
returns c = record { first = sound-none; defined = sound-defined; linked = sound-linked; enabled = sound-enabled }
