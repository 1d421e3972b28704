-- The alarms of the tool: which are set, and which are enabled (SEMI E30, alarm management; this tool's profile, alarms).
use Rattle.std.specs.Prelude.{ℕ, ◌==◌, Bool, false, true, ◌&&◌, if◌then◌else◌, List, map, Option, Some, None}
use Rattle.std.specs.List.{filter, list_any}
use Rattle.gem_rows.specs.Alarms.{alids}
pub use Rattle.event_reports.specs.declared.alarms.AlarmLine.{AlarmLine}

-- an alarm that is neither set nor enabled
abbrev pub quiet : ℕ → AlarmLine
quiet alid = record { alid = alid; enabled = false; is_set = false }

-- the alarms of a plant of so many ports and chambers, rising: at first none is set and none is enabled
abbrev pub no_alarms : ℕ → ℕ → List AlarmLine
no_alarms ports chambers = map quiet (alids ports chambers)

-- the plant has the alarm
abbrev pub is_alarm : ℕ → List AlarmLine → Bool
is_alarm alid alarms = list_any (λ a. a.alid == alid) alarms

-- the plant has the alarm, and it is set
abbrev pub is_set : ℕ → List AlarmLine → Bool
is_set alid alarms = list_any (λ a. (a.alid == alid) && a.is_set) alarms

-- the plant has the alarm, and it is enabled
abbrev pub is_alarm_enabled : ℕ → List AlarmLine → Bool
is_alarm_enabled alid alarms = list_any (λ a. (a.alid == alid) && a.enabled) alarms

-- the set alarms, rising
abbrev pub set_alids : List AlarmLine → List ℕ
set_alids alarms = map (λ a. a.alid) (filter (λ a. a.is_set) alarms)

-- a line of the alarm becomes set or clear
abbrev pub line_marked : Bool → ℕ → AlarmLine → AlarmLine
line_marked on alid a = if a.alid == alid then record a { is_set = on } else a

-- the alarm becomes set or clear; another number changes nothing
abbrev pub alarm_marked : Bool → ℕ → List AlarmLine → List AlarmLine
alarm_marked on alid alarms = map (line_marked on alid) alarms

-- the alarm becomes set
abbrev pub set_alarm : ℕ → List AlarmLine → List AlarmLine
set_alarm alid alarms = alarm_marked true alid alarms

-- the alarm becomes clear
abbrev pub clear_alarm : ℕ → List AlarmLine → List AlarmLine
clear_alarm alid alarms = alarm_marked false alid alarms

-- the answer to enabling or disabling an alarm, or all of them where none is named: 1 for an unknown one, else 0
-- (SEMI E5, ACKC5; this tool's profile, S5F3)
abbrev pub ackc5 : Option ℕ → List AlarmLine → ℕ
ackc5 None alarms = 0
ackc5 (Some alid) alarms = if is_alarm alid alarms then 0 else 1

-- a line is meant where its alarm is named, and where none is
abbrev pub is_meant : Option ℕ → AlarmLine → Bool
is_meant None a = true
is_meant (Some alid) a = a.alid == alid

-- a line that is meant is enabled or disabled
abbrev pub line_enabled : Bool → Option ℕ → AlarmLine → AlarmLine
line_enabled on named a = if is_meant named a then record a { enabled = on } else a

-- the alarm, or each alarm where none is named, is enabled or disabled; an unknown one changes nothing
abbrev pub alarms_enabled : Bool → Option ℕ → List AlarmLine → List AlarmLine
alarms_enabled on named alarms = map (line_enabled on named) alarms
