-- The notes that firings and changes of alarms make (SEMI E30, event reports and alarms; this tool's profile, notes).
use Rattle.std.specs.Prelude.{ℕ, ◌+◌, ◌*◌, Bool, not, ◌&&◌, ◌||◌, if◌then◌else◌, List, [], Option, Some, None, unwrap_or}
use Rattle.gem_tables.specs.declared.firing.Firing.{Firing}
use Rattle.gem_rows.specs.Events.{ceid_of}
use Rattle.gem_rows.specs.Alarms.{alarm_text}
use Rattle.item_model.specs.Data.{DataList}
use Rattle.item_model.specs.Plain.{plain}
use Rattle.message_model.specs.declared.gem_reply.GemReply.TheVariants as reply
use Rattle.message_model.specs.GemReplies.{reply_body}
use Rattle.event_reports.specs.Reports.{is_enabled, report_items}
use Rattle.event_reports.specs.Alarms.{is_set, is_alarm_enabled, set_alarm, clear_alarm, is_alarm}
use Rattle.spool.specs.declared.note.Kind.TheVariants.{Event, Alarm}
use Rattle.note_line.specs.Line as notes
use Rattle.gem_model.specs.State.{State, is_disabled, is_online}
use Rattle.gem_model.specs.Values.{Occasion, value_of}

-- ---- events

-- the event of this CEID is reported: it is enabled, communication is not DISABLED behind the firing, and control is
-- ON-LINE behind it or was before it (this tool's profile, notes)
abbrev pub is_event_reported : ℕ → Bool → State → Bool
is_event_reported ceid online_before g =
    is_enabled ceid g.reports && (not (is_disabled g.comm) && (online_before || is_online g.control))

-- the text of S6F11: the number of the note as DATAID, the CEID, and the reports (SEMI E5, S6F11)
abbrev pub event_text : ℕ → ℕ → DataList → List ℕ
event_text number ceid reports = plain (reply_body (reply.S6F11 number ceid reports))

-- the line with a note of an event behind the others, with the values of its reports on this occasion
abbrev pub line_with_event : ℕ → Occasion → State → notes.Line
line_with_event ceid o g =
    notes.noted Event ceid (event_text (notes.next g.line) ceid (report_items (value_of o g) ceid g.reports)) g.line

-- the line behind a firing, by the event of its row: where that is reported, one note waits behind the others
abbrev pub line_behind : Option ℕ → Occasion → Bool → State → notes.Line
line_behind None o online_before g = g.line
line_behind (Some ceid) o online_before g = if is_event_reported ceid online_before g then line_with_event ceid o g else g.line

-- A row of a table fired at an object of this name, and led to this state; control was ON-LINE before it, or it was not.
-- It makes one note where its event is reported, with the values behind its effect (this tool's profile, notes).
abbrev pub noted_as : ℕ → ℕ → List ℕ → Bool → State → State
noted_as table row object online_before g =
    record g { line = line_behind (ceid_of table row) (record { object = object; row = 100 * table + row }) online_before g }

-- the note that a firing makes at an object of this name
abbrev pub noted : Bool → Firing → List ℕ → State → State
noted online_before f object g = noted_as f.row.table f.row.row object online_before g

-- ---- alarms

-- changes of this alarm are reported: it is enabled, communication is not DISABLED, and control is ON-LINE
-- (this tool's profile, notes)
abbrev pub is_alarm_reported : ℕ → State → Bool
is_alarm_reported alid g = is_alarm_enabled alid g.alarms && (not (is_disabled g.comm) && is_online g.control)

-- ALCD: its highest bit says that the alarm is set, and the rest is its category (SEMI E5, S5F1; this tool's profile,
-- alarms)
abbrev pub alcd : Bool → ℕ
alcd is_set = if is_set then 134 else 6

-- the text of an alarm of the tool
abbrev pub text_of_alarm : ℕ → List ℕ
text_of_alarm alid = unwrap_or (alarm_text alid) []

-- the text of S5F1: ALCD by whether the alarm is set, ALID and ALTX (SEMI E5, S5F1)
abbrev pub change_text : ℕ → State → List ℕ
change_text alid g = plain (reply_body (reply.S5F1 (alcd (is_set alid g.alarms)) alid (text_of_alarm alid)))

-- the line with a note of an alarm behind the others, by whether it is set
abbrev pub alarm_line : ℕ → State → notes.Line
alarm_line alid g = notes.noted Alarm alid (change_text alid g) g.line

-- the line behind a change of an alarm that led to this state
abbrev pub line_with_alarm : ℕ → State → notes.Line
line_with_alarm alid g = if is_alarm_reported alid g then alarm_line alid g else g.line

abbrev alarm_told : ℕ → State → State
alarm_told alid g = record g { line = line_with_alarm alid g }

-- an alarm is set, and told where it was clear (this tool's profile, alarms)
abbrev pub sets_alarm : ℕ → State → State
sets_alarm alid g =
    if is_alarm alid g.alarms && not (is_set alid g.alarms) then alarm_told alid (record g { alarms = set_alarm alid g.alarms }) else g

-- an alarm is cleared, and told where it was set (this tool's profile, alarms)
abbrev pub clears_alarm : ℕ → State → State
clears_alarm alid g =
    if is_set alid g.alarms then alarm_told alid (record g { alarms = clear_alarm alid g.alarms }) else g
