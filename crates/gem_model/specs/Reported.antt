-- What is reported in a history, in order: each firing whose event is reported, and each change of an alarm that is
-- reported, with the text of the message that tells of it (SEMI E30, event reports and alarms; this tool's profile, notes).
-- It is read from the listing of what each event does (`Occurrences.antt`) and from the settling behind it, and the values from the
-- state behind each, beside the line of notes.
use Rattle.std.specs.Prelude.{◌≡◌, ℕ, zero, suc, ◌+◌, ◌*◌, Bool, if◌then◌else◌, List, [], ◌∷◌, ◌++◌, slice_get, Option, Some, None}
use Rattle.gem_tables.specs.declared.firing.Firing.{Firing}
use Rattle.gem_rows.specs.Events.{ceid_of}
use Rattle.event_reports.specs.Reports.{report_items}
use Rattle.spool.specs.declared.note.Kind.{Kind}
use Rattle.spool.specs.declared.note.Kind.TheVariants.{Event, Alarm}
use Rattle.spool.specs.declared.note.Note.{Note}
use Rattle.note_line.specs.Line.{next}
use Rattle.tool_events.specs.declared.event.Event.{Event as Posted}
use Rattle.tool_events.specs.declared.entry.Entry.{Entry}
use Rattle.gem_model.specs.State.{State, is_online, raised}
use Rattle.gem_model.specs.Values.{Occasion, value_of}
use Rattle.gem_model.specs.Noting.{is_event_reported, event_text, is_alarm_reported, change_text}
use Rattle.gem_model.specs.Machines.{takes_effect, creations, object_name}
use Rattle.gem_model.specs.Fire.{fire}
use Rattle.gem_model.specs.Settle.{settling}
use Rattle.gem_model.specs.Step.{Outcome, acts}
use Rattle.gem_model.specs.Occurrences.{Occurrence, RowFires, AlarmChanges, occurrences}
use Rattle.gem_model.specs.Run.{entry_after}

-- what is reported: an event by its CEID, or a change of an alarm by its ALID; and the text of the message that tells of it
pub record Reported : Type 0 where
  pub kind : Kind
  pub id : ℕ
  pub text : List ℕ

-- its kind and its CEID or ALID
abbrev pub told_as : Reported → Kind × ℕ
told_as one = (one.kind, one.id)

-- ---- firings

-- the event of a row that fired on this occasion and led to this state: S6F11 with the number that is next, and with the
-- values that the variables of its reports have in this state (SEMI E5, S6F11)
abbrev pub event_report : ℕ → Occasion → State → Reported
event_report ceid o g =
    record { kind = Event; id = ceid; text = event_text (next g.line) ceid (report_items (value_of o g) ceid g.reports) }

-- the event of a row, where it has one that is reported; control was ON-LINE before the firing, or it was not
abbrev pub by_event : Option ℕ → Occasion → Bool → State → List Reported
by_event None o online_before g = []
by_event (Some ceid) o online_before g = if is_event_reported ceid online_before g then event_report ceid o g ∷ [] else []

-- the occasion of a firing: the name that its object has before the effect, and its row
abbrev pub occasion : State → Firing → Occasion
occasion g f = record { object = object_name g f; row = 100 * f.row.table + f.row.row }

-- a row fires: what is reported has the values behind its effect
abbrev pub by_firing : State → Firing → List Reported
by_firing g f = by_event (ceid_of f.row.table f.row.row) (occasion g f) (is_online g.control) (takes_effect g f)

-- these rows fire, one after another
abbrev pub by_firings : List Firing → State → List Reported
by_firings [] g = []
by_firings (f ∷ fs) g = by_firing g f ++ by_firings fs (fire g f)

-- a row fires, and then the rows of the objects that it creates
abbrev pub by_advance : State → Firing → List Reported
by_advance g f = by_firing g f ++ by_firings (creations g f) (fire g f)

-- the tool settles
abbrev pub by_settling : State → List Reported
by_settling g = by_firings (settling g) g

-- ---- alarms

-- a change of an alarm that led to this state: S5F1 with its code, ALID and text (SEMI E5, S5F1)
abbrev pub alarm_report : ℕ → State → Reported
alarm_report alid g = record { kind = Alarm; id = alid; text = change_text alid g }

-- a change of an alarm that led to this state, where it is reported
abbrev pub by_change : ℕ → State → List Reported
by_change alid g = if is_alarm_reported alid g then alarm_report alid g ∷ [] else []

-- ---- what an event does

-- a row fires, or an alarm changes
abbrev pub by_occurrence : Occurrence → List Reported
by_occurrence (RowFires g f) = by_advance g f
by_occurrence (AlarmChanges alid g) = by_change alid g

-- each of these, in order
abbrev pub by_occurrences : List Occurrence → List Reported
by_occurrences [] = []
by_occurrences (one ∷ others) = by_occurrence one ++ by_occurrences others

-- ---- a history

-- the tool settles behind what an event did, if it did something
abbrev pub by_settling_behind : Option Outcome → List Reported
by_settling_behind None = []
by_settling_behind (Some o) = by_settling o.after

-- the step of an event in a state whose moment is raised from the one before; once the operator ended the run nothing is
-- reported
abbrev pub by_step_from : ℕ → State → Posted → List Reported
by_step_from before g event = if g.quitting then [] else by_occurrences (occurrences before g event) ++ by_settling_behind (acts before g event)

-- the step of an event that is posted with a moment
abbrev pub by_step : State → ℕ → Posted → List Reported
by_step g at event = by_step_from g.moment (raised g at) event

-- the entries of a history from a state on
abbrev pub reported_in : State → List Entry → List Reported
reported_in g [] = []
reported_in g (entry ∷ entries) = by_step g entry.at.0 entry.event ++ reported_in (entry_after g entry) entries

-- ---- the notes of what is reported

-- what was reported under a number, the first under 1
abbrev pub reported_under : ℕ → List Reported → Option Reported
reported_under zero reported = None
reported_under (suc place) reported = slice_get reported place

-- the note has the kind, the id and the text of what was reported under its number
abbrev pub IsOf : List Reported → Note → Type 0
IsOf reported note = reported_under note.number reported ≡ Some (record { kind = note.kind; id = note.id; text = note.text })
