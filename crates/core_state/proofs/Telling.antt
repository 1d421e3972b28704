-- Whether a firing or a change of an alarm makes its note.
use Rattle.std.proofs.Common.{◌≡◌, ℕ, ◌+◌, ◌*◌, List, Option, Bool, true, false, if◌then◌else◌, not, ◌&&◌, Some, sym, ap, ◌∙◌}
use Rattle.gem_rows.specs.Events.{ceid_of}
use Rattle.item_model.specs.Data.{DataList}
use Rattle.item_model.specs.Plain.{plain}
use Rattle.message_model.specs.declared.gem_reply.GemReply.TheVariants as reply
use Rattle.message_model.specs.GemReplies.{reply_body}
use Rattle.event_reports.specs.Alarms.{is_alarm, is_set, set_alarm, clear_alarm}
use Rattle.gem_model.specs.State.{State}
use Rattle.gem_model.specs.Values.{Occasion}
use Rattle.gem_model.specs.Noting.{is_event_reported, event_text, line_with_event, line_behind, noted_as, is_alarm_reported, alarm_line, line_with_alarm, sets_alarm, clears_alarm}

-- an event that is reported
pub event_told : (ceid : ℕ) (o : Occasion) (online : Bool) (g : State) → is_event_reported ceid online g ≡ true → line_with_event ceid o g ≡ line_behind (Some ceid) o online g
event_told ceid o online g is = ap (λ (b : Bool). if b then line_with_event ceid o g else g.line) (sym is)

-- and one that is not
pub event_untold : (ceid : ℕ) (o : Occasion) (online : Bool) (g : State) → is_event_reported ceid online g ≡ false → g.line ≡ line_behind (Some ceid) o online g
event_untold ceid o online g is = ap (λ (b : Bool). if b then line_with_event ceid o g else g.line) (sym is)

-- a change that is reported
pub alarm_told : (alid : ℕ) (g : State) → is_alarm_reported alid g ≡ true → alarm_line alid g ≡ line_with_alarm alid g
alarm_told alid g is = ap (λ (b : Bool). if b then alarm_line alid g else g.line) (sym is)

-- and one that is not
pub alarm_untold : (alid : ℕ) (g : State) → is_alarm_reported alid g ≡ false → g.line ≡ line_with_alarm alid g
alarm_untold alid g is = ap (λ (b : Bool). if b then alarm_line alid g else g.line) (sym is)

-- an alarm that is set and is cleared
pub cleared : (alid : ℕ) (g : State) → is_set alid g.alarms ≡ true → record g { alarms = clear_alarm alid g.alarms; line = line_with_alarm alid (record g { alarms = clear_alarm alid g.alarms }) } ≡ clears_alarm alid g
cleared alid g is = ap (λ (b : Bool). if b then record g { alarms = clear_alarm alid g.alarms; line = line_with_alarm alid (record g { alarms = clear_alarm alid g.alarms }) } else g) (sym is)

-- an alarm that is clear and is set
pub made_set : (alid : ℕ) (g : State) → is_alarm alid g.alarms ≡ true → is_set alid g.alarms ≡ false → record g { alarms = set_alarm alid g.alarms; line = line_with_alarm alid (record g { alarms = set_alarm alid g.alarms }) } ≡ sets_alarm alid g
made_set alid g known is =
    ap (λ (b : Bool). if b then record g { alarms = set_alarm alid g.alarms; line = line_with_alarm alid (record g { alarms = set_alarm alid g.alarms }) } else g)
    (sym (ap (λ (b : Bool). b && not (is_set alid g.alarms)) known ∙ ap (λ (b : Bool). not b) is))

-- the note of a row that has an event
pub noted_is : (table row ceid number : ℕ) (object : List ℕ) (online : Bool) (g : State) → Some ceid ≡ ceid_of table row → number ≡ 100 * table + row →
    record g { line = line_behind (Some ceid) (record { object = object; row = number }) online g } ≡ noted_as table row object online g
noted_is table row ceid number object online g event same =
    ap (λ (e : Option ℕ). record g { line = line_behind e (record { object = object; row = number }) online g }) event
    ∙ ap (λ (n : ℕ). record g { line = line_behind (ceid_of table row) (record { object = object; row = n }) online g }) same

-- the text of an event's note
pub text_is : (number next ceid : ℕ) (out reports : DataList) → number ≡ next → out ≡ reports → plain (reply_body (reply.S6F11 number ceid out)) ≡ event_text next ceid reports
text_is number next ceid out reports same are = ap (λ (n : ℕ). event_text n ceid out) same ∙ ap (event_text next ceid) are
