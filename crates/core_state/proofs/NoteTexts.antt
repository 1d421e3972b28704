-- The texts of notes are small.
use Rattle.std.proofs.Common.{ℕ, ◌≤◌, List, length, arith}
use Rattle.gem_ids.specs.Texts.{IsText}
use Rattle.item_model.specs.Data.{DataList}
use Rattle.item_model.specs.Plain.{plain, count_of}
use Rattle.item_model.specs.Weight.{AreBounded}
use Rattle.item_model.proofs.Weights.{plain-weight, bounded-list}
use Rattle.message_model.specs.declared.gem_reply.GemReply.TheVariants as reply
use Rattle.message_model.specs.GemReplies.{reply_body}

-- the text of an event's note
pub event_short : (number ceid : ℕ) (reports : DataList) → count_of reports ≤ 16 → AreBounded 3 5392 reports → length (plain (reply_body (reply.S6F11 number ceid reports))) ≤ 87000
event_short number ceid reports few are =
    let inner = bounded-list 3 5392 16 reports (omega arith) few are in
    let size = inner.size in
    let plain = plain-weight (reply_body (reply.S6F11 number ceid reports)) in
    omega arith

-- the text of an alarm's note
pub alarm_short : (alcd alid : ℕ) (text : List ℕ) → IsText text → length (plain (reply_body (reply.S5F1 alcd alid text))) ≤ 87000
alarm_short alcd alid text is =
    let plain = plain-weight (reply_body (reply.S5F1 alcd alid text)) in
    let short = is.0 in
    omega arith
