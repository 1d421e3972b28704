-- The bodies of the host's primaries (SEMI E5; this tool's profile, messages).
use Rattle.std.specs.Prelude.{ℕ, Bool, List, [], ◌∷◌, Option, Result}
use Rattle.item_model.specs.Data.{Data}
use Rattle.message_model.specs.Bodies.{Form, of, any, byte, characters, each, flag, group, id, id_or_empty, ids, l2, named_value, numbers_or_ids, small_id, text, zero_or_one}
use Rattle.message_model.specs.MessageTable.{MessageRow, row, ignored, printed, by_row, row_of, takes_any}
use Rattle.message_model.specs.declared.fault.BodyFault.{BodyFault}
use Rattle.message_model.specs.declared.gem_primary.GemMsg.{GemMsg}
use Rattle.message_model.specs.declared.gem_primary.GemMsg.TheVariants as msg
use Rattle.message_model.specs.declared.gem_primary.SpooledStream.{SpooledStream}

-- L[id, value]: a constant and its new value
abbrev pub setting : Form (ℕ × Data)
setting = l2 (λ ecid value. (ecid, value)) id any

-- L[u1, L[u1*]]: a stream and its functions that are to be spooled
abbrev pub spooled_stream : Form SpooledStream
spooled_stream = l2 (λ stream functions. record { stream = stream; functions = functions }) small_id (each small_id)

-- the host's messages (SEMI E5, streams 1, 2, 5 and 6; this tool's profile, messages)
abbrev pub primaries : List (MessageRow GemMsg)
primaries =
    row 1 1 (ignored msg.S1F1) ∷
    (row 1 3 (printed (of msg.S1F3 ids)) ∷
    (row 1 11 (printed (of msg.S1F11 ids)) ∷
    (row 1 13 (ignored msg.S1F13) ∷
    (row 1 15 (ignored msg.S1F15) ∷
    (row 1 17 (ignored msg.S1F17) ∷
    (row 2 13 (printed (of msg.S2F13 ids)) ∷
    (row 2 15 (printed (of msg.S2F15 (each setting))) ∷
    (row 2 17 (ignored msg.S2F17) ∷
    (row 2 29 (printed (of msg.S2F29 ids)) ∷
    (row 2 31 (printed (of msg.S2F31 characters)) ∷
    (row 2 33 (printed (l2 msg.S2F33 id (each group))) ∷
    (row 2 35 (printed (l2 msg.S2F35 id (each group))) ∷
    (row 2 37 (printed (l2 msg.S2F37 flag ids)) ∷
    (row 2 41 (printed (l2 msg.S2F41 text (each named_value))) ∷
    (row 2 43 (printed (of msg.S2F43 (each spooled_stream))) ∷
    (row 5 3 (printed (l2 msg.S5F3 byte id_or_empty)) ∷
    (row 5 5 (printed (of msg.S5F5 numbers_or_ids)) ∷
    (row 5 7 (ignored msg.S5F7) ∷
    (row 6 15 (printed (of msg.S6F15 id)) ∷
    (row 6 19 (printed (of msg.S6F19 id)) ∷
    (row 6 23 (printed (of msg.S6F23 zero_or_one)) ∷ [])))))))))))))))))))))

-- what a message of the host is read as; its item is None where its text is not one item, or there is none
abbrev pub reading : ℕ → ℕ → Option Data → Result GemMsg BodyFault
reading = by_row primaries

-- the text of the message is ignored: it is not read, and need not be one item
abbrev pub ignores : ℕ → ℕ → Bool
ignores stream function = takes_any (row_of primaries stream function)
