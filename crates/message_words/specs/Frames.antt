-- Data messages in words (this tool's profile, messages in words).
use Rattle.std.specs.Prelude.{ℕ, ◌+◌, ◌%◌, nat_le, if◌then◌else◌, List, ◌++◌, length, codes}
use Rattle.std.specs.Fmt.{decimal}
use Rattle.item_model.specs.Data.{Data}
use Rattle.item_words.specs.Words.{words}
use Rattle.item_words.specs.Layout.{line_width, new_line, laid}
use Rattle.hsms_frame.specs.declared.frame.Header.{Header}

-- `S1F13 W 2`: stream and function, `W` where the W-bit, the uppermost of byte 2, is set, and the system bytes as a number (SEMI E37,
-- data message; SEMI E5, W-bit)
abbrev pub data_words : Header → List ℕ
data_words h =
    codes "S" ++ (decimal (h.byte2 % 128) ++ (codes "F" ++ (decimal h.byte3 ++ ((if nat_le 128 h.byte2 then codes " W " else codes " ") ++ decimal h.system))))

-- the columns in front of the lines of an item that doesn't stand behind its message
abbrev pub item_margin : ℕ
item_margin = 4

-- A message with its item, behind so many columns: on one line where it fits, and else the item on lines of its own.
abbrev pub message_words : ℕ → Header → Data → List ℕ
message_words column h d =
    if nat_le (column + length (data_words h ++ (codes " " ++ words d))) line_width then data_words h ++ (codes " " ++ words d)
    else data_words h ++ (new_line item_margin ++ laid item_margin d)
