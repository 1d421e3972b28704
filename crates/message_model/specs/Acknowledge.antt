-- What the host answers to the tool's own primaries.
use Rattle.std.specs.Prelude.{ℕ, Bool, Option, option_and_then, is_some}
use Rattle.item_model.specs.Data.{Data}
use Rattle.message_model.specs.Bodies.{Form, l2, fixed, byte, any}

-- the text of an S1F14 with COMMACK 0: L[B 0, any] (SEMI E5, S1F14; this tool's profile, messages)
abbrev pub accepting : Form ℕ
accepting = l2 (λ commack rest. commack) (fixed 0 byte) any

-- an S1F14 accepts where its text is one item of that form; the item is None where the text is not one item
abbrev pub accepts : Option Data → Bool
accepts item = is_some (option_and_then accepting item)
