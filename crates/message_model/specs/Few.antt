-- How many parts a message has that was read.
use Rattle.std.specs.Prelude.{ℕ, ◌≤◌, ◌^◌, List, length, map}
use Rattle.item_model.specs.Data.{Data}
use Rattle.item_model.specs.Sendable.{IsLength}
use Rattle.item_model.specs.Spelling.{Spells}
use Rattle.message_model.specs.Functions.{AreFewFunctions}
use Rattle.message_model.specs.declared.gem_primary.GemMsg.{GemMsg}
use Rattle.message_model.specs.declared.gem_primary.GemMsg.TheVariants as msg

-- a text of at most 536,870,912 bytes spells the item: no history has more (this tool's profile, configuration)
abbrev pub HasShortText : Data → Type 0
HasShortText d = (text : List ℕ) × Spells d 0 text × (length text ≤ 2 ^ 29)

-- a list of ids has at most 1,024 (this tool's profile, limits), of parameters there are no more than three length bytes
-- can tell (SEMI E5, item header), and of functions no more than a text can list
abbrev pub HasFewParts : GemMsg → Type 0
HasFewParts (msg.S1F3 ids) = length ids ≤ 1024
HasFewParts (msg.S1F11 ids) = length ids ≤ 1024
HasFewParts (msg.S2F13 ids) = length ids ≤ 1024
HasFewParts (msg.S2F29 ids) = length ids ≤ 1024
HasFewParts (msg.S2F41 name parameters) = IsLength (length parameters)
HasFewParts (msg.S2F43 streams) = AreFewFunctions (map (λ s. s.functions) streams)
HasFewParts (msg.S5F5 ids) = length ids ≤ 1024
HasFewParts _ = Unit {0}
