-- Lists of functions, one for each stream that is to be spooled or refused.
use Rattle.std.specs.Prelude.{ℕ, ◌≤◌, ◌^◌, List, length}
use Rattle.std.specs.List.{All, sum_by}
use Rattle.item_model.specs.Sendable.{IsLength}

-- there are as many lists as three length bytes can tell, each of as many functions (SEMI E5, item header), and together
-- they have as many functions as a text of 536,870,912 bytes can list, each in two bytes or more
abbrev pub AreFewFunctions : List (List ℕ) → Type 0
AreFewFunctions lists = IsLength (length lists) × All (λ functions. IsLength (length functions)) lists × (sum_by length lists ≤ 2 ^ 28)
