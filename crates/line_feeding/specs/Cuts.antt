-- What the next bytes of a session make whole.
use Rattle.std.specs.Prelude.{◌≡◌, ℕ, Bool, List, ◌++◌, length, drop}
use Rattle.hsms_frame.specs.declared.frame.Arrival.{Arrival}
use Rattle.hsms_frame.specs.Cut.{Kept, IsCutOf, arrivals_of, behind_of, is_short}
use Rattle.tool_events.specs.Sizes.{text_bytes}

-- what bytes of the session that is up make whole: the arrivals, whether a length below 10 follows them, and the cut
pub record Cuts (bytes : List ℕ) (old new : Kept) (arrivals : List Arrival) (short : Bool) (stream : List ℕ) : Type 0 where
  pub arrivals_are : arrivals ≡ drop (length (arrivals_of text_bytes stream)) (arrivals_of text_bytes (stream ++ bytes))
  pub short_is : short ≡ is_short (behind_of (stream ++ bytes))
  pub cut : IsCutOf (stream ++ bytes) (arrivals_of text_bytes (stream ++ bytes)) new
