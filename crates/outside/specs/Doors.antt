-- What a door answers.
use Rattle.std.specs.Prelude.{Bool, true, false, List, [], ◌∷◌, Option, Some, None, Result, Ok, Err}
use Rattle.outside.specs.declared.met.Met.{Met}
use Rattle.outside.specs.declared.met.Met.TheVariants as met

-- the link that came up, if one did
abbrev pub link_of : {I O : Type 0} → Met I O → Option (I × O)
link_of (met.Link link_in link_out) = Some (link_in, link_out)
link_of met.NotYet = None
link_of met.Closed = None

-- a link came up
abbrev pub is_link : {I O : Type 0} → Met I O → Bool
is_link (met.Link link_in link_out) = true
is_link met.NotYet = false
is_link met.Closed = false

-- none has come up yet
abbrev pub is_early : {I O : Type 0} → Met I O → Bool
is_early (met.Link link_in link_out) = false
is_early met.NotYet = true
is_early met.Closed = false

-- none will come up
abbrev pub is_closed : {I O : Type 0} → Met I O → Bool
is_closed (met.Link link_in link_out) = false
is_closed met.NotYet = false
is_closed met.Closed = true

-- the link that a call gave, if it gave one
abbrev pub link_given : {I O E : Type 0} → Result (Met I O) E → Option (I × O)
link_given (Ok answer) = link_of answer
link_given (Err _) = None

-- a call gave a link
abbrev pub gave_link : {I O E : Type 0} → Result (Met I O) E → Bool
gave_link (Ok answer) = is_link answer
gave_link (Err _) = false

-- a call was answered NotYet
abbrev pub was_early : {I O E : Type 0} → Result (Met I O) E → Bool
was_early (Ok answer) = is_early answer
was_early (Err _) = false

-- a call was answered Closed
abbrev pub was_closed : {I O E : Type 0} → Result (Met I O) E → Bool
was_closed (Ok answer) = is_closed answer
was_closed (Err _) = false

-- the answer behind the last link
abbrev pub behind_the_last : {I O : Type 0} → Bool → Met I O
behind_the_last true = met.Closed
behind_the_last false = met.NotYet

-- what a door in memory answers that has these links left: the first of them (this tool's profile, links and doors in memory)
abbrev pub next_met : {I O : Type 0} → List (I × O) → Bool → Met I O
next_met [] is_closing = behind_the_last is_closing
next_met (link ∷ links) is_closing = met.Link link.0 link.1
