-- How the places are kept: by the names of their substrates, and on a board.
use Rattle.std.specs.Prelude.{◌≡◌, ℕ, true, List, Some}
use Rattle.gem_ids.specs.declared.numbers.LocId.{LocId}
use Rattle.substrate.specs.Locations.{is_location}
use Rattle.substrate.specs.Places.{PlaceMap, substrate_at, ArePlaces}
use Rattle.substrate.specs.Board.{Spots, name_at}
use Rattle.substrate.specs.declared.registered.Registered.{Registered}

-- what is kept, as one
abbrev pub map_of : List Registered → Spots → ℕ → PlaceMap
map_of held board given = record { ports = board.ports; chambers = board.chambers; held = held; given = given }

-- what is always true of it: the board has at each place of the tool the name of the substrate there
pub record AreTied (held : List Registered) (board : Spots) (given : ℕ) : Type 0 where
  pub places : ArePlaces (map_of held board given)
  pub shown : (loc : LocId) → is_location board.ports board.chambers loc ≡ true → name_at loc board ≡ Some (substrate_at loc held)
