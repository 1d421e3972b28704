-- Which substrate has which place (after SEMI E90; this tool's profile, substrates).
use Rattle.std.specs.Prelude.{◌≡◌, ℕ, ◌+◌, ◌==◌, ◌≤◌, nat_lt, nat_le, Bool, true, false, not, ◌&&◌, if◌then◌else◌, List, [], ◌∷◌, ◌++◌, length, find, Option, Some, None, option_map}
use Rattle.std.specs.List.{list_any, list_all}
use Rattle.gem_ids.specs.declared.numbers.LocId.{LocId}
use Rattle.records.specs.Names as named
use Rattle.records.specs.Numbers as numbered
use Rattle.substrate.specs.Locations.{is_same, is_location, is_work_place}
use Rattle.substrate.specs.Board.{spot_of, spot_count, location_numbered}
use Rattle.substrate.specs.declared.registered.Registered.{Registered}
use Rattle.substrate.specs.declared.fault.PlaceFault.{PlaceFault}
use Rattle.substrate.specs.declared.fault.PlaceFault.TheVariants.{Taken, NameTaken, NoSpace}

-- The places of a tool: how many load ports and chambers it has, the substrates that have a place, in the order of their
-- registration, and the last number of registration that was given, 0 where none was.
pub record PlaceMap : Type 0 where
  pub ports : ℕ
  pub chambers : ℕ
  pub held : List Registered
  pub given : ℕ

-- no substrate has a place (this tool's profile, substrates)
abbrev pub no_places : ℕ → ℕ → PlaceMap
no_places ports chambers = record { ports = ports; chambers = chambers; held = []; given = 0 }

-- ---- substrates

-- the name of a substrate, and its number of registration
abbrev pub name_of : Registered → List ℕ
name_of r = r.sub

abbrev pub number_of : Registered → ℕ
number_of r = r.number

-- the substrate has this name
abbrev pub has_name : List ℕ → Registered → Bool
has_name sub r = named.has_name name_of sub r

-- the substrate of a name
abbrev pub substrate_named : List ℕ → List Registered → Option Registered
substrate_named sub held = named.record_named name_of sub held

-- a substrate of the name has a place
abbrev pub is_known : List ℕ → List Registered → Bool
is_known sub held = named.is_named name_of sub held

-- the substrate is at this place
abbrev pub stands_at : LocId → Registered → Bool
stands_at loc r = is_same r.at loc

-- a substrate is there
abbrev pub is_taken : LocId → List Registered → Bool
is_taken loc held = list_any (stands_at loc) held

-- the name of the substrate there
abbrev pub substrate_at : LocId → List Registered → Option (List ℕ)
substrate_at loc held = option_map (λ r. r.sub) (find (stands_at loc) held)

-- the number of a place, counted from 1: the slots port by port, then the aligner, the arm and the chambers (this tool's profile,
-- settling)
abbrev pub location_number : ℕ → LocId → ℕ
location_number ports loc = spot_of ports loc + 1

-- the substrate is at the place of this number
abbrev pub has_number : ℕ → ℕ → Registered → Bool
has_number ports number r = location_number ports r.at == number

-- a substrate is at the place of this number
abbrev pub is_taken_at : ℕ → PlaceMap → Bool
is_taken_at number p = list_any (has_number p.ports number) p.held

-- a substrate is at the aligner, on the arm or in a chamber
abbrev pub is_any_at_work : PlaceMap → Bool
is_any_at_work p = list_any (λ r. is_work_place r.at) p.held

-- the place of a number, where the tool has one
abbrev pub found_location : ℕ → PlaceMap → Option LocId
found_location number p =
    if nat_le 1 number && nat_le number (spot_count p.ports p.chambers) then Some (location_numbered p.ports number) else None

-- there is one, and it is at this place
abbrev pub is_there : LocId → Option Registered → Bool
is_there loc None = false
is_there loc (Some r) = stands_at loc r

-- the substrate of this name is at this place
abbrev pub has_place : List ℕ → LocId → List Registered → Bool
has_place sub loc held = is_there loc (substrate_named sub held)

-- ---- what happens to them

-- a change of the substrate of a name
abbrev pub change_named : List ℕ → (Registered → Registered) → List Registered → List Registered
change_named sub change held = named.change_named name_of sub change held

-- a substrate goes to a place
abbrev pub moves_to : LocId → Registered → Registered
moves_to to r = record r { at = to }

-- the substrate of a name goes to a place
abbrev pub moved : List ℕ → LocId → List Registered → List Registered
moved sub to held = change_named sub (moves_to to) held

-- the substrates without that of a name
abbrev pub without : List ℕ → List Registered → List Registered
without sub held = named.without_named name_of sub held

-- a substrate is registered: it gets the next number, and goes behind the others
abbrev pub registered : List ℕ → LocId → PlaceMap → PlaceMap
registered sub loc p =
    record p { held = p.held ++ record { sub = sub; number = p.given + 1; at = loc } ∷ []; given = p.given + 1 }

-- the most substrates that have a place (this tool's profile, limits)
abbrev pub most_substrates : ℕ
most_substrates = 400

-- why one can't be registered, by who is at the place, whether its name is known, and whether there is room
abbrev pub fault_of : Option (List ℕ) → Bool → Bool → Option PlaceFault
fault_of (Some who) known room = Some (Taken who)
fault_of None known room = if known then Some NameTaken else (if room then None else Some (NoSpace most_substrates))

-- why one can't be registered, whatever memory there is: a substrate is there, one of its name has a place, or 400 have one
abbrev pub register_fault : List ℕ → LocId → List Registered → Option PlaceFault
register_fault sub loc held = fault_of (substrate_at loc held) (is_known sub held) (nat_lt (length held) most_substrates)

-- a substrate can go from a place to another: it is at the one, and the other is empty
abbrev pub can_shift : List ℕ → LocId → LocId → List Registered → Bool
can_shift sub from to held = has_place sub from held && not (is_taken to held)

-- what becomes of the places: it goes there, or nothing changes
abbrev pub shifted : List ℕ → LocId → LocId → PlaceMap → PlaceMap
shifted sub from to p = if can_shift sub from to p.held then record p { held = moved sub to p.held } else p

-- the substrate of a name has no place any more
abbrev pub removed : List ℕ → PlaceMap → PlaceMap
removed sub p = record p { held = without sub p.held }

-- ---- rules that the places keep

-- each name is that of one substrate
abbrev pub are_named_apart : List Registered → Bool
are_named_apart held = named.are_named_apart name_of held

-- each place is that of one substrate
abbrev pub are_placed_apart : List Registered → Bool
are_placed_apart [] = true
are_placed_apart (r ∷ rs) = not (is_taken r.at rs) && are_placed_apart rs

-- their numbers rise, from behind one number to another
abbrev pub AreNumbered : ℕ → ℕ → List Registered → Type 0
AreNumbered last given held = numbered.AreRising number_of last given held

-- Each name and each place is that of one substrate, each place is one of the tool, the numbers rise, the last that was given
-- is the greatest of them or is past them, and there are at most 400 substrates.
pub record ArePlaces (p : PlaceMap) : Type 0 where
  pub named_apart : are_named_apart p.held ≡ true
  pub placed_apart : are_placed_apart p.held ≡ true
  pub within : list_all (λ r. is_location p.ports p.chambers r.at) p.held ≡ true
  pub numbered : AreNumbered 0 p.given p.held
  pub few : length p.held ≤ most_substrates
