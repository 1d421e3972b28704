-- How the places are kept: one behind the other, each with the name of the substrate that is there.
use Rattle.std.specs.Prelude.{◌≡◌, ℕ, zero, suc, ◌+◌, ◌-◌, ◌*◌, ◌/◌, ◌%◌, ◌==◌, nat_lt, if◌then◌else◌, List, Option, slice_get, set, length}
use Rattle.gem_ids.specs.declared.numbers.LocId.{LocId}
use Rattle.gem_ids.specs.declared.numbers.LocId.TheVariants.{Slot, Aligner, Arm, Chamber}

-- The board of a tool with so many load ports and chambers: who is at each place.
pub record Spots : Type 0 where
  pub ports : ℕ
  pub chambers : ℕ
  pub names : List (Option (List ℕ))

-- where a place stands on the board: the slots port by port, then the aligner, the arm and the chambers
abbrev pub spot_of : ℕ → LocId → ℕ
spot_of ports (Slot p k) = (p.0 - 1) * 25 + (k.0 - 1)
spot_of ports Aligner = ports * 25
spot_of ports Arm = ports * 25 + 1
spot_of ports (Chamber c) = ports * 25 + 1 + c

-- how many places there are
abbrev pub spot_count : ℕ → ℕ → ℕ
spot_count ports chambers = ports * 25 + 2 + chambers

-- the place of a number, counted from 1 (this tool's profile, settling): the slots port by port, of 25 each, then the aligner, the arm
-- and the chambers
abbrev pub location_numbered : ℕ → ℕ → LocId
location_numbered ports zero = Chamber 0
location_numbered ports (suc n) =
    if nat_lt n (ports * 25) then Slot (record { 0 = 1 + n / 25 }) (record { 0 = 1 + n % 25 })
    else (if n == ports * 25 then Aligner else (if n == ports * 25 + 1 then Arm else Chamber (n - (ports * 25 + 1))))

-- who is at a place
abbrev pub name_at : LocId → Spots → Option (Option (List ℕ))
name_at loc s = slice_get s.names (spot_of s.ports loc)

-- this one is there now, or none
abbrev pub with_name : LocId → Option (List ℕ) → Spots → Spots
with_name loc name s = record s { names = set s.names (spot_of s.ports loc) name }

abbrev pub spots : ℕ → ℕ → List (Option (List ℕ)) → Spots
spots ports chambers names = record { ports = ports; chambers = chambers; names = names }

-- the board has all places
abbrev pub HasSpots : Spots → Type 0
HasSpots s = length s.names ≡ spot_count s.ports s.chambers
