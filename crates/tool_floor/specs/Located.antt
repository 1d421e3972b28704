-- What is known of the rows that are ready by themselves, from one search for the least to the next.
use Rattle.std.specs.Prelude.{◌≡◌, ℕ, ◌==◌, Bool, true, not, if◌then◌else◌, [], ◌∷◌, map, Option, None}
use Rattle.gem_tables.specs.Table.{is_one_of}
use Rattle.gem_tables.specs.Machine.{first_ready, ready_in}
use Rattle.gem_tables.specs.declared.firing.Firing.{Firing}
use Rattle.shop_floor.specs.Floor.{number_of as carrier_number}
use Rattle.shop_floor.specs.Machines.{floor_least as shop_least}
use Rattle.floor_model.specs.Floor.{ToolFloor, location_at, location_numbers, number_of}
use Rattle.floor_model.specs.Substrates.{reaches_verified}
use Rattle.floor_model.specs.Machines.{location_ready, floor_machines, floor_least}

-- the row of table 11 that is ready at the first location at which one is
abbrev pub first_location : ToolFloor → Option Firing
first_location f = first_ready 11 (λ number. location_ready number (location_at number f.locations) f) (location_numbers 1 f.locations)

-- A row leaves which substrate has which place, and the states of the locations: of table 7 each but the removal, of table 9 those
-- that register no substrate, of table 13 each but the one by which a substrate is lost, and of the others those that are no location's
-- and no module's.
abbrev pub leaves_places : ℕ → ℕ → Bool
leaves_places table row =
    if table == 7 then not (row == 6)
    else (if table == 9 then not (reaches_verified row)
    else (if table == 13 then not (row == 8) else not (is_one_of (11 ∷ 16 ∷ []) table)))

-- the rows of tables 12 and 13 that are ready at the first substrate at which one is
abbrev pub first_transport : ToolFloor → Option Firing
first_transport f = first_ready 12 (λ n. ready_in floor_machines 12 n f) (map number_of f.substrates)

abbrev pub first_processing : ToolFloor → Option Firing
first_processing f = first_ready 13 (λ n. ready_in floor_machines 13 n f) (map number_of f.substrates)

-- none of a substrate is ready
pub record NoSubstrates (f : ToolFloor) : Type 0 where
  pub transport : first_transport f ≡ None
  pub processing : first_processing f ≡ None

-- the row of table 10 that is ready at the first carrier at which one is
abbrev pub first_accessing : ToolFloor → Option Firing
first_accessing f = first_ready 10 (λ carrier. ready_in floor_machines 10 carrier f) (map carrier_number f.shop.carriers)

-- none of the load ports and the carriers is ready
pub record NoShop (f : ToolFloor) : Type 0 where
  pub shop : shop_least f.shop ≡ None
  pub accessing : first_accessing f ≡ None

-- a row changes the load ports and the carriers alone: of table 7 each but the removal, of table 9 those that register no substrate,
-- and those of tables 4 to 6, 8 and 10
abbrev pub is_of_shop : ℕ → ℕ → Bool
is_of_shop table row =
    if table == 7 then not (row == 6)
    else (if table == 9 then not (reaches_verified row) else is_one_of (4 ∷ 5 ∷ 6 ∷ 8 ∷ 10 ∷ []) table)

-- Whether it is known that no row is ready, that none of a location is, that none of a substrate is, and that none of the load ports and
-- the carriers is.
pub record AreKnown (rests locations_rest substrates_rest shop_rests : Bool) (f : ToolFloor) : Type 0 where
  pub rest : rests ≡ true → floor_least f ≡ None
  pub locations : locations_rest ≡ true → first_location f ≡ None
  pub substrates : substrates_rest ≡ true → NoSubstrates f
  pub shop : shop_rests ≡ true → NoShop f
