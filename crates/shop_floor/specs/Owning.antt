-- The number of the carrier that belongs to a port (this tool's profile, carriers).
use Rattle.std.specs.Prelude.{ℕ, List, Option, Some, None, option_map}
use Rattle.load_port.specs.Ports.{port_numbered}
use Rattle.carrier.specs.Carriers.{carrier_named}
use Rattle.shop_floor.specs.Floor.{Floor, number_of}
use Rattle.shop_floor.specs.Rows.{owner}

-- the number of the carrier of a name, where one is given
abbrev pub number_named : Option (List ℕ) → Floor → Option ℕ
number_named None f = None
number_named (Some name) f = option_map number_of (carrier_named name f.carriers)

-- the number of the carrier that belongs to the port of a number
abbrev pub owner_number : ℕ → Floor → Option ℕ
owner_number port f = number_named (owner (port_numbered port f.ports)) f
