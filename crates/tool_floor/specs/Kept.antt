-- How the floor of the tool is kept.
use Rattle.tool_floor.specs.declared.floor.ToolFloor.TheInside.{Inside}
use Rattle.floor_model.specs.Floor.{ToolFloor, RiseTo}

-- what callers see
abbrev pub kept_floor : Inside → ToolFloor
kept_floor k = record { shop = k.shop; modules = k.modules; places = k.places; locations = k.locations.items; substrates = k.substrates; commands = k.commands; jobs = k.jobs }

-- what is always true of it
abbrev pub IsKept : Inside → Type 0
IsKept k = RiseTo 0 k.places.given k.substrates
