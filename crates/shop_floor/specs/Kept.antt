-- How the ports and the carriers are kept.
use Rattle.shop_floor.specs.declared.floor.ShopFloor.TheInside.{Inside}
use Rattle.shop_floor.specs.Floor.{Floor, floor_of}
use Rattle.shop_floor.specs.Valid.{IsFloor}

-- what callers see
abbrev pub kept_floor : Inside → Floor
kept_floor kept = floor_of kept.ports kept.carriers kept.next_carrier

-- what is always true of it
abbrev pub IsKept : Inside → Type 0
IsKept kept = IsFloor (kept_floor kept)
