-- What holds of substrates and their carriers at every moment (after SEMI E87 and E90; this tool's profile, carriers and substrates).
use Rattle.std.specs.Prelude.{◌≡◌, ◌≤◌, ℕ, zero, suc, ◌==◌, Bool, true, ◌&&◌, List, [], ◌∷◌, Option, Some, None, slice_get}
use Rattle.std.specs.List.{AllByRecursion, list_any}
use Rattle.std.specs.Str.{bytes_eq}
use Rattle.gem_ids.specs.declared.numbers.LocId.{LocId}
use Rattle.gem_ids.specs.declared.numbers.LocId.TheVariants.{Slot}
use Rattle.gem_ids.specs.declared.numbers.PortNo.{PortNo}
use Rattle.gem_ids.specs.declared.numbers.SlotNo.{SlotNo}
use Rattle.gem_ids.specs.Names.{name_in_slot}
use Rattle.carrier.specs.declared.carrier.Carrier.{Carrier}
use Rattle.carrier.specs.Record.{is_map_verified}
use Rattle.carrier.specs.Carriers.{carrier_numbered}
use Rattle.substrate.specs.Locations.{is_same}
use Rattle.floor_model.specs.declared.tracked.Substrate.{Substrate}

-- ---- a substrate and its carrier

-- the carrier is present with map VERIFIED; the substrate is of a slot of it, 1 to 25, at its port, and has the name of that slot
pub record IsOf (s : Substrate) (c : Carrier) : Type 0 where
  pub present : c.present ≡ true
  pub verified : is_map_verified c.states.map ≡ true
  pub port : PortNo
  pub slot : SlotNo
  pub at : c.port ≡ Some port
  pub own : s.slot ≡ Slot port slot
  pub named : s.sub ≡ name_in_slot c.name slot.0
  pub first : 1 ≤ slot.0
  pub last : slot.0 ≤ 25

-- the carrier of a substrate is one of these
abbrev pub IsCarried : List Carrier → Substrate → Type 0
IsCarried carriers s = (c : Carrier) × (carrier_numbered s.carrier carriers ≡ Some c) × IsOf s c

-- none of these has the slot of a substrate
abbrev pub IsElsewhere : Substrate → List Substrate → Type 0
IsElsewhere s ss = AllByRecursion (λ t. s.slot ≡ t.slot → ⊥) ss

-- no two have the same slot
abbrev pub AreApart : List Substrate → Type 0
AreApart [] = Unit {0}
AreApart (s ∷ ss) = IsElsewhere s ss × AreApart ss

-- ---- the substrates of a carrier

-- the code of a slot, counted from 1
abbrev pub code_of : ℕ → List ℕ → Option ℕ
code_of zero slots = None
code_of (suc k) slots = slice_get slots k

-- a substrate is that of a slot of a carrier, and has this name
abbrev pub is_that_of : ℕ → List ℕ → LocId → Substrate → Bool
is_that_of carrier name slot s = (s.carrier == carrier) && (is_same s.slot slot && bytes_eq s.sub name)

-- one of these is that of a slot of the carrier at its port, under the name of the slot
abbrev pub is_registered : List Substrate → Carrier → PortNo → SlotNo → Bool
is_registered ss c port slot = list_any (is_that_of c.number (name_in_slot c.name slot.0) (Slot port slot)) ss

-- where the slot map of a carrier is VERIFIED, that of each slot that is correctly occupied, code 3, is: none was refused
abbrev pub AreRegistered : List Substrate → Carrier → Type 0
AreRegistered ss c =
    is_map_verified c.states.map ≡ true → (port : PortNo) (slot : SlotNo) → c.port ≡ Some port → slot.0 ≤ 25 → code_of slot.0 c.map ≡ Some 3 → is_registered ss c port slot ≡ true
