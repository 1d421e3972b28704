-- Each substrate has one place (after SEMI E90; this tool's profile, substrates and moves).
use Rattle.std.specs.Prelude.{◌≡◌, ◌<◌, ℕ, true, false, Some}
use Rattle.floor_moves.specs.Floor.{Loc, slot, aligner, arm, chamber, pick, place, align, process, Command, busy, Floor, chamber_module, own, is_outside, holder}
use Rattle.floor_moves.specs.Carriers.{HasEnded}
use Rattle.floor_moves.specs.Valid.{Empty, IsUnnamed}

-- the carrier of a substrate is present at the port of its own slot, with map VERIFIED
abbrev pub IsCarried : ℕ → Floor → Type 0
IsCarried n g = (g.present_at (g.carrier_of n) ≡ Some (g.port_of n)) × (g.is_verified (g.carrier_of n) ≡ true)

-- each substrate has one place, and open commands fit the places
pub record OnePlace (g : Floor) : Type 0 where
  -- two substrates with locations have different ones, and a location is occupied exactly by what is there
  pub apart : (n m : ℕ) (l : Loc) → g.place_of n ≡ Some l → g.place_of m ≡ Some l → n ≡ m
  pub occupies : (n : ℕ) (l : Loc) → g.place_of n ≡ Some l → holder l g ≡ Some n
  pub is_there : (n : ℕ) (l : Loc) → holder l g ≡ Some n → g.place_of n ≡ Some l
  -- a module has at most one open command, by what a module is; open numbers differ and are below the next
  pub numbers : (m k : ℕ) (c d : Command) → g.equipment m ≡ busy c → g.equipment k ≡ busy d → c.number ≡ d.number → m ≡ k
  pub below : (m : ℕ) (c : Command) → g.equipment m ≡ busy c → c.number < g.next_command
  -- An open Pick names what stands at its start, and the arm is empty. An open Place names what the arm holds, and its end is
  -- empty. An open Align or Process names what stands there.
  pub picks : (m n : ℕ) (l : Loc) (c : Command) → g.equipment m ≡ busy c → c.task ≡ pick n l → (g.place_of n ≡ Some l) × Empty arm g
  pub places : (m n : ℕ) (l : Loc) (c : Command) → g.equipment m ≡ busy c → c.task ≡ place n l → (g.place_of n ≡ Some arm) × Empty l g
  pub aligns : (m n : ℕ) (c : Command) → g.equipment m ≡ busy c → c.task ≡ align n → (m ≡ 2) × (g.place_of n ≡ Some aligner)
  pub processes : (m n : ℕ) (c : Command) → g.equipment m ≡ busy c → c.task ≡ process n → (d : ℕ) × (m ≡ chamber_module d) × (g.place_of n ≡ Some (chamber d))
  -- a slot holds only a substrate of its own, of the one carrier that is present at its port, with map VERIFIED
  pub in_slot : (n p k : ℕ) → g.place_of n ≡ Some (slot p k) → (slot p k ≡ own n g) × IsCarried n g
  pub one_carrier : (c d p : ℕ) → g.present_at c ≡ Some p → g.present_at d ≡ Some p → c ≡ d
  -- the own slot of a substrate outside its slot is empty, and its carrier is present there
  pub slot_waits : (n : ℕ) → is_outside (g.place_of n) ≡ true → Empty (own n g) g × IsCarried n g
  -- a carrier that is CARRIER COMPLETE or CARRIER STOPPED, or whose map isn't VERIFIED, as where a verification FAILED, has no
  -- substrate outside its slot and none that an open command names
  pub ended_inside : (n : ℕ) → HasEnded (g.carrier_of n) g → is_outside (g.place_of n) ≡ false
  pub ended_unnamed : (n : ℕ) → HasEnded (g.carrier_of n) g → IsUnnamed n g
