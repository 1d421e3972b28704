-- Two floors that say the same of what is kept (this tool's profile, substrates and moves). A column says something of each number,
-- and what it says of a substrate that was forgotten counts for nothing.
use Rattle.std.specs.Prelude.{◌≡◌, ℕ, true, false, Option, Some}
use Rattle.gem_tables.specs.Table.{is_one_of}
use Rattle.floor_moves.specs.Floor.{JobView, Floor, is_finished}

-- Two views of process jobs say the same of each substrate, and of each carrier that is present at a port.
pub record SayAlike (present_at : ℕ → Option ℕ) (v w : JobView) : Type 0 where
  pub is_member : (n : ℕ) → w.is_member n ≡ v.is_member n
  pub may_start : (n : ℕ) → w.may_start n ≡ v.may_start n
  pub is_stopping : (n : ℕ) → w.is_stopping n ≡ v.is_stopping n
  pub is_aborting : (n : ℕ) → w.is_aborting n ≡ v.is_aborting n
  pub is_complete : (n : ℕ) → w.is_complete n ≡ v.is_complete n
  pub route_of : (n : ℕ) → w.route_of n ≡ v.route_of n
  pub names_carrier : (c p : ℕ) → present_at c ≡ Some p → w.names_carrier c ≡ v.names_carrier c
  pub is_marked : (c p : ℕ) → present_at c ≡ Some p → w.is_marked c ≡ v.is_marked c

-- The same substrates, carriers, jobs, chambers and modules, and the same of each. The steps that are done are asked of the
-- unfinished alone.
pub record Agree (g h : Floor) : Type 0 where
  pub substrates : h.substrates ≡ g.substrates
  pub next_substrate : h.next_substrate ≡ g.next_substrate
  pub carrier_of : (n : ℕ) → is_one_of g.substrates n ≡ true → h.carrier_of n ≡ g.carrier_of n
  pub port_of : (n : ℕ) → is_one_of g.substrates n ≡ true → h.port_of n ≡ g.port_of n
  pub slot_of : (n : ℕ) → is_one_of g.substrates n ≡ true → h.slot_of n ≡ g.slot_of n
  pub place_of : (n : ℕ) → h.place_of n ≡ g.place_of n
  pub processing : (n : ℕ) → is_one_of g.substrates n ≡ true → h.processing n ≡ g.processing n
  pub is_aligned : (n : ℕ) → is_one_of g.substrates n ≡ true → h.is_aligned n ≡ g.is_aligned n
  pub steps_of : (n : ℕ) → is_one_of g.substrates n ≡ true → is_finished (g.processing n) ≡ false → h.steps_of n ≡ g.steps_of n
  pub carriers : h.carriers ≡ g.carriers
  pub present_at : (c : ℕ) → h.present_at c ≡ g.present_at c
  pub is_verified : (c : ℕ) → is_one_of g.carriers c ≡ true → h.is_verified c ≡ g.is_verified c
  pub access : (c : ℕ) → is_one_of g.carriers c ≡ true → h.access c ≡ g.access c
  pub jobs : SayAlike g.present_at g.jobs h.jobs
  pub chambers : h.chambers ≡ g.chambers
  pub equipment : (m : ℕ) → h.equipment m ≡ g.equipment m
  pub next_command : h.next_command ≡ g.next_command
