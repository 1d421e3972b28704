-- The locations of a tool (after SEMI E90, substrate location; this tool's profile, names of places).
use Rattle.std.specs.Prelude.{ℕ, ◌==◌, nat_le, Bool, true, false, ◌&&◌}
use Rattle.gem_ids.specs.declared.numbers.LocId.{LocId}
use Rattle.gem_ids.specs.declared.numbers.LocId.TheVariants.{Slot, Aligner, Arm, Chamber}

-- two names of places are of the same place
abbrev pub is_same : LocId → LocId → Bool
is_same (Slot p k) (Slot q m) = (p.0 == q.0) && (k.0 == m.0)
is_same Aligner Aligner = true
is_same Arm Arm = true
is_same (Chamber c) (Chamber d) = c == d
is_same _ _ = false

-- the place is one of a tool with so many load ports, of 25 slots each, and so many chambers
abbrev pub is_location : ℕ → ℕ → LocId → Bool
is_location ports chambers (Slot p k) = (nat_le 1 p.0 && nat_le p.0 ports) && (nat_le 1 k.0 && nat_le k.0 25)
is_location ports chambers Aligner = true
is_location ports chambers Arm = true
is_location ports chambers (Chamber c) = nat_le 1 c && nat_le c chambers

-- the place is the aligner, the arm or a chamber
abbrev pub is_work_place : LocId → Bool
is_work_place (Slot p k) = false
is_work_place Aligner = true
is_work_place Arm = true
is_work_place (Chamber c) = true
