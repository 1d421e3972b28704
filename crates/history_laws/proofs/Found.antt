-- At rest each location is OCCUPIED exactly where a substrate is there, and Done of an open command meets no place that is taken or left.
use Rattle.std.proofs.Common.{◌≡◌, ℕ, zero, suc, ◌+◌, ◌==◌, Bool, true, false, ◌||◌, List, [], ◌∷◌, Option, Some, None, slice_get, refl, ap, subst, arith}
use Rattle.std.proofs.lemmas.Bool.{or_right, and_from}
use Rattle.std.proofs.lemmas.Bool.Decides.{Decides-eqb}
use Rattle.gem_tables.specs.Table.{is_one_of}
use Rattle.tool_tasks.specs.declared.task.Task.{Task}
use Rattle.tool_tasks.specs.declared.task.Task.TheVariants as task
use Rattle.substrate.specs.Places.{is_taken_at}
use Rattle.substrate.specs.declared.record.LocationRecord.{LocationRecord}
use Rattle.substrate.specs.declared.record.Occupancy.{Occupancy}
use Rattle.substrate.specs.declared.record.Occupancy.TheVariants.{Unoccupied, Occupied}
use Rattle.floor_model.specs.Floor.{ToolFloor, location_numbers}
use Rattle.floor_model.specs.Machines.{floor_least, location_ready}
use Rattle.floor_model.proofs.AtRest.{none_ready}
use Rattle.place_laws.specs.Sound.{Sound}
use Rattle.floor_laws.proofs.EndMoves.{pick_written, place_written}
use Rattle.history_laws.specs.Found.{is_occupied, AreOccupied, is_met, AreMet}

-- ---- locations

-- the number of a location is one of theirs
listed_number : (first place : ℕ) (ls : List LocationRecord) (l : LocationRecord) → slice_get ls place ≡ Some l → is_one_of (location_numbers first ls) (first + place) ≡ true
listed_number first place [] l e = absurd (cc)
listed_number first zero (x ∷ xs) l e = let same : (first == (first + 0)) ≡ true = (Decides-eqb first (first + 0)).1 (omega arith) in ap (λ (b : Bool). b || is_one_of (location_numbers (first + 1) xs) (first + 0)) same
listed_number first (suc place) (x ∷ xs) l e =
    let next : (first + 1) + place ≡ first + suc place = omega arith in
    or_right (first == (first + suc place)) (is_one_of (location_numbers (first + 1) xs) (first + suc place))
    (subst (λ (n : ℕ). is_one_of (location_numbers (first + 1) xs) n ≡ true) next (listed_number (first + 1) place xs l e))

-- one at which no row of table 11 is ready says so
said : (n : ℕ) (l : LocationRecord) (f : ToolFloor) → location_ready n (Some l) f ≡ None → is_occupied l.occupancy ≡ is_taken_at n f.places
said n l f none = of l.occupancy refl (is_taken_at n f.places) refl where
  of : (o : Occupancy) → l.occupancy ≡ o → (b : Bool) → is_taken_at n f.places ≡ b → is_occupied o ≡ b
  of Occupied q true t = refl
  of Unoccupied q false t = refl
  of Unoccupied q true t = absurd (let ready : location_ready n (Some l) f ≡ Some 1 = rw (q, t) refl in cc)
  of Occupied q false t = absurd (let ready : location_ready n (Some l) f ≡ Some 2 = rw (q, t) refl in cc)

pub rest-occupied : (f : ToolFloor) → floor_least f ≡ None → AreOccupied f
rest-occupied f rests zero l there = absurd (cc)
rest-occupied f rests (suc place) l there =
    let number : is_one_of (location_numbers 1 f.locations) (suc place) ≡ true = subst (λ (n : ℕ). is_one_of (location_numbers 1 f.locations) n ≡ true) (omega arith) (listed_number 1 place f.locations l there) in
    let none = (none_ready f rests).location (suc place) number in
    said (suc place) l f (subst (λ (o : Option LocationRecord). location_ready (suc place) o f ≡ None) there none)

-- ---- open commands

pub sound-met : (f : ToolFloor) → Sound f → AreMet f
sound-met f sound m c fetched here = of c.task refl where
  of : (t : Task) → c.task ≡ t → is_met t f.places ≡ true
  of (task.Pick sub from) q = let can = (pick_written f sound m c fetched here sub from q).can in and_from _ _ can.0 can.1
  of (task.Place sub to) q = let can = (place_written f sound m c fetched here sub to q).can in and_from _ _ can.0 can.1
  of (task.Align sub) q = refl
  of (task.Process sub recipe) q = refl
