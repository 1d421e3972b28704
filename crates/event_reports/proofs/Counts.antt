-- How many alarms a plant has.
use Rattle.std.proofs.Common.{◌≡◌, ◌≤◌, ◌+◌, ℕ, zero, suc, List, [], ◌∷◌, length, map, refl, ap, arith, length-append}
use Rattle.gem_rows.specs.Events.{numbers_from}
use Rattle.event_reports.specs.Limits.{most_alarms}
use Rattle.event_reports.specs.Alarms.{no_alarms}

length-numbers_from : (first count : ℕ) → length (numbers_from first count) ≡ count
length-numbers_from first zero = refl
length-numbers_from first (suc count) = ap suc (length-numbers_from (first + 1) count)

length-map : {A B : Type 0} (f : A → B) (xs : List A) → length (map f xs) ≡ length xs
length-map f [] = refl
length-map f (x ∷ xs) = ap suc (length-map f xs)

-- a plant of at most 4 ports and 8 chambers has at most 17 alarms
pub few_alarms : (ports chambers : ℕ) → ports ≤ 4 → chambers ≤ 8 → length (no_alarms ports chambers) ≤ most_alarms
few_alarms ports chambers p c =
    let modules = length-numbers_from 11 (2 + chambers) in
    let loads = length-numbers_from 31 ports in
    rw length-map (rw length-append (rw length-append (omega arith)))
