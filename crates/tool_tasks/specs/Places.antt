-- How a list lies in a fixed number of places.
use Rattle.std.specs.Prelude.{◌≡◌, ℕ, ◌-◌, ◌≤◌, List, ◌++◌, length, take, drop, replicate}
use Rattle.std.proofs.Common.{arith}
use Rattle.std.proofs.lemmas.List.{take-append-drop, length-take-le}

-- so many places: the first have the list, and those behind them are blank, so that equal lists have equal places
pub record Holds {X : Type 0} (most : ℕ) (blank : X) (places : List X) (count : ℕ) : Type 0 where
  pub fits : count ≤ most
  pub size : length places ≡ most
  pub blanks : drop count places ≡ replicate (most - count) blank

-- the list is as long as the number says
pub held_count : {X : Type 0} (most : ℕ) (blank : X) (places : List X) (count : ℕ) → Holds most blank places count → length (take count places) ≡ count
held_count most blank places count h = length-take-le count places (omega arith)

-- the list and the blank places behind it are all of the places
pub held_places : {X : Type 0} (most : ℕ) (blank : X) (places : List X) (count : ℕ) → Holds most blank places count → take count places ++ replicate (most - length (take count places)) blank ≡ places
held_places most blank places count h = rw (held_count most blank places count h) (rw (← h.blanks) (take-append-drop count places))
