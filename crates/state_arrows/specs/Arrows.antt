-- The arrows of a transition table, as a picture of it shows them (this tool's profile, transition tables; after the state models of
-- SEMI E30, E40, E87, E90 and E94).
use Rattle.std.specs.Prelude.{ℕ, zero, suc, ◌==◌, Bool, true, false, not, ◌&&◌, ◌||◌, if◌then◌else◌, List, [], ◌∷◌, ◌++◌, filter_map, Option, Some, None}
use Rattle.gem_tables.specs.Table.{Row, is_creation}
use Rattle.state_arrows.specs.declared.arrow.Arrow.{Arrow}

-- an arrow: its row, the number of the state from which it comes and of that to which it leads; None where it is no state
abbrev pub arrow : ℕ → Option ℕ → Option ℕ → Arrow
arrow row from to = record { row = row; from = from; to = to }

-- ---- of a table, as it is printed

-- an arrow from each of these states
abbrev pub from_each : {S : Type 0} → ℕ → (S → ℕ) → Option ℕ → List S → List Arrow
from_each row number to [] = []
from_each row number to (s ∷ states) = arrow row (Some (number s)) to ∷ from_each row number to states

module _ {S W E : Type 0} where
  -- where a row leads: to its end, or nowhere where its object ends with it
  abbrev pub leads_to : (S → ℕ) → (E → Bool) → Row S W E → Option ℕ
  leads_to number ends r = if ends r.does then None else Some (number r.to)

  -- the arrows of a row: one from each state in which it starts, and one from nowhere where it creates an object
  abbrev pub row_drawn : (S → ℕ) → (E → Bool) → Row S W E → List Arrow
  row_drawn number ends r =
      if is_creation r.by then arrow r.number None (leads_to number ends r) ∷ [] else from_each r.number number (leads_to number ends r) r.from

  -- the arrows of a table
  abbrev pub drawn : (S → ℕ) → (E → Bool) → List (Row S W E) → List Arrow
  drawn number ends [] = []
  drawn number ends (r ∷ rows) = row_drawn number ends r ++ drawn number ends rows

-- an object ends with no row
abbrev pub never_ends : {E : Type 0} → E → Bool
never_ends effect = false

-- ---- the same arrows

-- the same state, or none at both ends
abbrev pub is_same_end : Option ℕ → Option ℕ → Bool
is_same_end None None = true
is_same_end (Some a) (Some b) = a == b
is_same_end None (Some b) = false
is_same_end (Some a) None = false

-- the same row, from the same state to the same
abbrev pub is_same : Arrow → Arrow → Bool
is_same a b = (a.row == b.row) && (is_same_end a.from b.from && is_same_end a.to b.to)

-- the arrow is one of these
abbrev pub is_one_of : List Arrow → Arrow → Bool
is_one_of [] a = false
is_one_of (b ∷ bs) a = is_same a b || is_one_of bs a

-- each of the first is one of the second
abbrev pub are_among : List Arrow → List Arrow → Bool
are_among [] bs = true
are_among (a ∷ rest) bs = is_one_of bs a && are_among rest bs

-- the same arrows, in whatever order: each of the first is one of the second, and each of the second one of the first
abbrev pub are_same : List Arrow → List Arrow → Bool
are_same xs ys = are_among xs ys && are_among ys xs

-- no arrow stands twice
abbrev pub are_apart : List Arrow → Bool
are_apart [] = true
are_apart (a ∷ rest) = not (is_one_of rest a) && are_apart rest

-- ---- of states that are asked

-- what a state answers to a row, by where rows start and what is behind them: its arrow, where it starts
abbrev pub answered : {S : Type 0} → (S → ℕ) → (ℕ → S → Bool) → (ℕ → S → S) → ℕ → S → Option Arrow
answered number starts behind row s = if starts row s then Some (arrow row (Some (number s)) (Some (number (behind row s)))) else None

-- the answers of these states to rows 1 to n
abbrev pub gathered : {S : Type 0} → (ℕ → S → Option Arrow) → List S → ℕ → List Arrow
gathered answer states zero = []
gathered answer states (suc n) = gathered answer states n ++ filter_map (answer (suc n)) states
