-- The words that all transition tables share (this tool's profile, transition tables).
use Rattle.std.specs.Prelude.{ℕ, zero, suc, ◌==◌, Bool, true, false, ◌&&◌, ◌||◌, if◌then◌else◌, List, [], ◌∷◌, Option, Some, None}
use Rattle.gem_tables.specs.declared.firing.Firing.{Firing}

-- ---- a table

-- how a row comes to fire: an input fires it, it fires by itself, or it fires for an object that was just created
pub data By : Type 0 where
  Input : By
  Itself : By
  Creation : By

-- A row as its table prints it, over the states of one kind of object: its number; how it comes to fire; the states in which it
-- starts; what it wants besides; the state behind it; and what it does besides.
pub record Row (S W E : Type 0) : Type 0 where
  pub number : ℕ
  pub by : By
  pub from : List S
  pub wants : W
  pub to : S
  pub does : E

-- a number is in a list
abbrev pub is_one_of : List ℕ → ℕ → Bool
is_one_of [] n = false
is_one_of (m ∷ ms) n = (m == n) || is_one_of ms n

-- the row fires by itself
abbrev pub is_itself : By → Bool
is_itself Itself = true
is_itself _ = false

-- the row fires for an object that was just created
abbrev pub is_creation : By → Bool
is_creation Creation = true
is_creation _ = false

-- a state is one of these, by the numbers of the states
abbrev pub is_among : {S : Type 0} → (S → ℕ) → List S → S → Bool
is_among number [] state = false
is_among number (s ∷ states) state = (number s == number state) || is_among number states state

module _ {S W E : Type 0} where
  -- a row that an input fires, as a table prints it
  abbrev pub by_input : ℕ → List S → W → S → E → Row S W E
  by_input number from wants to does = record { number = number; by = Input; from = from; wants = wants; to = to; does = does }

  -- a row that fires by itself
  abbrev pub by_itself : ℕ → List S → W → S → E → Row S W E
  by_itself number from wants to does = record { number = number; by = Itself; from = from; wants = wants; to = to; does = does }

  -- a row that fires for an object that was just created in this state; it starts in no state
  abbrev pub by_creation : ℕ → W → S → E → Row S W E
  by_creation number wants to does = record { number = number; by = Creation; from = []; wants = wants; to = to; does = does }

  -- this is the row of the number, and it starts in the state
  abbrev pub row_starts : (S → ℕ) → Row S W E → ℕ → S → Bool
  row_starts number r row state = (r.number == row) && is_among number r.from state

  -- the row of a number starts in a state
  abbrev pub starts : (S → ℕ) → List (Row S W E) → ℕ → S → Bool
  starts number [] row state = false
  starts number (r ∷ rows) row state = row_starts number r row state || starts number rows row state

  -- the state behind the row of a number that fires in a state: the row's end, or the same state where it doesn't start in it
  abbrev pub after : (S → ℕ) → List (Row S W E) → ℕ → S → S
  after number [] row state = state
  after number (r ∷ rows) row state = if row_starts number r row state then r.to else after number rows row state

  -- the first of these rows that starts in a state
  abbrev pub first_starting : (S → ℕ) → List (Row S W E) → S → List ℕ → Option ℕ
  first_starting number table state [] = None
  first_starting number table state (row ∷ rows) = if starts number table row state then Some row else first_starting number table state rows

  -- the row of a number
  abbrev pub row_of : List (Row S W E) → ℕ → Option (Row S W E)
  row_of [] row = None
  row_of (r ∷ rows) row = if r.number == row then Some r else row_of rows row

  -- the first row that fires by itself, starts in the state, and finds what it wants
  abbrev pub first_itself : (S → ℕ) → (W → Bool) → List (Row S W E) → S → Option ℕ
  first_itself number finds [] state = None
  first_itself number finds (r ∷ rows) state =
      if is_itself r.by && (is_among number r.from state && finds r.wants) then Some r.number else first_itself number finds rows state

  -- the row of a number that was looked for is there, it starts in the state or is one of an object that was just created, and
  -- what it wants is found
  abbrev pub found_starts : (S → ℕ) → (W → Bool) → S → Option (Row S W E) → Bool
  found_starts number finds state None = false
  found_starts number finds state (Some r) = (is_creation r.by || is_among number r.from state) && finds r.wants

  -- what a row that was looked for wants is found; one that isn't there wants nothing
  abbrev pub wants_found : (W → Bool) → Option (Row S W E) → Bool
  wants_found finds None = true
  wants_found finds (Some r) = finds r.wants

  -- the row of a number may fire at an object in this state, by what is found
  abbrev pub may_fire : (S → ℕ) → (W → Bool) → List (Row S W E) → ℕ → S → Bool
  may_fire number finds rows row state = found_starts number finds state (row_of rows row)

-- ---- cases

-- what the first case that fits gives, of cases that each are a test and what it stands for
abbrev pub choose : {A : Type 0} → List (Bool × A) → Option A
choose [] = None
choose (one ∷ others) = if one.0 then Some one.1 else choose others

-- ---- rows of objects

-- a row of a table, fired at an object
abbrev pub firing : ℕ → ℕ → ℕ → Firing
firing table object row = record { row = record { table = table; row = row }; object = object }

-- the objects, with the one at this place changed
abbrev pub update_at : {O : Type 0} → ℕ → (O → O) → List O → List O
update_at n change [] = []
update_at zero change (x ∷ xs) = change x ∷ xs
update_at (suc n) change (x ∷ xs) = x ∷ update_at n change xs
