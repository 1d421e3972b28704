-- A floor at rest on which no command is open (this tool's profile, tables 13 and 16, and moves). Which row fires when is said by the
-- records of the tool; this is what they leave by numbers where none of rows 1 to 4 of table 16 and row 5 of table 13 is ready.
use Rattle.std.specs.Prelude.{◌≡◌, ℕ, ◌==◌, true, false, ◌||◌, Some}
use Rattle.gem_tables.specs.Table.{is_one_of}
use Rattle.floor_moves.specs.Floor.{Loc, slot, aligner, arm, chamber, Floor, own, is_finished, next_step}
use Rattle.floor_moves.specs.Valid.{Empty, HasRoom, IsThrough, IsUnnamed}

-- there is room where the substrate goes next: in its own slot where it is finished
abbrev pub HasTarget : ℕ → Floor → Type 0
HasTarget n g = (is_finished (g.processing n) ≡ true → Empty (own n g) g) × HasRoom n g

-- the substrate may leave this location: its slot where it is unfinished and its job is PROCESSING, the aligner where it is finished or
-- aligned, and a chamber where nothing is left to do there
abbrev pub MayLeave : ℕ → Loc → Floor → Type 0
MayLeave n (slot p k) g = (is_finished (g.processing n) ≡ false) × (g.jobs.may_start n ≡ true)
MayLeave n aligner g = (is_finished (g.processing n) || g.is_aligned n) ≡ true
MayLeave n arm g = ⊥
MayLeave n (chamber c) g = IsThrough n c g

-- nothing is left to do by these rows
pub record AtRest (g : Floor) : Type 0 where
  -- row 1 of table 16: nothing on the arm has room where it goes next
  pub placed : (n : ℕ) → g.place_of n ≡ Some arm → HasTarget n g → ⊥
  -- row 2: where the arm is empty, nothing that may leave has
  pub picked : (n : ℕ) (l : Loc) → g.place_of n ≡ Some l → MayLeave n l g → Empty arm g → HasTarget n g → ⊥
  -- row 3: what is unfinished at the aligner is aligned
  pub aligned : (n : ℕ) → g.place_of n ≡ Some aligner → is_finished (g.processing n) ≡ false → g.is_aligned n ≡ false → ⊥
  -- row 4: nothing that is unfinished is in a chamber of its next step
  pub processed : (n c : ℕ) → g.place_of n ≡ Some (chamber c) → is_finished (g.processing n) ≡ false → is_one_of (next_step n g) c ≡ true → ⊥
  -- row 5 of table 13: nothing in its slot NEEDS PROCESSING whose job is STOPPING or ABORTING, and that no open command names
  pub skipped : (n : ℕ) → g.place_of n ≡ Some (own n g) → (g.processing n == 0) ≡ true → (g.jobs.is_stopping n || g.jobs.is_aborting n) ≡ true → IsUnnamed n g → ⊥
