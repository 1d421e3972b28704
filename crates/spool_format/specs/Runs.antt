-- What a run of a disk's calls did, and what a crash may have left meanwhile.
use Rattle.std.specs.Prelude.{◌≡◌, ◌⊎◌, ℕ, ◌≤◌, List, length}
use Rattle.outside.specs.Disk.{Torn, TornSince, Follows, Each}

-- a crash at any moment since old leaves an image that has P
pub record LeavesOnly {D : Type 0} (moment : D → ℕ) (left_since : D → ℕ → List ℕ → Type 0) (old new : D) (P : List ℕ → Type 0) : Type 0 where
  pub later : moment old ≤ moment new
  pub each : (image : List ℕ) → left_since new (moment old) image → P image
  -- for a run that began earlier
  pub before : (t : ℕ) (image : List ℕ) → t ≤ moment old → left_since new t image → left_since old t image ⊎ P image

-- Nothing else was done than writes of these n bytes, in however many pieces: a crash leaves an old image that is torn there, now and at
-- each moment since.
pub record WritesOnly {D : Type 0} (leaves : D → List ℕ → Type 0) (moment : D → ℕ) (left_since : D → ℕ → List ℕ → Type 0) (at n : ℕ) (old new : D) : Type 0 where
  pub follows : Follows (Torn at n) (leaves old) (leaves new)
  pub any_moment : LeavesOnly moment left_since old new (TornSince at n (leaves old))

-- Nothing was written: what a read gives is the same, and a crash leaves what it might have left before.
pub record Quiet {D : Type 0} (reads : D → List ℕ) (leaves : D → List ℕ → Type 0) (moment : D → ℕ) (left_since : D → ℕ → List ℕ → Type 0) (old new : D) : Type 0 where
  pub same : reads new ≡ reads old
  pub follows : Each (leaves new) (leaves old)
  pub any_moment : LeavesOnly moment left_since old new (leaves old)

-- no byte stands at this place before that stop
abbrev pub IsMissing : List ℕ → ℕ → ℕ → Type 0
IsMissing bytes stop place = (stop ≤ place) ⊎ (length bytes ≤ place)
