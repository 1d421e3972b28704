-- A run of calls, at each moment of which a crash leaves what has P.
use Rattle.std.proofs.Common.{ℕ, List}
use Rattle.outside.specs.Disk.{Elapses, Each}
use Rattle.spool_format.proofs.Moments.{started, goes_on}
use Rattle.spool_format.specs.Runs.{LeavesOnly}

-- at each moment of it, and now
pub record Holds {D : Type 0} (leaves : D → List ℕ → Type 0) (moment : D → ℕ) (left_since : D → ℕ → List ℕ → Type 0) (P : List ℕ → Type 0) (old new : D) : Type 0 where
  pub run : LeavesOnly moment left_since old new P
  pub now : Each (leaves new) P

module _ {D : Type 0} (leaves : D → List ℕ → Type 0) (moment : D → ℕ) (left_since : D → ℕ → List ℕ → Type 0) (P : List ℕ → Type 0) where
  -- before the first call
  pub begun : (old : D) → ((image : List ℕ) → left_since old (moment old) image → leaves old image) → Each (leaves old) P → Holds leaves moment left_since P old old
  begun old only_now now = record { run = started moment left_since old P (λ f left. now f (only_now f left)); now = now }

  module _ (old mid new : D) (so_far : Holds leaves moment left_since P old mid) (time : Elapses (moment mid) (moment new) (left_since mid) (left_since new) (leaves new)) where
    -- one call more
    pub then_call : Each (leaves new) P → Holds leaves moment left_since P old new
    then_call now = record { run = goes_on moment left_since old mid new P (leaves new) so_far.run time now; now = now }

    -- one that writes nothing
    pub then_sync : Each (leaves new) (leaves mid) → Holds leaves moment left_since P old new
    then_sync same = then_call (λ f left. so_far.now f (same f left))
