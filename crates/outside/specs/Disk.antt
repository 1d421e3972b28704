-- What a disk's calls do to its bytes, and what a crash may leave of them (this tool's profile, durable spool).
use Rattle.std.specs.Prelude.{◌≡◌, ◌⊎◌, ℕ, ◌+◌, ◌<◌, ◌≤◌, List, length, get_or}

-- this piece stands at this place
pub record HasAt (bytes : List ℕ) (at : ℕ) (piece : List ℕ) : Type 0 where
  pub within : (k : ℕ) → k < length piece → at + k < length bytes
  pub same : (k : ℕ) → k < length piece → get_or bytes (at + k) 0 ≡ get_or piece k 0

-- a place outside of so many bytes from a place on
abbrev pub IsOutside : ℕ → ℕ → ℕ → Type 0
IsOutside at n k = (k < at) ⊎ (at + n ≤ k)

-- after a write of n bytes that a crash cut short: any bytes in its range and past the old end, and the others as they were
pub record Torn (at n : ℕ) (old new : List ℕ) : Type 0 where
  pub no_shorter : length old ≤ length new
  pub others : (k : ℕ) → k < length old → IsOutside at n k → get_or new k 0 ≡ get_or old k 0

-- after a write that was done: the piece stands there, and the others are as they were
pub record WrittenAt (at : ℕ) (piece old new : List ℕ) : Type 0 where
  pub torn : Torn at (length piece) old new
  pub there : HasAt new at piece

-- what a read of so many bytes at a place gives: bytes that stand there, and none only at the end, where some were asked for
pub record IsRead (bytes : List ℕ) (at asked n : ℕ) (given : List ℕ) : Type 0 where
  pub there : 0 < n → HasAt bytes at given
  pub end : n ≡ 0 → 0 < asked → length bytes ≤ at

-- each new image is an old one after a step
abbrev pub Follows : (List ℕ → List ℕ → Type 0) → (List ℕ → Type 0) → (List ℕ → Type 0) → Type 0
Follows step old new = (image : List ℕ) → new image → (before : List ℕ) × old before × step before image

-- each image has P
abbrev pub Each : (List ℕ → Type 0) → (List ℕ → Type 0) → Type 0
Each images P = (image : List ℕ) → images image → P image

-- a crash leaves these bytes and nothing else
abbrev pub Only : List ℕ → (List ℕ → Type 0) → Type 0
Only bytes images = Each images (λ image. image ≡ bytes)

-- an image from before that a write of n bytes has torn since
abbrev pub TornSince : ℕ → ℕ → (List ℕ → Type 0) → List ℕ → Type 0
TornSince at n old image = (before : List ℕ) × old before × Torn at n before image

-- time goes on by a call: a crash since an earlier moment may have left what it might have left before, or what it may leave now, and
-- nothing that it might have left is forgotten
pub record Elapses (before now : ℕ) (past since : ℕ → List ℕ → Type 0) (leaves : List ℕ → Type 0) : Type 0 where
  pub later : before ≤ now
  pub nothing_else : (t : ℕ) (image : List ℕ) → t ≤ before → since t image → past t image ⊎ leaves image
  pub keeps : (t : ℕ) (image : List ℕ) → t ≤ before → past t image → since t image
