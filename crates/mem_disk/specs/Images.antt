-- What a disk in memory remembers, what a read of it gives, and what a crash may leave of it (this tool's profile, durable spool).
use Rattle.std.specs.Prelude.{◌≡◌, ℕ, ◌+◌, ◌-◌, ◌≤◌, List, [], ◌∷◌, ◌++◌, length, take, drop, reverse, replicate}
use Rattle.mem_disk.specs.declared.mem_disk.Call.{Call}
use Rattle.mem_disk.specs.declared.mem_disk.Call.TheVariants.{Wrote, Synced}
use Rattle.outside.specs.Disk.{TornSince}

-- a disk in memory
pub record Remembered : Type 0 where
  -- the bytes that it had at first, all of which a crash left then
  pub first : List ℕ
  -- each call since that did something
  pub calls : List Call
  -- which calls fail, the first being 1
  pub fails : List ℕ
  -- how many calls there were
  pub count : ℕ
  -- how many of them failed
  pub faults : ℕ

-- the bytes after a write: zeros up to the place where it lies past the end, and the piece
abbrev pub put : ℕ → List ℕ → List ℕ → List ℕ
put at piece old = take at old ++ replicate (at - length old) 0 ++ piece ++ drop (at + length piece) old

-- what a read gives after these calls, the newest first
abbrev pub reads_after : List ℕ → List Call → List ℕ
reads_after first [] = first
reads_after first (Wrote at piece ∷ calls) = put at piece.items (reads_after first calls)
reads_after first (Synced ∷ calls) = reads_after first calls

-- what a crash may leave after these calls, the newest first
abbrev pub Images : List ℕ → List Call → List ℕ → Type 0
Images first [] image = image ≡ first
Images first (Wrote at piece ∷ calls) image = TornSince at (length piece.items) (Images first calls) image
Images first (Synced ∷ calls) image = image ≡ reads_after first calls

-- what a crash may have left at some moment from that one on: a moment is a count of the calls, of which the oldest is the first
abbrev pub LeftSince : List ℕ → List Call → ℕ → List ℕ → Type 0
LeftSince first calls t image = (k : ℕ) × (t ≤ k) × (k ≤ length calls) × Images first (reverse (take k calls)) image
