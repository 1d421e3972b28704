-- Counts of faults and of answers 0, which tell that an object outside has failed or has ended.
use Rattle.std.specs.Prelude.{◌≡◌, ℕ, ◌+◌, ◌-◌, ◌^◌, ◌<◌, ◌⊎◌, Bool, if◌then◌else◌, List, Option, min}

-- the count rose, or it stands at the greatest number that it holds (this tool's profile, faults of the outside)
abbrev pub Rose : ℕ → ℕ → Type 0
Rose before after = (before < after) ⊎ (after ≡ 2 ^ 64 - 1)

-- a sink failed, or it took nothing of a piece: the counts of faults and of refusals, each before and after
abbrev pub Failed : ℕ → ℕ → ℕ → ℕ → Type 0
Failed faults faults' refusals refusals' = Rose faults faults' ⊎ Rose refusals refusals'

-- the count after one more, which stands still at the greatest number that it holds (this tool's profile, faults of the outside)
abbrev pub one_more : ℕ → ℕ
one_more count = min (count + 1) (2 ^ 64 - 1)

-- the count is one more where this happened, and else the same (this tool's profile, faults of the outside)
abbrev pub Counted : Bool → ℕ → ℕ → Type 0
Counted happened before after = after ≡ (if happened then one_more before else before)

-- a source that tells no content (this tool's profile, sources and sinks of the system)
pub record SourceCounts : Type 0 where
  -- how many reads failed
  pub faults : ℕ
  -- how many reads of a buffer that isn't empty were answered 0
  pub ends : ℕ

-- a sink that tells no content (this tool's profile, sources and sinks of the system)
pub record SinkCounts : Type 0 where
  -- how many writes failed
  pub faults : ℕ
  -- how many writes of a piece that isn't empty were answered 0
  pub refusals : ℕ

-- a file as a source, which tells no content (this tool's profile, sources and sinks of the system)
pub record FileCounts : Type 0 where
  -- where the file is
  pub path : List ℕ
  -- how many reads failed
  pub faults : ℕ
  -- how many reads of a buffer that isn't empty were answered 0
  pub ends : ℕ

-- a file as a disk, which tells no content (this tool's profile, durable spool)
pub record DiskCounts : Type 0 where
  -- where the file is
  pub path : List ℕ
  -- how many calls failed
  pub faults : ℕ

-- a way out to a peer that tells no content (this tool's profile, links and doors of the system)
pub record LinkOutCounts : Type 0 where
  -- how many writes failed
  pub faults : ℕ
  -- how many writes of a piece that isn't empty were answered 0
  pub refusals : ℕ
  -- whether it was shut
  pub is_shut : Bool

-- a door that tells no links (this tool's profile, links and doors of the system)
pub record DoorCounts : Type 0 where
  -- the port at which it was asked to listen last
  pub port : Option ℕ
  -- how many calls failed
  pub faults : ℕ
  -- how many links were given
  pub links : ℕ
  -- how often the answer was NotYet
  pub waits : ℕ
  -- how often the answer was Closed
  pub closings : ℕ
