-- How a disk that is read by blocks is kept.
use Rattle.std.specs.Prelude.{◌≡◌, ℕ, ◌≤◌, Bool, true, List, take, length}
use Rattle.outside.specs.Disk.{HasAt}
use Rattle.spool_format.specs.declared.blocks.ByBlocks.TheInside.{Inside}

-- the front of the block stands on the disk
pub record IsKept {D : Type 0} (tells : D → Bool) (reads : D → List ℕ) (kept : Inside D) : Type 0 where
  pub within : kept.len ≤ length kept.block
  pub there : tells kept.disk ≡ true → HasAt (reads kept.disk) kept.from (take kept.len kept.block)
