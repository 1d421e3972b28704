use Rattle.std.proofs.Common.{true, ◌≡◌, ◌≤◌, ◌<◌, ◌+◌, ℕ, get_or, ◌⊎◌, length, take}
use Rattle.outside.specs.Disk.{HasAt}
use Rattle.spool_format.specs.Runs.{Quiet}
use Rattle.spool_format.proofs.reading.bytes_at.Given as goal

abbrev pub invariant-loop-index : goal.invariant-loop-index
invariant-loop-index g l = record {
  bytes : g.D.Disk.tells l.fn.disk ≡ true → HasAt (g.D.Disk.reads l.fn.disk) l.at (take l.index l.buf);
  fit : (k : ℕ) → k < l.index → get_or l.buf k 0 < 256;
  before : (l.index ≡ 0) ⊎ (l.at + l.index ≤ l.stop);
  size : length l.buf ≡ length l.fn.buf;
  quiet : g.D.Disk.tells l.fn.disk ≡ true → Quiet g.D.Disk.reads g.D.Disk.leaves g.D.Disk.moment g.D.Disk.left_since l.fn.disk l.disk;
  tells : g.D.Disk.tells l.disk ≡ g.D.Disk.tells l.fn.disk;
  faults : g.D.Disk.faults l.fn.disk ≤ g.D.Disk.faults l.disk;
}
