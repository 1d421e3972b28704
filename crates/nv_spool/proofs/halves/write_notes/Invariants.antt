use Rattle.std.proofs.Common.{true, ◌≡◌, ◌*◌, ◌≤◌, length, take}
use Rattle.nv_spool.specs.Writing.{pushes}
use Rattle.outside.specs.Disk.{WrittenAt}
use Rattle.spool_format.specs.Format.{spelled}
use Rattle.spool_format.specs.Runs.{WritesOnly}
use Rattle.nv_spool.proofs.halves.write_notes.Given as goal

abbrev pub invariant-loop-index : goal.invariant-loop-index
invariant-loop-index g l = record {
  end : l.end ≡ length (spelled (pushes (take l.index l.queue.notes)));
  small : l.end ≤ 87020 * l.index;
  most : length l.queue.notes ≤ l.queue.capacity;
  stop : l.index-end ≡ length l.queue.notes;
  written : g.D.Disk.tells l.fn.disk ≡ true → WrittenAt l.at (spelled (pushes (take l.index l.queue.notes))) (g.D.Disk.reads l.fn.disk) (g.D.Disk.reads l.disk);
  only : g.D.Disk.tells l.fn.disk ≡ true → WritesOnly g.D.Disk.leaves g.D.Disk.moment g.D.Disk.left_since l.at (length (spelled (pushes l.queue.notes))) l.fn.disk l.disk;
  tells : g.D.Disk.tells l.disk ≡ g.D.Disk.tells l.fn.disk;
  faults : g.D.Disk.faults l.fn.disk ≤ g.D.Disk.faults l.disk;
}
