use Rattle.std.proofs.Common.{true, ◌≡◌, ◌≤◌, ◌-◌}
use Rattle.std.specs.List.{All}
use Rattle.spool_format.specs.Format.{Fits}
use Rattle.spool_format.specs.Items.{IsReadTo}
use Rattle.spool_format.specs.Runs.{Quiet}
use Rattle.spool_format.proofs.opening.records.Given as goal

abbrev pub invariant-items : goal.invariant-items
invariant-items g l = record {
  read : IsReadTo (g.D.Disk.tells l.fn.disk ≡ true) (g.D.Disk.reads l.fn.disk) l.start l.fn.queue.capacity l.queue.notes l.at;
  low : l.start ≤ l.at;
  high : l.at ≤ l.stop;
  texts : All Fits l.queue.notes;
  capacity : l.queue.capacity ≡ l.fn.queue.capacity;
  quiet : g.D.Disk.tells l.fn.disk ≡ true → Quiet g.D.Disk.reads g.D.Disk.leaves g.D.Disk.moment g.D.Disk.left_since l.fn.disk l.disk;
  tells : g.D.Disk.tells l.disk ≡ g.D.Disk.tells l.fn.disk;
  faults : g.D.Disk.faults l.fn.disk ≤ g.D.Disk.faults l.disk;
}

abbrev pub decreases-items : goal.decreases-items
decreases-items g l = l.stop - l.at
