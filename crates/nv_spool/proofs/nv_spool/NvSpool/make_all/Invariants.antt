use Rattle.std.proofs.Common.{◌≡◌, ◌+◌, ◌≤◌, true, false, ℕ, List, length, take}
use Rattle.std.specs.Vec.Iter.{into_iter_items}
use Rattle.outside.specs.Disk.{Each}
use Rattle.spool_format.specs.Format.{StandsFor}
use Rattle.spool_format.specs.Runs.{LeavesOnly}
use Rattle.nv_spool.specs.Writing.{AfterSome, CanMake, made}
use Rattle.nv_spool.proofs.nv_spool.NvSpool.make_all.Given as goal

abbrev pub invariant-loop-change : goal.invariant-loop-change
invariant-loop-change g l = record {
  changes : CanMake l.fn.self.sizes.capacity l.self.notes (into_iter_items l.change-iterator);
  count : l.count + length (into_iter_items l.change-iterator) ≡ length l.fn.changes.items;
  sizes : l.self.sizes ≡ l.fn.self.sizes;
  opened : l.self.is_closed ≡ false;
  tells : g.D.Disk.tells l.self.disk ≡ g.D.Disk.tells l.fn.self.disk;
  faults : g.D.Disk.faults l.fn.self.disk ≤ g.D.Disk.faults l.self.disk;
  notes : made l.fn.self.sizes.capacity (into_iter_items l.change-iterator) l.self.notes ≡ made l.fn.self.sizes.capacity l.fn.changes.items l.fn.self.notes;
  stands : g.D.Disk.tells l.fn.self.disk ≡ true → Each (g.D.Disk.leaves l.self.disk) (StandsFor l.fn.self.sizes l.self.notes);
  later : (k : ℕ) (bytes : List ℕ) → AfterSome l.fn.self.sizes l.self.notes (take k (into_iter_items l.change-iterator)) bytes → AfterSome l.fn.self.sizes l.fn.self.notes (take (l.count + k) l.fn.changes.items) bytes;
  so_far : g.D.Disk.tells l.fn.self.disk ≡ true → LeavesOnly g.D.Disk.moment g.D.Disk.left_since l.fn.self.disk l.self.disk (AfterSome l.fn.self.sizes l.fn.self.notes (take l.count l.fn.changes.items));
}
