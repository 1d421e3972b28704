use Rattle.std.proofs.Common.{◌≡◌, ◌≤◌, take}
use Rattle.carrier.specs.Carriers.{absent_count}
use Rattle.carrier.proofs.carriers.Carriers.absent_count.Given as goal

abbrev pub invariant-loop-place : goal.invariant-loop-place
invariant-loop-place l = record {
  counted : l.count ≡ absent_count (take l.place l.self);
  few : l.count ≤ l.place;
}
