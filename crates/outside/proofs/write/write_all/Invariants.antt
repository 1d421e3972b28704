use Rattle.std.proofs.Common.{◌≡◌, length, ◌-◌, ◌≤◌, take}
use Rattle.outside.specs.Told.{Written}
use Rattle.outside.proofs.write.write_all.Given as goal

-- a front of the bytes is written, and no write failed or took nothing
abbrev pub invariant-loop-at : goal.invariant-loop-at
invariant-loop-at g l =
    let K = g.K.Sink in
    record {
      within : l.at ≤ length l.bytes;
      front : Written (K.held l.fn.out) (K.held l.out) (take l.at l.bytes);
      faults : K.faults l.out ≡ K.faults l.fn.out;
      refusals : K.refusals l.out ≡ K.refusals l.fn.out;
    }

abbrev pub decreases-loop-at : goal.decreases-loop-at
decreases-loop-at g l = length l.bytes - l.at
