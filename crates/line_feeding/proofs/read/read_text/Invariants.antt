use Rattle.std.proofs.Common.{◌≡◌, ◌-◌, ◌≤◌, length, vec_len}
use Rattle.outside.specs.Told.{Taken}
use Rattle.line_feeding.proofs.read.read_text.Given as goal

-- what was read is in the text
abbrev pub invariant-loop-buf : goal.invariant-loop-buf
invariant-loop-buf g l =
    let S = g.S.Source in
    record {
      taken : Taken (S.left l.fn.source) (S.left l.source) l.text.items;
      most : length l.text.items ≤ l.most;
      buffer : length l.buf ≡ 1024;
      faults : S.faults l.source ≡ S.faults l.fn.source;
      ends : S.ends l.fn.source ≤ S.ends l.source;
    }

abbrev pub decreases-loop-buf : goal.decreases-loop-buf
decreases-loop-buf g l = l.most - vec_len l.text
