use Rattle.std.proofs.Common.{◌≡◌, ◌+◌, ◌-◌, ◌≤◌, length}
use Rattle.source_lines.specs.Limits.{source_bytes}
use Rattle.source_lines.specs.Reads.{source_told}
use Rattle.notes_top.specs.declared.kept.Kept.TheVariants as kept
use Rattle.notes_top.proofs.Runs.{Stand}
use Rattle.notes_top.proofs.running.run.Given as goal

-- the lines that were given are done
abbrev pub invariant-loop-why : goal.invariant-loop-why
invariant-loop-why g l =
    let told = source_told g.S.Source.left g.S.Source.faults g.S.Source.ends in
    record {
      stands : (first : g.row.D.Denot) → l.fn.kept ≡ kept.Disk first
          → Stand g.D.Disk.tells g.D.Disk.reads g.D.Disk.leaves g.D.Disk.faults first (told l.fn.input) (told l.input) l.lines l.number l.kept (g.K.Sink.held l.fn.out) (g.K.Sink.held l.out);
      numbered : l.number + length l.lines.kept ≤ l.lines.count + 1;
      within : l.lines.count ≤ source_bytes;
      reads : g.S.Source.faults l.input ≡ g.S.Source.faults l.fn.input;
      faults : g.K.Sink.faults l.out ≡ g.K.Sink.faults l.fn.out;
      refusals : g.K.Sink.refusals l.out ≡ g.K.Sink.refusals l.fn.out;
    }

abbrev pub decreases-loop-why : goal.decreases-loop-why
decreases-loop-why g l = (source_bytes - l.lines.count) + length l.lines.kept
