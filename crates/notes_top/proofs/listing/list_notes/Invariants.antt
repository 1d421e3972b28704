use Rattle.std.proofs.Common.{◌≡◌, take}
use Rattle.outside.specs.Told.{Written}
use Rattle.notes_lines.specs.Printed.{listed}
use Rattle.notes_top.proofs.listing.list_notes.Given as goal

-- the notes before this one are printed
abbrev pub invariant-loop-index : goal.invariant-loop-index
invariant-loop-index g l = record {
  written : Written (g.K.Sink.held l.fn.out) (g.K.Sink.held l.out) (listed (take l.index l.queue.notes));
  faults : g.K.Sink.faults l.out ≡ g.K.Sink.faults l.fn.out;
  refusals : g.K.Sink.refusals l.out ≡ g.K.Sink.refusals l.fn.out;
}
