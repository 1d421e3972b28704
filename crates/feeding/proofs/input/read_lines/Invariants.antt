use Rattle.std.proofs.Common.{◌≡◌, true, ◌-◌, ◌≤◌, length}
use Rattle.line_feeding.specs.Fed.{looked}
use Rattle.line_feeding.specs.Limits.{input_bytes}
use Rattle.line_feeding.specs.Going.{seen}
use Rattle.feeding.specs.Views.{reader_seen}
use Rattle.feeding.proofs.Progress.{Progress}
use Rattle.feeding.proofs.input.read_lines.Given as goal

abbrev pub invariant-loop-count : goal.invariant-loop-count
invariant-loop-count g l =
    let see = seen g.K.Sink.held g.K.Sink.faults g.K.Sink.refusals in
    let look = looked g.S.Source.left g.S.Source.faults g.S.Source.ends in
    record {
      progress : Progress (reader_seen g.C.Recorder.view l.fn.reader) (reader_seen g.C.Recorder.view l.reader) (see l.fn.out) (see l.out) (look l.fn.input) (look l.input) l.count;
      whole : (g.C.Recorder.view l.reader.feeder.core).is_whole ≡ true;
      within : l.count ≤ input_bytes;
      buffer : length l.buf ≡ 4096;
    }

abbrev pub decreases-loop-count : goal.decreases-loop-count
decreases-loop-count g l = input_bytes - l.count
