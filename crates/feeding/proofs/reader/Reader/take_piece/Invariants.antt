use Rattle.std.proofs.Common.{◌≡◌, true, ℕ, ◌+◌, ◌≤◌, List, ◌++◌, length, Ok}
use Rattle.line_feeding.specs.Going.{seen}
use Rattle.feeding.specs.Views.{reader_seen}
use Rattle.feeding.specs.Standing.{Stands, Takes}
use Rattle.feeding.proofs.reader.Reader.take_piece.Given as goal

-- the lines before what is left are taken
abbrev pub invariant-loop-line : goal.invariant-loop-line
invariant-loop-line g l =
    let see = seen g.K.Sink.held g.K.Sink.faults g.K.Sink.refusals in
    record {
      whole : (g.C.Recorder.view l.self.feeder.core).is_whole ≡ true;
      number : l.self.number + length l.left ≤ l.fn.self.number + length l.piece;
      taken : (front : List ℕ) × (l.piece ≡ front ++ l.left) × ((text : List ℕ) → Stands text (reader_seen g.C.Recorder.view l.fn.self) → Takes text front (reader_seen g.C.Recorder.view l.fn.self) (reader_seen g.C.Recorder.view l.self) (see l.fn.out) (see l.out) (Ok tt));
    }

abbrev pub decreases-loop-line : goal.decreases-loop-line
decreases-loop-line g l = length l.left
