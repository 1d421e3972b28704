use Rattle.std.proofs.Common.{◌≡◌, ℕ, List, take, length, arith, ap}
use Rattle.std.proofs.lemmas.List.{length-take-le}
use Rattle.line_feeding.specs.Fed.{looked}
use Rattle.feeding.specs.Views.{reader_seen}
use Rattle.feeding.proofs.Progress.{ends-fault, ends-bound, ends-whole, ends-last, ends-halted, Progress-more}
use Rattle.feeding.proofs.input.read_lines.Goals as goal

pub returns-in-Ok-finish-clause-read : goal.returns-in-Ok-finish-clause-read
returns-in-Ok-finish-clause-read g c =
    let none : c.in-Ok.more ≡ 0 = omega (arith, c.if-is_end.true) in
    let look = looked g.S.Source.left g.S.Source.faults g.S.Source.ends in
    (ends-whole _ _ (reader_seen g.C.Recorder.view c.finish.new.self) _ _ _ _ _ (look c.read_front.new.source) _ (take c.in-Ok.more c.read_front.new.buf) c.loop-count.invariant.progress (ap (λ (n : ℕ). take n c.read_front.new.buf) none) c.in-Ok.ensures.taken (c.in-Ok.ensures.end none) (c.in-Ok.ensures.end_rose none) c.read_front.ensures.ends_stay c.in-Ok-finish.ensures.finishes).0

pub returns-in-Ok-finish-clause-prints : goal.returns-in-Ok-finish-clause-prints
returns-in-Ok-finish-clause-prints g c =
    let none : c.in-Ok.more ≡ 0 = omega (arith, c.if-is_end.true) in
    let look = looked g.S.Source.left g.S.Source.faults g.S.Source.ends in
    (ends-whole _ _ (reader_seen g.C.Recorder.view c.finish.new.self) _ _ _ _ _ (look c.read_front.new.source) _ (take c.in-Ok.more c.read_front.new.buf) c.loop-count.invariant.progress (ap (λ (n : ℕ). take n c.read_front.new.buf) none) c.in-Ok.ensures.taken (c.in-Ok.ensures.end none) (c.in-Ok.ensures.end_rose none) c.read_front.ensures.ends_stay c.in-Ok-finish.ensures.finishes).1

pub returns-in-Err-clause-read : goal.returns-in-Err-clause-read
returns-in-Err-clause-read g c =
    let none : c.in-Ok.more ≡ 0 = omega (arith, c.if-is_end.true) in
    let look = looked g.S.Source.left g.S.Source.faults g.S.Source.ends in
    (ends-last _ _ (reader_seen g.C.Recorder.view c.finish.new.self) _ _ _ _ _ (look c.read_front.new.source) _ (take c.in-Ok.more c.read_front.new.buf) c.in-Err.halt c.loop-count.invariant.progress (ap (λ (n : ℕ). take n c.read_front.new.buf) none) c.in-Ok.ensures.taken (c.in-Ok.ensures.end none) (c.in-Ok.ensures.end_rose none) c.read_front.ensures.ends_stay c.in-Err.ensures.finishes).0

pub returns-in-Err-clause-prints : goal.returns-in-Err-clause-prints
returns-in-Err-clause-prints g c =
    let none : c.in-Ok.more ≡ 0 = omega (arith, c.if-is_end.true) in
    let look = looked g.S.Source.left g.S.Source.faults g.S.Source.ends in
    (ends-last _ _ (reader_seen g.C.Recorder.view c.finish.new.self) _ _ _ _ _ (look c.read_front.new.source) _ (take c.in-Ok.more c.read_front.new.buf) c.in-Err.halt c.loop-count.invariant.progress (ap (λ (n : ℕ). take n c.read_front.new.buf) none) c.in-Ok.ensures.taken (c.in-Ok.ensures.end none) (c.in-Ok.ensures.end_rose none) c.read_front.ensures.ends_stay c.in-Err.ensures.finishes).1

pub returns-in-Err-taken-clause-read : goal.returns-in-Err-taken-clause-read
returns-in-Err-taken-clause-read g c =
    let buffer : length c.read_front.new.buf ≡ 4096 = omega (arith, c.read_front.auto.buf, c.loop-count.invariant.buffer) in
    let fits = c.in-Ok.ensures.fits in
    let room = c.min-room.ensures in
    let look = looked g.S.Source.left g.S.Source.faults g.S.Source.ends in
    (ends-halted _ _ (reader_seen g.C.Recorder.view c.take_piece-taken.new.self) _ _ _ _ _ (look c.read_front.new.source) _ c.in-Ok.more (take c.in-Ok.more c.read_front.new.buf) c.in-Err-taken.halt c.loop-count.invariant.progress c.in-Ok.ensures.taken (length-take-le c.in-Ok.more c.read_front.new.buf (omega arith)) (rw c.front.ensures at c.in-Err-taken.ensures.takes)).0

pub returns-in-Err-taken-clause-prints : goal.returns-in-Err-taken-clause-prints
returns-in-Err-taken-clause-prints g c =
    let buffer : length c.read_front.new.buf ≡ 4096 = omega (arith, c.read_front.auto.buf, c.loop-count.invariant.buffer) in
    let fits = c.in-Ok.ensures.fits in
    let room = c.min-room.ensures in
    let look = looked g.S.Source.left g.S.Source.faults g.S.Source.ends in
    (ends-halted _ _ (reader_seen g.C.Recorder.view c.take_piece-taken.new.self) _ _ _ _ _ (look c.read_front.new.source) _ c.in-Ok.more (take c.in-Ok.more c.read_front.new.buf) c.in-Err-taken.halt c.loop-count.invariant.progress c.in-Ok.ensures.taken (length-take-le c.in-Ok.more c.read_front.new.buf (omega arith)) (rw c.front.ensures at c.in-Err-taken.ensures.takes)).1

pub loop-count-preserved : goal.loop-count-preserved
loop-count-preserved g c =
    let look = looked g.S.Source.left g.S.Source.faults g.S.Source.ends in
    let piece : List ℕ = take c.in-Ok.more c.read_front.new.buf in
    let buffer : length c.read_front.new.buf ≡ 4096 = omega (arith, c.read_front.auto.buf, c.loop-count.invariant.buffer) in
    let fits = c.in-Ok.ensures.fits in
    let room = c.min-room.ensures in
    let size : length piece ≡ c.in-Ok.more = length-take-le c.in-Ok.more c.read_front.new.buf (omega arith) in
    record {
      progress = Progress-more _ _ (reader_seen g.C.Recorder.view c.take_piece-taken.new.self) _ _ _ _ _ (look c.read_front.new.source) _ c.in-Ok.more piece c.loop-count.invariant.progress c.in-Ok.ensures.taken size c.in-Ok.ensures.unfailed c.read_front.ensures.ends_stay (rw c.front.ensures at c.take_piece-taken.ensures.number) (rw c.front.ensures at c.in-Ok-taken.ensures.takes);
      whole = c.in-Ok-taken.ensures.whole;
      within = omega (arith, c.loop-count-test.true);
      buffer = buffer;
    }

pub returns-in_default-clause-read : goal.returns-in_default-clause-read
returns-in_default-clause-read g c =
    let look = looked g.S.Source.left g.S.Source.faults g.S.Source.ends in
    (ends-fault _ _ _ _ _ _ (look c.read_front.new.source) _ c.loop-count.invariant.progress c.in_default.ensures.untaken c.in_default.ensures.failed c.read_front.ensures.faults_stay).0

pub returns-clause-read : goal.returns-clause-read
returns-clause-read g c =
    let within = c.loop-count.invariant.within in
    (ends-bound _ _ _ _ _ _ _ c.loop-count.invariant.progress (omega (arith, c.loop-count-test.false, within))).0
