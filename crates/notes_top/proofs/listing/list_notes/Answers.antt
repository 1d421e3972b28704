use Rattle.std.proofs.Common.{take, ◌∙◌, add-one}
use Rattle.outside.proofs.Writing.{Written-more, WrittenFront-all}
use Rattle.notes_lines.specs.Printed.{note_line, listed}
use Rattle.notes_top.proofs.Listed.{listed-next, listed-front, listed-front-next, on_err}
use Rattle.notes_top.proofs.listing.list_notes.Goals as goal

pub returns-in_default-clause-front : goal.returns-in_default-clause-front
returns-in_default-clause-front g c =
    listed-front (g.K.Sink.held c.args.out.now) (g.K.Sink.held c.loop-index.out) c.args.queue.now.notes c.loop-index.index (WrittenFront-all _ _ _ c.loop-index.invariant.written)

pub loop-index-preserved : goal.loop-index-preserved
loop-index-preserved g c =
    let line = c.as_bytes.ensures.value ∙ c.in-Ok.ensures in
    let more = Written-more _ _ _ (listed (take c.loop-index.index c.args.queue.now.notes)) (note_line c.note_at.result.now) c.loop-index.invariant.written (rw line at c.in_ok-write_line.ensures.written) in
    record {
      written = rw (add-one c.loop-index.index, listed-next c.args.queue.now.notes c.loop-index.index c.note_at.result.now c.note_at.ensures) more;
      faults = c.in_ok-write_line.ensures.unfailed.0 ∙ c.loop-index.invariant.faults;
      refusals = c.in_ok-write_line.ensures.unfailed.1 ∙ c.loop-index.invariant.refusals;
    }

pub returns-in_err-write_line-clause-front : goal.returns-in_err-write_line-clause-front
returns-in_err-write_line-clause-front g c =
    let line = c.as_bytes.ensures.value ∙ c.in-Ok.ensures in
    on_err c.from_residual.result
    (listed-front-next (g.K.Sink.held c.args.out.now) (g.K.Sink.held c.loop-index.out) (g.K.Sink.held c.write_line.new.out) c.args.queue.now.notes c.loop-index.index c.note_at.result.now c.note_at.ensures
    c.loop-index.invariant.written (rw line at c.in_err-write_line.ensures.front))
