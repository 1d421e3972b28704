use Rattle.std.proofs.Common.{inl, List, refl, sym, ◌∙◌, ap}
use Rattle.std.specs.Prelude.{slice_get}
use Rattle.spool.specs.declared.note.Note.{Note}
use Rattle.notes_lines.specs.Printed.{taken_line}
use Rattle.notes_top.proofs.Keeping.{Taken-refused, Taken-kept, Taken-written}
use Rattle.notes_top.proofs.taking.take_opened.Goals as goal

pub returns-in_default-clause-takes : goal.returns-in_default-clause-takes
returns-in_default-clause-takes g c = λ first stage opened. (opened.as_before, inl refl)

pub returns-in-Err-clause-takes : goal.returns-in-Err-clause-takes
returns-in-Err-clause-takes g c = λ first stage opened.
    Taken-refused g.D.Disk.tells g.D.Disk.reads g.D.Disk.leaves g.D.Disk.faults g.D.Disk.moment g.D.Disk.left_since g.met.D.Disk.counts_now first stage c.args.spool c.take.new.self c.take.result c.in-Err.why (g.K.Sink.held c.args.out.now)
    (sym c.stopped.ensures ∙ c.in-Err.is) opened c.take.ensures.tells c.take.ensures.faults_stay (c.take.ensures.any_moment opened.opened) (c.take.ensures.fault opened.opened) c.take.ensures.no_other

pub returns-clause-takes : goal.returns-clause-takes
returns-clause-takes g c = λ first stage opened.
    let line = c.as_bytes.ensures.value ∙ c.in-Ok.ensures ∙ ap (λ (notes : List Note). taken_line (slice_get notes 0)) c.notes.ensures.notes in
    Taken-written g.D.Disk.tells g.D.Disk.reads g.D.Disk.leaves g.D.Disk.faults first stage c.args.spool c.take.new.self c.write_line-written.result (g.K.Sink.held c.args.out.now) (g.K.Sink.held c.write_line-written.new.out) opened
    (Taken-kept g.D.Disk.tells g.D.Disk.reads g.D.Disk.leaves g.D.Disk.faults first stage c.args.spool c.take.new.self c.take.result (sym c.stopped.ensures ∙ c.in-Ok-stopped.is) opened
    c.take.ensures.sizes c.take.ensures.after c.take.ensures.opened c.take.ensures.tells c.take.ensures.faults_stay c.take.ensures.acknowledged)
    (rw line at c.write_line-written.ensures.written) (rw line at c.write_line-written.ensures.front) c.write_line-written.ensures.why
