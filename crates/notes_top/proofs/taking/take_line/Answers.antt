use Rattle.std.proofs.Common.{ℕ, [], inl, Result, Ok, Err, refl, sym, ◌∙◌, subst}
use Rattle.outside.proofs.Writing.{Written-nothing}
use Rattle.notes_lines.specs.declared.line.SpoolLine.{SpoolLine}
use Rattle.notes_lines.specs.declared.line.SpoolLine.TheVariants as line
use Rattle.notes_top.specs.Keeping.{TakesLine}
use Rattle.notes_top.proofs.Keeping.{KeptAt-disk, said, ok_line}
use Rattle.notes_top.proofs.taking.take_line.Goals as goal

pub returns-in-Ok-Skip-clause-takes : goal.returns-in-Ok-Skip-clause-takes
returns-in-Ok-Skip-clause-takes g c = λ first stage at.
    (line.Skip, [], stage, said c.is_open.result stage c.args.line.now (Ok line.Skip) (c.is_open.ensures first stage at) (c.in-Ok-Skip.ensures.says ∙ ok_line c.in-Ok-Skip.field-0-is), (refl, refl), at, Written-nothing (g.K.Sink.held c.args.out.now))

pub returns-in-Ok-Format-clause-takes : goal.returns-in-Ok-Format-clause-takes
returns-in-Ok-Format-clause-takes g c = λ first stage at.
    let says = line.Format c.in-Ok-Format.capacity c.in-Ok-Format.half in
    let held = g.K.Sink.held c.args.out.now in
    subst (λ (r : Result SpoolLine ℕ). TakesLine g.D.Disk.tells g.D.Disk.reads g.D.Disk.leaves g.D.Disk.faults first stage r c.format.result.0 c.format.result.1 held held)
    (sym (said c.is_open.result stage c.args.line.now (Ok says) (c.is_open.ensures first stage at) (c.in-Ok-Format.ensures.says ∙ ok_line c.in-Ok-Format.field-0-is))) (c.format.ensures.takes first stage held (rw c.into_disk.ensures (KeptAt-disk g.D.Disk.tells g.D.Disk.reads g.D.Disk.leaves g.D.Disk.faults first stage c.args.kept at)))

pub returns-in-Ok-Push-clause-takes : goal.returns-in-Ok-Push-clause-takes
returns-in-Ok-Push-clause-takes g c = λ first stage at.
    let says = line.Push c.in-Ok-Push.overwrite c.in-Ok-Push.note in
    let held = g.K.Sink.held c.args.out.now in
    subst (λ (r : Result SpoolLine ℕ). TakesLine g.D.Disk.tells g.D.Disk.reads g.D.Disk.leaves g.D.Disk.faults first stage r c.push.result.0 c.push.result.1 held held)
    (sym (said c.is_open.result stage c.args.line.now (Ok says) (c.is_open.ensures first stage at) (c.in-Ok-Push.ensures.says ∙ ok_line c.in-Ok-Push.field-0-is))) (c.push.ensures.takes first stage held at)

pub returns-in-Ok-Take-clause-takes : goal.returns-in-Ok-Take-clause-takes
returns-in-Ok-Take-clause-takes g c = λ first stage at.
    subst (λ (r : Result SpoolLine ℕ). TakesLine g.D.Disk.tells g.D.Disk.reads g.D.Disk.leaves g.D.Disk.faults first stage r c.take.result.0 c.take.result.1 (g.K.Sink.held c.args.out.now) (g.K.Sink.held c.take.new.out))
    (sym (said c.is_open.result stage c.args.line.now (Ok line.Take) (c.is_open.ensures first stage at) (c.in-Ok-Take.ensures.says ∙ ok_line c.in-Ok-Take.field-0-is))) (c.take.ensures.takes first stage at)

pub returns-in-Ok-List-clause-takes : goal.returns-in-Ok-List-clause-takes
returns-in-Ok-List-clause-takes g c = λ first stage at.
    subst (λ (r : Result SpoolLine ℕ). TakesLine g.D.Disk.tells g.D.Disk.reads g.D.Disk.leaves g.D.Disk.faults first stage r c.list.result.0 c.list.result.1 (g.K.Sink.held c.args.out.now) (g.K.Sink.held c.list.new.out))
    (sym (said c.is_open.result stage c.args.line.now (Ok line.List) (c.is_open.ensures first stage at) (c.in-Ok-List.ensures.says ∙ ok_line c.in-Ok-List.field-0-is))) (c.list.ensures.takes first stage at)

pub returns-in-Err-Place-clause-takes : goal.returns-in-Err-Place-clause-takes
returns-in-Err-Place-clause-takes g c = λ first stage at. rw c.in-Err-Place.field-0-is
    ((said c.is_open.result stage c.args.line.now (Err c.in-Err-Place.place) (c.is_open.ensures first stage at) (rw c.in-Err-Place.field-0-is at c.in-Err-Place.ensures.says), KeptAt-disk g.D.Disk.tells g.D.Disk.reads g.D.Disk.leaves g.D.Disk.faults first stage c.args.kept at), refl)

pub returns-in-Err-NoMemory-clause-takes : goal.returns-in-Err-NoMemory-clause-takes
returns-in-Err-NoMemory-clause-takes g c = λ first stage at. (KeptAt-disk g.D.Disk.tells g.D.Disk.reads g.D.Disk.leaves g.D.Disk.faults first stage c.args.kept at, inl refl)

pub returns-in-Ok-Format-clause-failed : goal.returns-in-Ok-Format-clause-failed
returns-in-Ok-Format-clause-failed g c = λ same. absurd (c.format.ensures.unwritten same)

pub returns-in-Ok-Push-clause-failed : goal.returns-in-Ok-Push-clause-failed
returns-in-Ok-Push-clause-failed g c = λ same. absurd (c.push.ensures.unwritten same)
