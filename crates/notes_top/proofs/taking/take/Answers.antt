use Rattle.std.proofs.Common.{◌≡◌}
use Rattle.notes_top.specs.declared.stop.Stop.TheVariants as stop
use Rattle.notes_lines.specs.declared.line.SpoolLine.TheVariants as line
use Rattle.notes_top.proofs.Keeping.{Refused-kept}
use Rattle.notes_top.proofs.taking.take.Goals as goal

pub returns-in-Ok-clause-takes : goal.returns-in-Ok-clause-takes
returns-in-Ok-clause-takes g c = λ first stage at. c.take_opened.ensures.takes first stage (c.in-Ok.ensures.opened first stage at)

pub returns-in-Err-clause-takes : goal.returns-in-Err-clause-takes
returns-in-Err-clause-takes g c = λ first stage at.
    Refused-kept g.D.Disk.tells g.D.Disk.reads g.D.Disk.leaves g.D.Disk.faults first stage line.Take c.in-Err.disk c.in-Err.why (g.K.Sink.held c.args.out.now) (c.in-Err.ensures.refused first stage line.Take at)

pub returns-in-Err-clause-failed : goal.returns-in-Err-clause-failed
returns-in-Err-clause-failed g c = λ same. let is : c.in-Err.why ≡ stop.Write = cc in absurd (c.in-Err.ensures.unwritten is)
