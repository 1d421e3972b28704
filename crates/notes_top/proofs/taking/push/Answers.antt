use Rattle.std.proofs.Common.{◌≡◌}
use Rattle.notes_top.specs.declared.stop.Stop.TheVariants as stop
use Rattle.notes_lines.specs.declared.line.SpoolLine.TheVariants as line
use Rattle.notes_top.proofs.Keeping.{Refused-kept}
use Rattle.notes_top.proofs.taking.push.Goals as goal

pub returns-in-Ok-clause-takes : goal.returns-in-Ok-clause-takes
returns-in-Ok-clause-takes g c = λ first stage held at. c.push_opened.ensures.takes first stage held (c.in-Ok.ensures.opened first stage at)

pub returns-in-Err-clause-takes : goal.returns-in-Err-clause-takes
returns-in-Err-clause-takes g c = λ first stage held at.
    Refused-kept g.D.Disk.tells g.D.Disk.reads g.D.Disk.leaves g.D.Disk.faults first stage (line.Push c.args.overwrite c.args.note) c.in-Err.disk c.in-Err.why held (c.in-Err.ensures.refused first stage (line.Push c.args.overwrite c.args.note) at)

pub returns-in-Err-clause-unwritten : goal.returns-in-Err-clause-unwritten
returns-in-Err-clause-unwritten g c = λ same. let is : c.in-Err.why ≡ stop.Write = cc in c.in-Err.ensures.unwritten is
