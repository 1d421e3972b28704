use Rattle.std.proofs.Common.{[], refl, arith}
use Rattle.outside.proofs.Writing.{Rose-wider, Written-nothing}
use Rattle.spool_format.specs.Format.{Sizes}
use Rattle.notes_lines.specs.declared.line.SpoolLine.TheVariants as line
use Rattle.notes_top.specs.Stages.{Formatted}
use Rattle.notes_top.proofs.Keeping.{DiskAt-formatted}
use Rattle.notes_top.proofs.taking.format.Goals as goal

pub returns-in-Ok-clause-takes : goal.returns-in-Ok-clause-takes
returns-in-Ok-clause-takes g c = λ first stage held at.
    let s : Sizes = record { capacity = c.args.capacity; half = c.args.half } in (
      line.Format c.args.capacity c.args.half,
      [],
      Formatted s,
      refl,
      (refl, refl),
      (refl, DiskAt-formatted g.D.Disk.tells g.D.Disk.reads g.D.Disk.leaves g.D.Disk.faults first c.args.disk c.format.new.disk stage s at c.format.ensures.tells c.format.ensures.faults_stay c.in-Ok.ensures.stands),
      Written-nothing held,
    )

pub returns-in-Err-clause-takes : goal.returns-in-Err-clause-takes
returns-in-Err-clause-takes g c = λ first stage held at. (
  (line.Format c.args.capacity c.args.half, refl, Rose-wider _ _ _ _ at.faults_stay c.format.ensures.faults_stay c.in-Err.ensures.failed (omega arith), tt),
  refl,
)
