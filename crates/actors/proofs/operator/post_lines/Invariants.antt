use Rattle.std.proofs.Common.{◌+◌, ◌-◌, length}
use Rattle.actors.specs.Operates.{script_bytes}
use Rattle.actors.specs.Operating.{desk_told}
use Rattle.source_lines.specs.Reads.{source_told}
use Rattle.actors.proofs.ScriptStanding.{Going}
use Rattle.actors.proofs.operator.post_lines.Given as goal

abbrev pub invariant-loop-why : goal.invariant-loop-why
invariant-loop-why g l =
    let desk = desk_told g.D.Desk.posts g.D.Desk.fulls g.D.Desk.wants in
    let source = source_told g.S.Source.left g.S.Source.faults g.S.Source.ends in
    Going (desk l.fn.desk) (desk l.desk) (source l.fn.script) (source l.script) l.lines l.number

abbrev pub decreases-loop-why : goal.decreases-loop-why
decreases-loop-why g l = (script_bytes - l.lines.count) + length l.lines.kept
