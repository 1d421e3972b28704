use Rattle.std.proofs.Common.{sym, subst}
use Rattle.actors.specs.Operating.{desk_told}
use Rattle.source_lines.specs.Reads.{LinesRead, source_told}
use Rattle.actors.proofs.ScriptStanding.{Going, Going-open, Going-line, Going-smaller, Done-line, Done-end}
use Rattle.actors.proofs.operator.post_lines.Goals as goal

pub loop-why-init : goal.loop-why-init
loop-why-init g c =
    let desk = desk_told g.D.Desk.posts g.D.Desk.fulls g.D.Desk.wants c.args.desk.now in
    let source = source_told g.S.Source.left g.S.Source.faults g.S.Source.ends c.args.script.now in
    subst (λ (lines : LinesRead). Going desk desk source source lines 1) (sym c.requires) (Going-open desk source)

pub returns-in-Err-clause-did : goal.returns-in-Err-clause-did
returns-in-Err-clause-did g c =
    let desk = desk_told g.D.Desk.posts g.D.Desk.fulls g.D.Desk.wants in
    let source = source_told g.S.Source.left g.S.Source.faults g.S.Source.ends in
    (Done-end c.in-Err.why (desk c.args.desk.now) (desk c.loop-why.desk) (desk c.end_script.new.desk) (source c.args.script.now) (source c.loop-why.script) (source c.next_line.new.source)
    c.loop-why.lines c.next_line.new.self c.loop-why.number c.end_script.result c.loop-why.invariant c.in-Err.ensures (rw c.line.ensures at c.end_script.ensures)).did

pub loop-why-smaller : goal.loop-why-smaller
loop-why-smaller g c =
    let source = source_told g.S.Source.left g.S.Source.faults g.S.Source.ends in
    Going-smaller (source c.loop-why.script) (source c.next_line.new.source) c.loop-why.lines c.next_line.new.self c.in-Ok.ensures

pub returns-in-Err-take_line-clause-did : goal.returns-in-Err-take_line-clause-did
returns-in-Err-take_line-clause-did g c =
    let desk = desk_told g.D.Desk.posts g.D.Desk.fulls g.D.Desk.wants in
    let source = source_told g.S.Source.left g.S.Source.faults g.S.Source.ends in
    (Done-line (desk c.args.desk.now) (desk c.loop-why.desk) (desk c.take_line.new.desk) (source c.args.script.now) (source c.loop-why.script) (source c.next_line.new.source)
    c.loop-why.lines c.next_line.new.self c.loop-why.number c.in-Err-take_line.end c.loop-why.invariant c.in-Ok.ensures (rw c.line-in-loop-why.ensures at c.in-Err-take_line.ensures)).did

pub loop-why-preserved : goal.loop-why-preserved
loop-why-preserved g c =
    let desk = desk_told g.D.Desk.posts g.D.Desk.fulls g.D.Desk.wants in
    let source = source_told g.S.Source.left g.S.Source.faults g.S.Source.ends in
    Going-line (desk c.args.desk.now) (desk c.loop-why.desk) (desk c.take_line.new.desk) (source c.args.script.now) (source c.loop-why.script) (source c.next_line.new.source)
    c.loop-why.lines c.next_line.new.self c.loop-why.number c.loop-why.invariant c.in-Ok.ensures (rw c.line-in-loop-why.ensures at c.in-Ok-take_line.ensures)
