use Rattle.source_lines.specs.Reads.{source_told}
use Rattle.source_lines.proofs.Reading.{Gathered-open, Gathered-kept, Gathered-piece, NextLine-unkept}
use Rattle.source_lines.proofs.lines.SourceLines.next_line.Goals as goal

pub loop-why-init : goal.loop-why-init
loop-why-init g c = Gathered-open _ _ _ c.requires c.begin_line.ensures

pub returns-in-Err : goal.returns-in-Err
returns-in-Err g c =
    let told = source_told g.S.Source.left g.S.Source.faults g.S.Source.ends in
    NextLine-unkept c.args.self.now c.loop-why.self c.take_kept.new.self (told c.args.source.now) (told c.loop-why.source) c.in-Err.why c.loop-why.invariant c.in-Err.ensures

pub loop-why-preserved : goal.loop-why-preserved
loop-why-preserved g c =
    let told = source_told g.S.Source.left g.S.Source.faults g.S.Source.ends in
    let takes = rw c.in-Ok-false.field-0-test at c.in-Ok-false.ensures in
    let kept = Gathered-kept c.args.self.now c.loop-why.self c.take_kept.new.self (told c.args.source.now) (told c.loop-why.source) c.loop-why.invariant takes in
    Gathered-piece c.args.self.now c.take_kept.new.self c.read_piece.new.self (told c.args.source.now) (told c.loop-why.source) (told c.read_piece.new.source) kept takes.1 c.in-Ok.ensures.line c.in-Ok.ensures.reads
