use Rattle.std.proofs.Common.{◌-◌}
use Rattle.source_lines.specs.Limits.{source_bytes}
use Rattle.source_lines.specs.Reads.{source_told}
use Rattle.source_lines.proofs.Reading.{Gathered}
use Rattle.source_lines.proofs.lines.SourceLines.next_line.Given as goal

abbrev pub invariant-loop-why : goal.invariant-loop-why
invariant-loop-why g l =
    let told = source_told g.S.Source.left g.S.Source.faults g.S.Source.ends in
    Gathered l.fn.self l.self (told l.fn.source) (told l.source)

abbrev pub decreases-loop-why : goal.decreases-loop-why
decreases-loop-why g l = source_bytes - l.self.count
