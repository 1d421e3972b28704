use Rattle.std.proofs.Common.{sym}
use Rattle.source_lines.proofs.Reading.{kept_rest}
use Rattle.source_lines.proofs.lines.SourceLines.push_kept.Goals as goal

pub returns-in-Ok-clause-kept : goal.returns-in-Ok-clause-kept
returns-in-Ok-clause-kept c =
    let within = rw (← c.self.view_is) at c.requires.within in
    rw (← c.self.view_is) (sym (kept_rest c.self.inside.piece c.self.inside.at c.self.inside.end c.args.used within))
