use Rattle.text_lines.proofs.Lines.{ends}
use Rattle.text_lines.proofs.ends.line_end.Goals as goal

pub returns-clause-feed : goal.returns-clause-feed
returns-clause-feed c = (ends c.args.bytes.now c.memchr.result c.memchr.ensures).feed

pub returns-clause-line : goal.returns-clause-line
returns-clause-line c = (ends c.args.bytes.now c.memchr.result c.memchr.ensures).line

pub returns-clause-none : goal.returns-clause-none
returns-clause-none c = (ends c.args.bytes.now c.memchr.result c.memchr.ensures).none
