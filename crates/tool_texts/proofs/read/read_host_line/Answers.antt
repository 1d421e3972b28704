use Rattle.line_grammar.proofs.Public.{long_line}
use Rattle.tool_texts.proofs.Letters.{host_line}
use Rattle.tool_texts.proofs.read.read_host_line.Goals as goal

pub returns-then-line-gt-LINE_BYTES : goal.returns-then-line-gt-LINE_BYTES
returns-then-line-gt-LINE_BYTES c = long_line c.args.line.now c.if-line-gt-LINE_BYTES.true

pub returns : goal.returns
returns c =
    host_line c.args.line.now c.new.result.rest.now c.new.result.total c.host.result c.host.new.bytes.items c.if-line-gt-LINE_BYTES.false c.new.ensures.total c.new.ensures.rest c.requires c.host.ensures
