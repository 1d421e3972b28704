use Rattle.line_grammar.specs.Lines.{feed_lines}
use Rattle.line_grammar.proofs.Public.{reads_place, feed_lines_clear, long_line, gives_fed}
use Rattle.tool_texts.proofs.read.read_feed_line.Goals as goal

pub returns-then-line-gt-LINE_BYTES-clause-line : goal.returns-then-line-gt-LINE_BYTES-clause-line
returns-then-line-gt-LINE_BYTES-clause-line c = long_line c.args.line.now c.if-line-gt-LINE_BYTES.true

pub returns-clause-reads : goal.returns-clause-reads
returns-clause-reads c low =
    reads_place feed_lines feed_lines_clear c.args.line.now c.new.result.rest.now c.new.result.total c.feed.result c.new.ensures.total c.new.ensures.rest c.feed.ensures

pub returns-clause-line : goal.returns-clause-line
returns-clause-line c =
    gives_fed c.args.line.now c.new.result.rest.now c.new.result.total c.feed.result c.if-line-gt-LINE_BYTES.false c.new.ensures.total c.new.ensures.rest c.feed.ensures
