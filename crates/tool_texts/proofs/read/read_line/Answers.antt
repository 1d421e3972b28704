use Rattle.line_grammar.specs.Lines.{all_lines}
use Rattle.line_grammar.proofs.Public.{reads_place, all_lines_clear}
use Rattle.tool_texts.proofs.read.read_line.Goals as goal

pub returns-clause-reads : goal.returns-clause-reads
returns-clause-reads c low =
    reads_place all_lines all_lines_clear c.args.line.now c.new.result.rest.now c.new.result.total c.any.result c.new.ensures.total c.new.ensures.rest c.any.ensures
