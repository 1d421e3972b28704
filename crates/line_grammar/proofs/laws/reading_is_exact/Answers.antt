use Rattle.line_grammar.specs.Lines.{operator_words, feed_lines, script_lines, all_lines}
use Rattle.line_grammar.proofs.Public.{read_as, operators_clear, feed_lines_clear, script_lines_clear, all_lines_clear}
use Rattle.line_grammar.proofs.laws.reading_is_exact.Goals as goal

pub returns-clause-operator : goal.returns-clause-operator
returns-clause-operator c = read_as operator_words operators_clear

pub returns-clause-feed : goal.returns-clause-feed
returns-clause-feed c = read_as feed_lines feed_lines_clear

pub returns-clause-script : goal.returns-clause-script
returns-clause-script c = read_as script_lines script_lines_clear

pub returns-clause-all : goal.returns-clause-all
returns-clause-all c = read_as all_lines all_lines_clear
