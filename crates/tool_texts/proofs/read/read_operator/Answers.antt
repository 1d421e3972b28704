use Rattle.std.proofs.Common.{Ok, Err, sym, ◌∙◌}
use Rattle.line_grammar.specs.Lines.{operator_words}
use Rattle.line_grammar.specs.declared.line.LineFault.TheVariants as fault
use Rattle.line_grammar.proofs.Public.{reads_place, operators_clear}
use Rattle.tool_texts.proofs.read.read_operator.Goals as goal

pub returns-in-Ok-clause-reads : goal.returns-in-Ok-clause-reads
returns-in-Ok-clause-reads c = reads_place operator_words operators_clear c.args.words.now c.new.result.rest.now c.new.result.total (Ok c.in-Ok.command) c.new.ensures.total c.new.ensures.rest (sym c.operator.ensures ∙ c.in-Ok.is)

pub returns-in-Err-clause-reads : goal.returns-in-Err-clause-reads
returns-in-Err-clause-reads c = reads_place operator_words operators_clear c.args.words.now c.new.result.rest.now c.new.result.total (Err (fault.Place c.in-Err.place)) c.new.ensures.total c.new.ensures.rest (sym c.operator.ensures ∙ c.in-Err.is)
