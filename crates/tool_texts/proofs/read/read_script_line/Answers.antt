use Rattle.std.proofs.Common.{Ok, Err, sym, ◌∙◌}
use Rattle.line_grammar.specs.Lines.{script_lines}
use Rattle.line_grammar.specs.declared.line.LineFault.TheVariants as fault
use Rattle.line_grammar.proofs.Public.{reads_place, script_lines_clear}
use Rattle.tool_texts.proofs.ScriptLines.{long_scripted, gives_scripted}
use Rattle.tool_texts.proofs.read.read_script_line.Goals as goal

pub returns-then-line-gt-LINE_BYTES-clause-line : goal.returns-then-line-gt-LINE_BYTES-clause-line
returns-then-line-gt-LINE_BYTES-clause-line c = long_scripted c.args.line.now c.if-line-gt-LINE_BYTES.true

pub returns-in-Ok-clause-reads : goal.returns-in-Ok-clause-reads
returns-in-Ok-clause-reads c low = reads_place script_lines script_lines_clear c.args.line.now c.new.result.rest.now c.new.result.total (Ok c.in-Ok.says) c.new.ensures.total c.new.ensures.rest (sym c.scripted.ensures ∙ c.in-Ok.is)

pub returns-in-Err-clause-reads : goal.returns-in-Err-clause-reads
returns-in-Err-clause-reads c low = reads_place script_lines script_lines_clear c.args.line.now c.new.result.rest.now c.new.result.total (Err (fault.Place c.in-Err.place)) c.new.ensures.total c.new.ensures.rest (sym c.scripted.ensures ∙ c.in-Err.is)

pub returns-in-Ok-clause-line : goal.returns-in-Ok-clause-line
returns-in-Ok-clause-line c = gives_scripted c.args.line.now c.new.result.rest.now c.new.result.total (Ok c.in-Ok.says) c.if-line-gt-LINE_BYTES.false c.new.ensures.total c.new.ensures.rest (sym c.scripted.ensures ∙ c.in-Ok.is)

pub returns-in-Err-clause-line : goal.returns-in-Err-clause-line
returns-in-Err-clause-line c = gives_scripted c.args.line.now c.new.result.rest.now c.new.result.total (Err (fault.Place c.in-Err.place)) c.if-line-gt-LINE_BYTES.false c.new.ensures.total c.new.ensures.rest (sym c.scripted.ensures ∙ c.in-Err.is)
