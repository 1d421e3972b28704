-- What the reader is told of the line that ends the run.
use Rattle.std.specs.Prelude.{if◌then◌else◌, Result, Ok, Err}
use Rattle.line_grammar.specs.declared.line.Line.{Line}
use Rattle.line_grammar.specs.Texts.{is_quit}
use Rattle.line_feeding.specs.declared.halt.Halt.{Halt}
use Rattle.line_feeding.specs.declared.halt.Halt.TheVariants as halt

-- what was done in full ends the run
abbrev pub quit_behind : Result (Unit {0}) Halt → Result (Unit {0}) Halt
quit_behind (Ok done) = Err halt.Quit
quit_behind (Err why) = Err why

-- what the reader is told of a line that was taken so: the one that ends the run halts it (this tool's profile, operator
-- words)
abbrev pub told_of : Line → Result (Unit {0}) Halt → Result (Unit {0}) Halt
told_of line taken = if is_quit line then quit_behind taken else taken
