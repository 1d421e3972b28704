use Rattle.notes_lines.specs.Lines.{number_words, kind_words}
use Rattle.notes_lines.proofs.read.push_behind.Goals as goal

pub returns-in-Err : goal.returns-in-Err
unfolding number_words
returns-in-Err c = c.in-Err.ensures.read (λ n. kind_words c.args.overwrite n)
