use Rattle.line_grammar.proofs.Watch.{other, watch}
use Rattle.line_grammar.proofs.laws.feed_takes_no_watch.Goals as goal

pub returns-clause-other : goal.returns-clause-other
returns-clause-other c = other

pub returns-clause-watch : goal.returns-clause-watch
returns-clause-watch c = watch
