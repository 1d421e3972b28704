use Rattle.line_feeding.specs.Fed.{looked}
use Rattle.top_calls.proofs.NothingHappened.{ran_refused}
use Rattle.top_calls.proofs.commands.run_feed.Goals as goal

pub returns-in-Err-clause-ran : goal.returns-in-Err-clause-ran
returns-in-Err-clause-ran g c = rw c.without_history.ensures (ran_refused c.in-Err.cause _ _ (looked g.S.Source.left g.S.Source.faults g.S.Source.ends c.args.input.now) (g.K.Sink.held c.args.out.now) c.in-Err.ensures.refused)
