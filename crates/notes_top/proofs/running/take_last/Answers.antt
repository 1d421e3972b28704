use Rattle.std.proofs.Common.{Result, sym, ◌∙◌, ap}
use Rattle.notes_top.specs.Ending.{last_cause}
use Rattle.notes_top.specs.declared.stop.Stop.{Stop}
use Rattle.notes_top.proofs.running.take_last.Goals as goal

pub returns-in-Ok-clause-ends : goal.returns-in-Ok-clause-ends
returns-in-Ok-clause-ends g c = λ first stage at. record {
  taken = c.take_line-kept.result.1;
  takes = c.take_line-kept.ensures.takes first stage at;
  why_is = sym (ap (λ (r : Result (Unit {0}) Stop). last_cause r c.args.number) c.in-Ok.is);
}

pub returns-in-Err-clause-ends : goal.returns-in-Err-clause-ends
returns-in-Err-clause-ends g c = λ first stage at. record {
  taken = c.take_line-kept.result.1;
  takes = c.take_line-kept.ensures.takes first stage at;
  why_is = c.cause_of.ensures ∙ sym (ap (λ (r : Result (Unit {0}) Stop). last_cause r c.args.number) c.in-Err.is);
}
