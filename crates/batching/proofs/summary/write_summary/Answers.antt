use Rattle.std.proofs.Common.{◌≡◌, ℕ, List, ◌∙◌, ap, subst}
use Rattle.outside.specs.Told.{WrittenFront}
use Rattle.history_parts.specs.declared.totals.Totals.{Totals}
use Rattle.batch_model.specs.Summary.{summary, summary_of}
use Rattle.batching.proofs.summary.write_summary.Goals as goal

-- what was written is a front of the summary
pub returns-clause-summed : goal.returns-clause-summed
returns-clause-summed g c =
    let all : c.deref.result.now ≡ summary (g.C.Recorder.view c.args.core.now).config c.args.carriers (g.C.Recorder.view c.args.core.now).history = c.deref.ensures.value ∙ c.in-Ok.ensures ∙ ap (λ (t : Totals). summary_of c.args.carriers t) c.totals.ensures in
    subst (λ (bytes : List ℕ). WrittenFront (g.K.Sink.held c.args.out.now) (g.K.Sink.held c.write_all.new.out) bytes) all c.in-Err.ensures.front
