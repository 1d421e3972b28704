use Rattle.std.proofs.Common.{List, map, filter, sym, ap, ◌∙◌}
use Rattle.std.specs.Option.{option_copied}
use Rattle.process_job.specs.declared.job.ProcessJob.{ProcessJob}
use Rattle.records.proofs.Scans.{take_past}
use Rattle.request_model.specs.Requests.{is_queued}
use Rattle.job_requests.proofs.Lists.{queued_step}
use Rattle.job_requests.proofs.cancelling.queued.Goals.{in-Some+in_ok-push_queued, in_default}
use Rattle.job_requests.proofs.cancelling.queued.Goals as goal

pub loop-place-preserved : goal.loop-place-preserved
loop-place-preserved c = elim c.match-get.branch [
  | in-Some+in_ok-push_queued w ↦
      w.names-is
      ∙ w.in_ok-push_queued.ensures
      ∙ queued_step c.args.process.now.kept c.loop-place.place w.in-Some.job.now c.loop-place.names (sym c.get.ensures.value ∙ ap option_copied w.in-Some.is) c.loop-place.invariant
  | in_default w ↦
      w.names-is
      ∙ c.loop-place.invariant
      ∙ ap (λ (js : List ProcessJob). map (λ j. j.id) (filter is_queued js)) (sym (take_past c.args.process.now.kept c.loop-place.place (sym c.get.ensures.value ∙ ap option_copied w.in_default.is)))
]
