use Rattle.std.proofs.Common.{map, sym, ap, ◌∙◌}
use Rattle.std.specs.Option.{option_copied}
use Rattle.records.proofs.Scans.{take_past}
use Rattle.gem_model.specs.JobMessages.{listed_job}
use Rattle.host_messages.proofs.Few.{listed_step}
use Rattle.host_messages.proofs.jobs.listed_jobs.Goals.{in-Some+in_ok-push, in_default}
use Rattle.host_messages.proofs.jobs.listed_jobs.Goals as goal

pub loop-place-preserved : goal.loop-place-preserved
loop-place-preserved c = elim c.match-get.branch [
  | in-Some+in_ok-push w ↦
      w.jobs-is
      ∙ w.in_ok-push.ensures.ok
      ∙ listed_step c.args.process.now.kept c.loop-place.place w.in-Some.job.now c.loop-place.jobs w.listed_job.result (sym c.get.ensures.value ∙ ap option_copied w.in-Some.is) c.loop-place.invariant w.listed_job.ensures
  | in_default w ↦
      w.jobs-is
      ∙ c.loop-place.invariant
      ∙ ap (map listed_job) (sym (take_past c.args.process.now.kept c.loop-place.place (sym c.get.ensures.value ∙ ap option_copied w.in_default.is)))
]
