use Rattle.std.proofs.Common.{◌∙◌, ap, sym, List}
use Rattle.std.specs.Option.{option_copied}
use Rattle.item_model.specs.Data.{Data, added}
use Rattle.process_job.specs.Listing.{job_items, joined}
use Rattle.process_job.specs.declared.job.ProcessJob.{ProcessJob}
use Rattle.process_job.proofs.Items.{joined_none, next_item}
use Rattle.records.proofs.Scans.{take_past}
use Rattle.process_job.proofs.jobs.ProcessJobs.push_jobs.Goals.{in-Some+in_ok-job_item+in_ok-push, in_default}
use Rattle.process_job.proofs.jobs.ProcessJobs.push_jobs.Goals as goal

pub loop-place-init : goal.loop-place-init
loop-place-init c = sym (joined_none c.args.out.now)

pub loop-place-preserved : goal.loop-place-preserved
loop-place-preserved c = elim c.match-get.branch [
  | in-Some+in_ok-job_item+in_ok-push w ↦
      next_item c.args.self.now.kept c.loop-place.place w.in-Some.job.now c.args.out.now c.loop-place.out c.match-get.out (sym c.get.ensures.value ∙ ap option_copied w.in-Some.is) c.loop-place.invariant
      (w.out-is ∙ w.in_ok-push.ensures.ok ∙ ap (λ (d : Data). added c.loop-place.out d) w.in_ok-job_item.ensures)
  | in_default w ↦
      w.out-is
      ∙ c.loop-place.invariant
      ∙ ap (λ (js : List ProcessJob). joined c.args.out.now (job_items js)) (sym (take_past c.args.self.now.kept c.loop-place.place (sym c.get.ensures.value ∙ ap option_copied w.in_default.is)))
]
