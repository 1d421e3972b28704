use Rattle.std.proofs.Common.{sym, ap, ◌∙◌, option_map}
use Rattle.std.specs.Option.{option_copied}
use Rattle.control_job.specs.Jobs.{has_name}
use Rattle.job_requests.proofs.Scans.{found_here, found_later, found_past}
use Rattle.job_requests.proofs.names.control_id.Goals.{in-Some+else-is_same, in_default}
use Rattle.job_requests.proofs.names.control_id.Goals as goal

pub returns-then-is_same : goal.returns-then-is_same
returns-then-is_same c =
    ap (option_map (λ j. j.name))
    (sym (found_here (has_name c.args.name) c.args.control.now.jobs c.loop-place.place c.in-Some.job.now (sym c.at.ensures ∙ ap option_copied c.in-Some.is) (sym c.is_same.ensures ∙ c.if-is_same.true))
    ∙ c.loop-place.invariant)

pub loop-place-preserved : goal.loop-place-preserved
loop-place-preserved c = elim c.match-at.branch [
  | in-Some+else-is_same w ↦
      sym (found_later (has_name c.args.name) c.args.control.now.jobs c.loop-place.place w.in-Some.job.now (sym c.at.ensures ∙ ap option_copied w.in-Some.is) (sym w.is_same.ensures ∙ w.if-is_same.false))
      ∙ c.loop-place.invariant
  | in_default w ↦
      sym (found_past (has_name c.args.name) c.args.control.now.jobs c.loop-place.place (sym c.at.ensures ∙ ap option_copied w.in_default.is))
      ∙ c.loop-place.invariant
]
