use Rattle.std.proofs.Common.{◌≡◌, false, sym, subst}
use Rattle.control_job.specs.Jobs.{JobStore, is_any_active}
use Rattle.tool_jobs.specs.Jobs.{Jobs}
use Rattle.tool_jobs.specs.Together.{AreTogether}
use Rattle.tool_jobs.proofs.Together.{together_row}
use Rattle.tool_jobs.proofs.jobs.Jobs.fire_control.Goals as goal

pub invariant_of-self : goal.invariant_of-self
invariant_of-self c =
    subst (λ (s : JobStore). AreTogether (record { process = c.self.inside.process; control = s })) (sym c.fire.ensures.after)
    (together_row c.args.row c.args.number (record { process = c.self.inside.process; control = c.self.inside.control })
    (subst (λ (w : Jobs). c.args.row ≡ 2 → is_any_active w.control.jobs ≡ false) (sym c.self.view_is) c.requires) c.self.invariant)
