use Rattle.std.proofs.Common.{◌≡◌, None, sym, subst}
use Rattle.tool_jobs.specs.Jobs.{Jobs}
use Rattle.tool_jobs.specs.Creating.{control_fault}
use Rattle.tool_jobs.proofs.Ending.{added_by}
use Rattle.tool_jobs.proofs.jobs.Jobs.add_control.Goals as goal

pub invariant_of-self : goal.invariant_of-self
invariant_of-self c =
    added_by c.args.id c.args.jobs.now c.args.auto c.create.new.self (record { process = c.self.inside.process; control = c.self.inside.control }) c.create.result
    (subst (λ (w : Jobs). control_fault c.args.id c.args.jobs.now w ≡ None) (sym c.self.view_is) c.requires)
    c.create.ensures.created c.create.ensures.unchanged c.self.invariant
