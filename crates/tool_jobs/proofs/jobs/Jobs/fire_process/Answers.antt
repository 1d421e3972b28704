use Rattle.std.proofs.Common.{sym, ap, ◌∙◌, subst}
use Rattle.process_job.specs.Jobs.{JobBook}
use Rattle.tool_jobs.specs.Rows.{process_fired}
use Rattle.tool_jobs.specs.Together.{AreTogether}
use Rattle.tool_jobs.proofs.Together.{together_fired}
use Rattle.tool_jobs.proofs.Ending.{fired_ends, fired_stays}
use Rattle.tool_jobs.proofs.jobs.Jobs.fire_process.Goals as goal

pub invariant_of-self : goal.invariant_of-self
invariant_of-self c =
    subst (λ (b : JobBook). AreTogether (record { process = b; control = c.self.inside.control })) (sym c.fire.ensures.after)
    (together_fired c.args.number c.args.row (record { process = c.self.inside.process; control = c.self.inside.control }) c.self.invariant)

pub returns-then-is_end : goal.returns-then-is_end
returns-then-is_end c = c.end.ensures ∙ fired_ends c.args.number c.args.row c.args.self.now (sym c.is_end.ensures ∙ c.if-is_end.true)

pub returns-else-is_end : goal.returns-else-is_end
returns-else-is_end c =
    fired_stays c.args.number c.args.row c.fire.new.self (record { process = c.self.inside.process; control = c.self.inside.control }) (sym c.is_end.ensures ∙ c.if-is_end.false) c.fire.ensures.after
    ∙ ap (process_fired c.args.row c.args.number) c.self.view_is
