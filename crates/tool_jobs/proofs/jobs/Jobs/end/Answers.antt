use Rattle.std.proofs.Common.{◌≡◌, None, sym, ap, ◌∙◌, subst}
use Rattle.process_job.specs.Jobs.{job_numbered as process_numbered}
use Rattle.tool_jobs.specs.Jobs.{Jobs}
use Rattle.tool_jobs.specs.Rows.{ended}
use Rattle.tool_jobs.specs.Together.{AreTogether}
use Rattle.tool_jobs.proofs.Together.{together_ended}
use Rattle.tool_jobs.proofs.Ending.{ended_is, ended_none}
use Rattle.tool_jobs.proofs.jobs.Jobs.end.Goals.{After-forget}
use Rattle.tool_jobs.proofs.jobs.Jobs.end.Goals as goal

-- what is left is what the definition has
left : (c : After-forget) → record { process = c.forget.new.self; control = c.leaves.new.self } ≡ ended c.args.number (record { process = c.self.inside.process; control = c.self.inside.control })
left c = ended_is c.args.number c.in-Some.job.now c.forget.new.self c.leaves.new.self (record { process = c.self.inside.process; control = c.self.inside.control }) c.in-Some.ensures.value c.forget.ensures.after c.leaves.ensures.after

pub invariant_of-self : goal.invariant_of-self
invariant_of-self c = subst AreTogether (sym (left c)) (together_ended c.args.number (record { process = c.self.inside.process; control = c.self.inside.control }) c.self.invariant)

pub returns-in-Some : goal.returns-in-Some
returns-in-Some c = left c ∙ ap (ended c.args.number) c.self.view_is

pub returns-in-None : goal.returns-in-None
returns-in-None c = ended_none c.args.number c.args.self.now (subst (λ (w : Jobs). process_numbered c.args.number w.process.kept ≡ None) c.self.view_is (sym c.in-None.ensures.value))
