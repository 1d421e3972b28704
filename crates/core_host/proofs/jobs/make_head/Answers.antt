use Rattle.std.proofs.Common.{ℕ, List, option_map, sym, ap, ◌∙◌}
use Rattle.control_job.specs.Jobs.{JobStore, job_named, order_headed, headed}
use Rattle.tool_jobs.specs.Jobs.{Jobs}
use Rattle.gem_model.specs.JobMessages.{jobs_of, with_jobs_now}
use Rattle.job_requests.proofs.Named.{control_same, none_waiting}
use Rattle.core_host.proofs.jobs.make_head.Goals as goal

pub returns-in-Some : goal.returns-in-Some
returns-in-Some c =
    let w = jobs_of c.args.plant.now in
    let there = c.control.ensures ∙ ap (λ (v : Jobs). v.control) c.jobs.ensures in
    let same = control_same c.args.job c.in-Some.id w.control.jobs (sym c.in-Some.is ∙ c.control_id.ensures ∙ ap (λ (s : JobStore). option_map (λ j. j.name) (job_named c.args.job s.jobs)) there) in
    c.head_of_queue.ensures.headed ∙ ap (λ (n : List ℕ). with_jobs_now (record w { control = headed n w.control }) c.args.plant.now) same

pub returns-in_default : goal.returns-in_default
returns-in_default c =
    let w = jobs_of c.args.plant.now in
    let there = c.control.ensures ∙ ap (λ (v : Jobs). v.control) c.jobs.ensures in
    let none = none_waiting c.args.job w.control.jobs (sym c.in_default.is ∙ c.control_id.ensures ∙ ap (λ (s : JobStore). option_map (λ j. j.name) (job_named c.args.job s.jobs)) there) in
    sym (ap (λ o. with_jobs_now (record w { control = record w.control { order = order_headed o w.control.order } }) c.args.plant.now) none)
