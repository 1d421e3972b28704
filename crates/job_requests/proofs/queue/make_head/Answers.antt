use Rattle.std.proofs.Common.{ℕ, List, is_some, option_map, sym, ap, ◌∙◌}
use Rattle.control_job.specs.Jobs.{JobStore, job_named, waiting_named, order_headed, headed}
use Rattle.job_requests.proofs.Named.{control_same, none_waiting}
use Rattle.job_requests.proofs.queue.make_head.Goals as goal

pub returns-in-Some-clause-queued : goal.returns-in-Some-clause-queued
returns-in-Some-clause-queued c =
    let same = control_same c.args.job c.in-Some.id c.args.jobs.now.control.jobs (sym c.in-Some.is ∙ c.control_id.ensures ∙ ap (λ (s : JobStore). option_map (λ j. j.name) (job_named c.args.job s.jobs)) c.control.ensures) in
    c.head_of_queue.ensures.queued ∙ ap (λ (n : List ℕ). is_some (waiting_named n c.args.jobs.now.control.jobs)) same

pub returns-in-Some-clause-control : goal.returns-in-Some-clause-control
returns-in-Some-clause-control c =
    let same = control_same c.args.job c.in-Some.id c.args.jobs.now.control.jobs (sym c.in-Some.is ∙ c.control_id.ensures ∙ ap (λ (s : JobStore). option_map (λ j. j.name) (job_named c.args.job s.jobs)) c.control.ensures) in
    c.head_of_queue.ensures.control ∙ ap (λ (n : List ℕ). headed n c.args.jobs.now.control) same

pub returns-in-None-clause-queued : goal.returns-in-None-clause-queued
returns-in-None-clause-queued c =
    let none = none_waiting c.args.job c.args.jobs.now.control.jobs (sym c.in-None.is ∙ c.control_id.ensures ∙ ap (λ (s : JobStore). option_map (λ j. j.name) (job_named c.args.job s.jobs)) c.control.ensures) in
    sym (ap is_some none)

pub returns-in-None-clause-control : goal.returns-in-None-clause-control
returns-in-None-clause-control c =
    let store = c.args.jobs.now.control in
    let none = none_waiting c.args.job store.jobs (sym c.in-None.is ∙ c.control_id.ensures ∙ ap (λ (s : JobStore). option_map (λ j. j.name) (job_named c.args.job s.jobs)) c.control.ensures) in
    sym (ap (λ o. record store { order = order_headed o store.order }) none)
