use Rattle.std.proofs.Common.{◌≡◌, sym, ap, ◌∙◌}
use Rattle.item_model.specs.View.{view}
use Rattle.message_model.specs.declared.shop_reply.JobAcknowledge.{JobAcknowledge}
use Rattle.message_model.specs.declared.shop_reply.ShopReply.TheVariants as reply
use Rattle.request_model.specs.Requests.{asked_process, process_error}
use Rattle.gem_model.specs.JobMessages.{jobs_of, acknowledged}
use Rattle.host_messages.specs.declared.done.HostReply.TheVariants as code
use Rattle.host_messages.specs.declared.done.Done.{Done}
use Rattle.core_host.proofs.Asked.{refused, taken, process_free}
use Rattle.core_host.proofs.jobs.process_done.Goals.{in-Some, in-None+in_ok-rows-in-None}
use Rattle.core_host.proofs.jobs.process_done.Goals as goal

pub create_process-requires-clause-free : goal.create_process-requires-clause-free
create_process-requires-clause-free c =
    let spec = asked_process c.args.job.now c.args.carriers.now c.args.recipe.now c.args.start in
    let same : c.process_error-error.result ≡ process_error c.is_local.result spec (view c.args.events.now) (jobs_of c.args.plant.now) =
    c.process_error-error.ensures.error c.args.start ∙ ap (process_error c.is_local.result spec (view c.args.events.now)) c.jobs.ensures in
    process_free c.is_local.result spec (view c.args.events.now) (jobs_of c.args.plant.now) (sym same ∙ c.in-None.is)

pub returns-clause-done : goal.returns-clause-done
returns-clause-done c =
    let g = c.args.plant.now in
    let spec = asked_process c.args.job.now c.args.carriers.now c.args.recipe.now c.args.start in
    let same = c.process_error-error.ensures.error c.args.start ∙ ap (process_error c.is_local.result spec (view c.args.events.now)) c.jobs.ensures ∙ ap (λ local. process_error local spec (view c.args.events.now) (jobs_of g)) c.is_local.ensures in
    let answered = ap (λ (a : JobAcknowledge). code.Shop (reply.S16F12 c.args.job.now a)) c.in_ok-told.ensures.told in
    let told : Done = record { reply = code.Shop (reply.S16F12 c.args.job.now c.in_ok-told.told); rows = c.match-error.rows } in
    elim c.match-error.branch [
      | in-Some w ↦
          refused g c.match-error.plant (λ e. reply.S16F12 c.args.job.now (acknowledged e)) c.process_error-error.result _ w.in-Some.field-0 _ _ told w.in-Some.is same answered w.plant-is
          (w.rows-is ∙ w.none-rows.ensures)
      | in-None+in_ok-rows-in-None w ↦
          taken g c.match-error.plant (λ e. reply.S16F12 c.args.job.now (acknowledged e)) c.process_error-error.result _ _ _ told w.in-None.is same answered
          (w.plant-is ∙ w.in_ok-rows-in-None.ensures.after)
          (w.rows-is ∙ w.in_ok-rows-in-None.ensures.rows)
    ]
