use Rattle.std.proofs.Common.{◌≡◌, drop}
use Rattle.item_model.specs.View.{items_of}
use Rattle.message_model.specs.Bodies.{all_of}
use Rattle.body_parts.proofs.Parts.{behind}
use Rattle.job_requests.specs.Forms.{job_form}
use Rattle.job_requests.proofs.attributes.all_of.Given as goal

abbrev pub invariant-loop-item : goal.invariant-loop-item
invariant-loop-item l = all_of (job_form l.form) (items_of l.items) ≡ behind l.jobs (all_of (job_form l.form) (items_of (drop l.item-index l.items)))
