use Rattle.std.proofs.Common.{◌≡◌, drop, is_some}
use Rattle.item_model.specs.View.{items_of}
use Rattle.message_model.specs.Bodies.{all_of}
use Rattle.job_requests.specs.Forms.{job_form}
use Rattle.job_requests.proofs.attributes.are_all.Given as goal

abbrev pub invariant-loop-item : goal.invariant-loop-item
invariant-loop-item l = is_some (all_of (job_form l.form) (items_of (drop l.item-index l.items))) ≡ is_some (all_of (job_form l.form) (items_of l.items))
