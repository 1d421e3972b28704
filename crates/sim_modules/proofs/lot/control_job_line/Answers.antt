use Rattle.std.proofs.Common.{◌≡◌, IfOk, subst}
use Rattle.item_model.specs.View.{view}
use Rattle.sim_modules.specs.Lot.{asked_header, host_line}
use Rattle.sim_modules.proofs.Bounds.{control_job_bounded}
use Rattle.sim_modules.proofs.lot.control_job_line.Goals as goal

pub host_line-requires : goal.host_line-requires
host_line-requires c = rw (c.in_ok-item.ensures, c.control_job_name.ensures, c.process_job_name.ensures) (control_job_bounded c.args.k)

pub returns : goal.returns
returns c =
    let is = rw (c.control_job_name.ensures, c.process_job_name.ensures) at c.in_ok-item.ensures in
    subst (λ d. IfOk c.host_line.result (λ line. line.items ≡ host_line (asked_header c.args.config.now.device 14 9 c.args.system) d)) is
    (subst (λ h. IfOk c.host_line.result (λ line. line.items ≡ host_line h (view c.in_ok-item.item))) c.asked_header.ensures c.host_line.ensures)
