use Rattle.std.proofs.Common.{ℕ, Option, Some, ◌∙◌, sym, ap}
use Rattle.gem_tables.specs.Machine.{ready_in}
use Rattle.gem_tables.specs.declared.firing.Firing.{Firing}
use Rattle.shop_floor.proofs.Scans.{ready_here, ready_next, ready_past}
use Rattle.floor_model.specs.Floor.{ToolFloor}
use Rattle.control_job.specs.Jobs.{numbers_of as control_numbers}
use Rattle.floor_model.specs.Machines.{floor_machines}
use Rattle.floor_model.proofs.Scans.{shown}
use Rattle.floor_model.proofs.JobScans.{control_number, no_control, control_found}
use Rattle.tool_floor.proofs.floor.ToolFloor.ready_control.Goals.{in-Some+in_default-control_row, in_default}
use Rattle.tool_floor.proofs.floor.ToolFloor.ready_control.Goals as goal

abbrev at : ToolFloor → ℕ → Option ℕ
at f n = ready_in floor_machines 15 n f

pub returns-in-Some-control_row : goal.returns-in-Some-control_row
returns-in-Some-control_row c =
    let here = shown c.control_at.ensures c.in-Some.is in
    let found = control_found c.args.self.now.jobs.control c.loop-place.place c.in-Some.job.now c.control_count-place-end.ensures.jobs here in
    ap (λ (x : Firing). Some x) c.of.ensures
    ∙ sym (ready_here 15 (at c.args.self.now) (control_numbers c.args.self.now.jobs.control.jobs) c.loop-place.place c.in-Some.job.now.number c.in-Some-control_row.row
    (control_number c.args.self.now.jobs.control.jobs c.loop-place.place c.in-Some.job.now here) (sym (c.control_row.ensures found) ∙ c.in-Some-control_row.is))
    ∙ c.loop-place.invariant

pub loop-place-preserved : goal.loop-place-preserved
loop-place-preserved c = elim c.match-control_at.branch [
  | in-Some+in_default-control_row w ↦
      let here = shown c.control_at.ensures w.in-Some.is in
      let found = control_found c.args.self.now.jobs.control c.loop-place.place w.in-Some.job.now c.control_count-place-end.ensures.jobs here in
      sym (ready_next 15 (at c.args.self.now) (control_numbers c.args.self.now.jobs.control.jobs) c.loop-place.place w.in-Some.job.now.number
      (control_number c.args.self.now.jobs.control.jobs c.loop-place.place w.in-Some.job.now here) (sym (w.control_row.ensures found) ∙ w.in_default-control_row.is))
      ∙ c.loop-place.invariant
  | in_default w ↦
      sym (ready_past 15 (at c.args.self.now) (control_numbers c.args.self.now.jobs.control.jobs) c.loop-place.place
      (no_control c.args.self.now.jobs.control.jobs c.loop-place.place (shown c.control_at.ensures w.in_default.is)))
      ∙ c.loop-place.invariant
]
