use Rattle.std.proofs.Common.{ℕ, Option, Some, ◌∙◌, sym, ap}
use Rattle.gem_tables.specs.Machine.{ready_in}
use Rattle.gem_tables.specs.declared.firing.Firing.{Firing}
use Rattle.shop_floor.proofs.Scans.{ready_here, ready_next, ready_past}
use Rattle.floor_model.specs.Floor.{ToolFloor}
use Rattle.floor_model.specs.Machines.{process_numbers, floor_machines}
use Rattle.floor_model.proofs.Scans.{shown}
use Rattle.floor_model.proofs.JobScans.{process_number, no_process, process_found}
use Rattle.tool_floor.proofs.floor.ToolFloor.ready_process.Goals.{in-Some+in_default-process_row, in_default}
use Rattle.tool_floor.proofs.floor.ToolFloor.ready_process.Goals as goal

abbrev at : ToolFloor → ℕ → Option ℕ
at f n = ready_in floor_machines 14 n f

pub returns-in-Some-process_row : goal.returns-in-Some-process_row
returns-in-Some-process_row c =
    let here = shown c.process_at.ensures c.in-Some.is in
    let found = process_found c.args.self.now.jobs.process c.loop-place.place c.in-Some.job.now c.process_count-place-end.ensures.jobs here in
    ap (λ (x : Firing). Some x) c.of.ensures
    ∙ sym (ready_here 14 (at c.args.self.now) (process_numbers c.args.self.now.jobs.process.kept) c.loop-place.place c.in-Some.job.now.number c.in-Some-process_row.row
    (process_number c.args.self.now.jobs.process.kept c.loop-place.place c.in-Some.job.now here) (sym (c.process_row.ensures found) ∙ c.in-Some-process_row.is))
    ∙ c.loop-place.invariant

pub loop-place-preserved : goal.loop-place-preserved
loop-place-preserved c = elim c.match-process_at.branch [
  | in-Some+in_default-process_row w ↦
      let here = shown c.process_at.ensures w.in-Some.is in
      let found = process_found c.args.self.now.jobs.process c.loop-place.place w.in-Some.job.now c.process_count-place-end.ensures.jobs here in
      sym (ready_next 14 (at c.args.self.now) (process_numbers c.args.self.now.jobs.process.kept) c.loop-place.place w.in-Some.job.now.number
      (process_number c.args.self.now.jobs.process.kept c.loop-place.place w.in-Some.job.now here) (sym (w.process_row.ensures found) ∙ w.in_default-process_row.is))
      ∙ c.loop-place.invariant
  | in_default w ↦
      sym (ready_past 14 (at c.args.self.now) (process_numbers c.args.self.now.jobs.process.kept) c.loop-place.place
      (no_process c.args.self.now.jobs.process.kept c.loop-place.place (shown c.process_at.ensures w.in_default.is)))
      ∙ c.loop-place.invariant
]
