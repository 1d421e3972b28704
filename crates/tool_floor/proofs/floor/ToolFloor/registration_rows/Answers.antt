use Rattle.std.proofs.Common.{◌+◌, List, ◌++◌, drop, ap, ◌∙◌}
use Rattle.gem_tables.specs.declared.firing.Firing.{Firing}
use Rattle.floor_model.specs.Substrates.{registration_rows}
use Rattle.floor_model.proofs.Registrations.{rows_next, rows_past}
use Rattle.floor_model.proofs.Scans.{shown}
use Rattle.tool_floor.proofs.floor.ToolFloor.registration_rows.Goals.{in-Some+in_ok-push_rows, in_default}
use Rattle.tool_floor.proofs.floor.ToolFloor.registration_rows.Goals as goal

pub loop-place-preserved : goal.loop-place-preserved
loop-place-preserved c = elim c.match-substrate_at.branch [
  | in-Some+in_ok-push_rows w ↦
      rw w.rows-is (
      ap (λ (xs : List Firing). xs ++ registration_rows (drop (c.loop-place.place + 1) c.args.self.now.substrates)) w.in_ok-push_rows.ensures
      ∙ rows_next c.loop-place.rows.items c.args.self.now.substrates c.loop-place.place w.in-Some.substrate.now (shown c.substrate_at.ensures w.in-Some.is)
      ∙ c.loop-place.invariant
      )
  | in_default w ↦
      rw w.rows-is (
      rows_past c.loop-place.rows.items c.args.self.now.substrates c.loop-place.place (shown c.substrate_at.ensures w.in_default.is)
      ∙ c.loop-place.invariant
      )
]
