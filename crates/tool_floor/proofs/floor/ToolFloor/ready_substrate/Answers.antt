use Rattle.std.proofs.Common.{ℕ, Option, Some, map, ◌∙◌, sym, ap}
use Rattle.gem_tables.specs.Names.{table_number}
use Rattle.gem_tables.specs.Machine.{ready_in}
use Rattle.gem_tables.specs.declared.firing.Firing.{Firing}
use Rattle.shop_floor.proofs.Scans.{ready_here, ready_next, ready_past}
use Rattle.floor_model.specs.Floor.{ToolFloor, number_of}
use Rattle.floor_model.specs.Machines.{floor_machines}
use Rattle.floor_model.proofs.Scans.{shown, substrate_number, no_substrate, numbered_at}
use Rattle.tool_floor.proofs.floor.ToolFloor.ready_substrate.Goals.{in-Some+in_default-substrate_row, in_default}
use Rattle.tool_floor.proofs.floor.ToolFloor.ready_substrate.Goals as goal

abbrev at : ℕ → ToolFloor → ℕ → Option ℕ
at table f n = ready_in floor_machines table n f

pub returns-in-Some-substrate_row : goal.returns-in-Some-substrate_row
returns-in-Some-substrate_row c =
    let here = shown c.substrate_at.ensures c.in-Some.is in
    let found = numbered_at 0 c.args.self.now.places.given c.args.self.now.substrates c.loop-place.place c.in-Some.substrate.now c.substrate_count-place-end.ensures.rise here in
    ap (λ (x : Firing). Some x) c.of.ensures
    ∙ sym (ready_here (table_number c.args.table) (at (table_number c.args.table) c.args.self.now) (map number_of c.args.self.now.substrates) c.loop-place.place c.in-Some.substrate.now.number c.in-Some-substrate_row.row
    (substrate_number c.args.self.now.substrates c.loop-place.place c.in-Some.substrate.now here) (sym (c.substrate_row.ensures found) ∙ c.in-Some-substrate_row.is))
    ∙ c.loop-place.invariant

pub loop-place-preserved : goal.loop-place-preserved
loop-place-preserved c = elim c.match-substrate_at.branch [
  | in-Some+in_default-substrate_row w ↦
      let here = shown c.substrate_at.ensures w.in-Some.is in
      let found = numbered_at 0 c.args.self.now.places.given c.args.self.now.substrates c.loop-place.place w.in-Some.substrate.now c.substrate_count-place-end.ensures.rise here in
      sym (ready_next (table_number c.args.table) (at (table_number c.args.table) c.args.self.now) (map number_of c.args.self.now.substrates) c.loop-place.place w.in-Some.substrate.now.number
      (substrate_number c.args.self.now.substrates c.loop-place.place w.in-Some.substrate.now here) (sym (w.substrate_row.ensures found) ∙ w.in_default-substrate_row.is))
      ∙ c.loop-place.invariant
  | in_default w ↦
      sym (ready_past (table_number c.args.table) (at (table_number c.args.table) c.args.self.now) (map number_of c.args.self.now.substrates) c.loop-place.place
      (no_substrate c.args.self.now.substrates c.loop-place.place (shown c.substrate_at.ensures w.in_default.is)))
      ∙ c.loop-place.invariant
]
