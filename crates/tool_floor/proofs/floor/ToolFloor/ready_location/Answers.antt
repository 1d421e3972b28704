use Rattle.std.proofs.Common.{◌+◌, ◌<◌, ◌≤◌, ℕ, Option, Some, length, ◌∙◌, sym, ap, arith}
use Rattle.gem_tables.specs.declared.firing.Firing.{Firing}
use Rattle.shop_floor.proofs.Scans.{ready_here, ready_next, ready_end}
use Rattle.floor_model.specs.Floor.{ToolFloor, location_at, location_numbers}
use Rattle.floor_model.specs.Machines.{location_ready}
use Rattle.floor_model.proofs.Scans.{number_at, numbers_length}
use Rattle.tool_floor.proofs.floor.ToolFloor.ready_location.Goals.{then-is_changed_at+in_default, else-is_changed_at}
use Rattle.tool_floor.proofs.floor.ToolFloor.ready_location.Goals as goal

abbrev at : ToolFloor → ℕ → Option ℕ
at f number = location_ready number (location_at number f.locations) f

pub returns-in-Some : goal.returns-in-Some
returns-in-Some c =
    let within : c.loop-place.place < length c.args.self.now.locations = omega (arith, c.loop-place-test.true, c.location_count-place-end.ensures) in
    ap (λ (x : Firing). Some x) c.of.ensures
    ∙ sym (ready_here 11 (at c.args.self.now) (location_numbers 1 c.args.self.now.locations) c.loop-place.place (c.loop-place.place + 1) c.in-Some.row
    (number_at c.args.self.now.locations c.loop-place.place (c.loop-place.place + 1) within (omega arith)) (sym c.location_row.ensures ∙ c.in-Some.is))
    ∙ c.loop-place.invariant

pub loop-place-preserved : goal.loop-place-preserved
loop-place-preserved c =
    let within : c.loop-place.place < length c.args.self.now.locations = omega (arith, c.loop-place-test.true, c.location_count-place-end.ensures) in
    let number = number_at c.args.self.now.locations c.loop-place.place (c.loop-place.place + 1) within (omega arith) in
    elim c.if-is_changed_at.branch [
      | then-is_changed_at+in_default w ↦
          sym (ready_next 11 (at c.args.self.now) (location_numbers 1 c.args.self.now.locations) c.loop-place.place (c.loop-place.place + 1) number (sym w.location_row.ensures ∙ w.in_default.is))
          ∙ c.loop-place.invariant
      | else-is_changed_at w ↦
          sym (ready_next 11 (at c.args.self.now) (location_numbers 1 c.args.self.now.locations) c.loop-place.place (c.loop-place.place + 1) number (c.is_changed_at.ensures w.if-is_changed_at.false))
          ∙ c.loop-place.invariant
    ]

pub returns : goal.returns
returns c =
    let same = numbers_length c.args.self.now.locations in
    let past : length (location_numbers 1 c.args.self.now.locations) ≤ c.loop-place.place = omega (arith, same, c.loop-place-test.false, c.location_count-place-end.ensures) in
    sym (ready_end 11 (at c.args.self.now) (location_numbers 1 c.args.self.now.locations) c.loop-place.place past) ∙ c.loop-place.invariant
