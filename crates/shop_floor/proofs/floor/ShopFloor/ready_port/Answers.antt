use Rattle.std.proofs.Common.{◌+◌, ◌<◌, ◌≤◌, ℕ, Option, Some, length, ◌∙◌, sym, ap, arith}
use Rattle.gem_tables.specs.Names.{table_number}
use Rattle.gem_tables.specs.Machine.{ready_in}
use Rattle.gem_tables.specs.declared.firing.Firing.{Firing}
use Rattle.shop_floor.specs.Floor.{Floor, numbers_from}
use Rattle.shop_floor.specs.Machines.{floor_machines}
use Rattle.shop_floor.proofs.Scans.{ready_here, ready_next, ready_end, number_at, numbers_length}
use Rattle.shop_floor.proofs.floor.ShopFloor.ready_port.Goals as goal

abbrev at : ℕ → Floor → ℕ → Option ℕ
at table f port = ready_in floor_machines table port f

pub returns-in-Some : goal.returns-in-Some
returns-in-Some c =
    let within : c.loop-place.place < length c.args.self.now.ports = omega (arith, c.loop-place-test.true, c.port_count-place-end.ensures.count) in
    ap (λ (x : Firing). Some x) c.of.ensures
    ∙ sym (ready_here (table_number c.args.table) (at (table_number c.args.table) c.args.self.now) (numbers_from 1 c.args.self.now.ports) c.loop-place.place (c.loop-place.place + 1) c.in-Some.row
    (number_at c.args.self.now.ports c.loop-place.place (c.loop-place.place + 1) within (omega arith)) (sym c.port_row.ensures ∙ c.in-Some.is))
    ∙ c.loop-place.invariant

pub loop-place-preserved : goal.loop-place-preserved
loop-place-preserved c =
    let within : c.loop-place.place < length c.args.self.now.ports = omega (arith, c.loop-place-test.true, c.port_count-place-end.ensures.count) in
    sym (ready_next (table_number c.args.table) (at (table_number c.args.table) c.args.self.now) (numbers_from 1 c.args.self.now.ports) c.loop-place.place (c.loop-place.place + 1)
    (number_at c.args.self.now.ports c.loop-place.place (c.loop-place.place + 1) within (omega arith)) (sym c.port_row.ensures ∙ c.in_default.is))
    ∙ c.loop-place.invariant

pub returns : goal.returns
returns c =
    let same = numbers_length c.args.self.now.ports in
    let past : length (numbers_from 1 c.args.self.now.ports) ≤ c.loop-place.place = omega (arith, same, c.loop-place-test.false, c.port_count-place-end.ensures.count) in
    sym (ready_end (table_number c.args.table) (at (table_number c.args.table) c.args.self.now) (numbers_from 1 c.args.self.now.ports) c.loop-place.place past)
    ∙ c.loop-place.invariant
