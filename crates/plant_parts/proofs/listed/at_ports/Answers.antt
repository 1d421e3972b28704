use Rattle.std.proofs.Common.{◌≡◌, ◌∷◌, [], ◌+◌, ◌++◌, ◌∙◌, ℕ, List, drop, ap}
use Rattle.gem_tables.specs.Names.{table_number}
use Rattle.gem_tables.specs.Table.{firing}
use Rattle.gem_tables.specs.declared.firing.Firing.{Firing}
use Rattle.shop_floor.specs.Requests.{at_ports}
use Rattle.plant_parts.proofs.AtPorts.{ports_more, ports_all}
use Rattle.plant_parts.proofs.listed.at_ports.Goals as goal

pub loop-port-init : goal.loop-port-init
loop-port-init c = ap (λ (rows : List Firing). rows ++ at_ports (table_number c.args.table) c.args.row c.args.ports.now) c.new-rows.ensures.items

pub loop-port-preserved : goal.loop-port-preserved
loop-port-preserved c =
    let rest = at_ports (table_number c.args.table) c.args.row (drop (c.loop-port.port-index + 1) c.args.ports.now) in
    ap (λ (rows : List Firing). rows ++ rest) c.in_ok-push.ensures.items
    ∙ ap (λ (x : Firing). (c.loop-port.rows.items ++ x ∷ []) ++ rest) (c.of.ensures ∙ ap (λ (p : ℕ). firing (table_number c.args.table) p c.args.row) c.from.ensures)
    ∙ ports_more (table_number c.args.table) c.args.row c.loop-port.rows.items c.args.ports.now c.loop-port.port-index c.loop-port-test.true
    ∙ c.loop-port.invariant

pub returns : goal.returns
returns c = ports_all (table_number c.args.table) c.args.row c.loop-port.rows.items c.args.ports.now c.loop-port.port-index c.loop-port-test.false c.loop-port.invariant
