use Rattle.std.proofs.Common.{◌≤◌, ◌<◌, ◌∙◌, ap, sym, length, List, arith}
use Rattle.substrate.specs.declared.record.LocationRecord.{LocationRecord}
use Rattle.floor_model.specs.Floor.{ToolFloor, change_location}
use Rattle.floor_model.proofs.Scans.{location_set, location_past}
use Rattle.tool_floor.proofs.floor.ToolFloor.put_location.Goals as goal

pub returns-then-number-len : goal.returns-then-number-len
returns-then-number-len c =
    let some : 0 < c.args.number = omega (arith, c.if-number-eq0.false) in
    let within : c.args.number ≤ length c.self.inside.locations.items = omega (arith, c.if-number-len.true, c.len.ensures) in
    ap (λ (ls : List LocationRecord). record { shop = c.self.inside.shop; modules = c.self.inside.modules; places = c.self.inside.places; locations = ls; substrates = c.self.inside.substrates; commands = c.self.inside.commands; jobs = c.self.inside.jobs })
    (location_set c.args.number c.self.inside.locations.items c.args.states some within)
    ∙ ap (λ (f : ToolFloor). record f { locations = change_location c.args.number (λ _. c.args.states) f.locations }) c.self.view_is

pub returns-else-number-len : goal.returns-else-number-len
returns-else-number-len c =
    let same = ap (λ (f : ToolFloor). length f.locations) c.self.view_is in
    let past : length c.args.self.now.locations < c.args.number = omega (arith, c.if-number-len.false, c.len.ensures, same) in
    ap (λ (ls : List LocationRecord). record c.args.self.now { locations = ls }) (sym (location_past c.args.number (λ _. c.args.states) c.args.self.now.locations past))
