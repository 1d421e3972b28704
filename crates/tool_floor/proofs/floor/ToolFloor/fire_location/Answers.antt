use Rattle.std.proofs.Common.{sym, ◌∙◌, ap, List}
use Rattle.substrate.specs.Record.{location_fired}
use Rattle.substrate.specs.declared.record.LocationRecord.{LocationRecord}
use Rattle.floor_model.specs.Floor.{change_location}
use Rattle.floor_model.proofs.Tables.{fired_location}
use Rattle.floor_model.proofs.Scans.{location_found, location_missing}
use Rattle.tool_floor.proofs.floor.ToolFloor.fire_location.Goals as goal

pub returns-in-Some : goal.returns-in-Some
returns-in-Some c =
    c.put_location.ensures
    ∙ ap (λ (ls : List LocationRecord). record c.args.self.now { locations = ls })
    (ap (λ (new : LocationRecord). change_location c.args.x.object (λ _. new) c.args.self.now.locations) c.fire.ensures.after
    ∙ location_found c.args.x.object (location_fired c.args.x.row.row) c.args.self.now.locations c.in-Some.location (sym c.location.ensures ∙ c.in-Some.is))
    ∙ sym (fired_location c.args.x c.args.self.now c.requires)

pub returns-in_default : goal.returns-in_default
returns-in_default c =
    sym (fired_location c.args.x c.args.self.now c.requires
    ∙ ap (λ (ls : List LocationRecord). record c.args.self.now { locations = ls }) (location_missing c.args.x.object (location_fired c.args.x.row.row) c.args.self.now.locations (sym c.location.ensures ∙ c.in_default.is)))
