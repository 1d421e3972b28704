use Rattle.std.proofs.Common.{sym, ◌∙◌}
use Rattle.floor_model.proofs.Tables.{least_first, least_second, least_third, least_fourth, least_fifth, least_sixth, least_seventh, least_last}
use Rattle.tool_floor.proofs.floor.ToolFloor.least_where.Goals as goal

pub returns-in-Some : goal.returns-in-Some
returns-in-Some c = least_first c.args.self.now c.in-Some.x (sym c.least_of_shop_where.ensures ∙ c.in-Some.is)

pub returns-in-Some-ready_accessing_where : goal.returns-in-Some-ready_accessing_where
returns-in-Some-ready_accessing_where c =
    least_second c.args.self.now c.in-Some-ready_accessing_where.x (sym c.least_of_shop_where.ensures ∙ c.in_default.is) (sym c.ready_accessing_where.ensures ∙ c.in-Some-ready_accessing_where.is)

pub returns-in-Some-ready_location_where : goal.returns-in-Some-ready_location_where
returns-in-Some-ready_location_where c =
    least_third c.args.self.now c.in-Some-ready_location_where.x (sym c.least_of_shop_where.ensures ∙ c.in_default.is) (sym c.ready_accessing_where.ensures ∙ c.in_default-ready_accessing_where.is)
    (sym c.ready_location_where.ensures ∙ c.in-Some-ready_location_where.is)

pub returns-in-Some-ready_transport_where : goal.returns-in-Some-ready_transport_where
returns-in-Some-ready_transport_where c =
    least_fourth c.args.self.now c.in-Some-ready_transport_where.x (sym c.least_of_shop_where.ensures ∙ c.in_default.is) (sym c.ready_accessing_where.ensures ∙ c.in_default-ready_accessing_where.is)
    (sym c.ready_location_where.ensures ∙ c.in_default-ready_location_where.is) (sym c.ready_transport_where.ensures ∙ c.in-Some-ready_transport_where.is)

pub returns-in-Some-ready_processing_where : goal.returns-in-Some-ready_processing_where
returns-in-Some-ready_processing_where c =
    least_fifth c.args.self.now c.in-Some-ready_processing_where.x (sym c.least_of_shop_where.ensures ∙ c.in_default.is) (sym c.ready_accessing_where.ensures ∙ c.in_default-ready_accessing_where.is)
    (sym c.ready_location_where.ensures ∙ c.in_default-ready_location_where.is) (sym c.ready_transport_where.ensures ∙ c.in_default-ready_transport_where.is) (sym c.ready_processing_where.ensures ∙ c.in-Some-ready_processing_where.is)

pub returns-in-Some-ready_process : goal.returns-in-Some-ready_process
returns-in-Some-ready_process c =
    least_sixth c.args.self.now c.in-Some-ready_process.x (sym c.least_of_shop_where.ensures ∙ c.in_default.is) (sym c.ready_accessing_where.ensures ∙ c.in_default-ready_accessing_where.is)
    (sym c.ready_location_where.ensures ∙ c.in_default-ready_location_where.is) (sym c.ready_transport_where.ensures ∙ c.in_default-ready_transport_where.is) (sym c.ready_processing_where.ensures ∙ c.in_default-ready_processing_where.is)
    (sym c.ready_process.ensures ∙ c.in-Some-ready_process.is)

pub returns-in-Some-ready_control : goal.returns-in-Some-ready_control
returns-in-Some-ready_control c =
    least_seventh c.args.self.now c.in-Some-ready_control.x (sym c.least_of_shop_where.ensures ∙ c.in_default.is) (sym c.ready_accessing_where.ensures ∙ c.in_default-ready_accessing_where.is)
    (sym c.ready_location_where.ensures ∙ c.in_default-ready_location_where.is) (sym c.ready_transport_where.ensures ∙ c.in_default-ready_transport_where.is) (sym c.ready_processing_where.ensures ∙ c.in_default-ready_processing_where.is)
    (sym c.ready_process.ensures ∙ c.in_default-ready_process.is) (sym c.ready_control.ensures ∙ c.in-Some-ready_control.is)

pub returns : goal.returns
returns c =
    c.ready_move.ensures
    ∙ least_last c.args.self.now (sym c.least_of_shop_where.ensures ∙ c.in_default.is) (sym c.ready_accessing_where.ensures ∙ c.in_default-ready_accessing_where.is)
    (sym c.ready_location_where.ensures ∙ c.in_default-ready_location_where.is) (sym c.ready_transport_where.ensures ∙ c.in_default-ready_transport_where.is) (sym c.ready_processing_where.ensures ∙ c.in_default-ready_processing_where.is)
    (sym c.ready_process.ensures ∙ c.in_default-ready_process.is) (sym c.ready_control.ensures ∙ c.in_default-ready_control.is)
