use Rattle.std.proofs.Common.{◌∙◌, sym}
use Rattle.floor_model.proofs.Tables.{fired_move}
use Rattle.floor_model.proofs.Moves.{gives, few_row}
use Rattle.tool_floor.proofs.floor.ToolFloor.fire_move.Goals as goal

pub returns-in_ok-issue-clause-ok : goal.returns-in_ok-issue-clause-ok
returns-in_ok-issue-clause-ok c =
    c.in_ok-issue.ensures.ok
    ∙ sym (gives c.args.x.row.row c.args.x.object c.args.self.now (few_row c.args.x.row.row c.if-x-ge1.true c.if-x-le4.true))
    ∙ sym (fired_move c.args.x c.args.self.now c.requires.table)
