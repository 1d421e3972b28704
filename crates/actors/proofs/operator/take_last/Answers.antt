use Rattle.std.proofs.Common.{inl}
use Rattle.actors.specs.Operating.{desk_told}
use Rattle.actors.proofs.operator.take_last.Goals as goal

pub returns-in-Ok : goal.returns-in-Ok
returns-in-Ok g c = inl (desk_told g.D.Desk.posts g.D.Desk.fulls g.D.Desk.wants c.take_line.new.desk, c.in-Ok.ensures, c.quit.ensures)
