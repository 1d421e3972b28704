use Rattle.std.proofs.Common.{refl}
use Rattle.actors.specs.Operating.{desk_told}
use Rattle.actors.proofs.Operating.{Posts-answered}
use Rattle.actors.proofs.operator.post.Goals as goal

pub returns-in-Ok : goal.returns-in-Ok
returns-in-Ok g c =
    let told = desk_told g.D.Desk.posts g.D.Desk.fulls g.D.Desk.wants in
    rw c.behind_line.ensures (Posts-answered c.args.event (told c.args.desk.now) (told c.post.new.self) (record { 0 = 0 }) c.in-Ok.answer refl c.in-Ok.ensures.recorded c.in-Ok.ensures.fulls c.in-Ok.ensures.wants)
