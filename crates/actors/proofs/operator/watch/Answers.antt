use Rattle.std.proofs.Common.{refl, subst}
use Rattle.tool_events.specs.declared.event.Event.TheVariants as event
use Rattle.actors.specs.Operating.{DeskTold, Posts, desk_told}
use Rattle.actors.proofs.Operating.{Posts-answered}
use Rattle.actors.proofs.operator.watch.Goals as goal

pub returns-in-Ok : goal.returns-in-Ok
returns-in-Ok g c =
    let told = desk_told g.D.Desk.posts g.D.Desk.fulls g.D.Desk.wants in
    subst (λ (old : DeskTold). Posts (event.Watch c.args.port) old (told c.post.new.self) c.behind_line.result) c.loop.invariant.2
    (rw c.behind_line.ensures (Posts-answered (event.Watch c.args.port) (told c.loop.desk) (told c.post.new.self) (record { 0 = 0 }) c.in-Ok.answer refl c.in-Ok.ensures.recorded c.in-Ok.ensures.fulls c.in-Ok.ensures.wants))
