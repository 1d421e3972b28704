use Rattle.std.proofs.Common.{sym, ◌∙◌}
use Rattle.tool_events.specs.declared.event.Event.TheVariants as event
use Rattle.line_grammar.specs.declared.line.Line.TheVariants as line
use Rattle.line_grammar.specs.Texts.{is_quit}
use Rattle.actors.specs.Operating.{desk_told}
use Rattle.actors.proofs.Operating.{PostsAll-quit, PostsAll-on, PostsAll-err}
use Rattle.actors.proofs.operator.post_command.Goals as goal

pub returns-then-quits : goal.returns-then-quits
returns-then-quits g c =
    let told = desk_told g.D.Desk.posts g.D.Desk.fulls g.D.Desk.wants in
    PostsAll-quit (event.Oper c.args.command) (is_quit (line.Oper c.args.command)) (told c.args.desk.now) (told c.post.new.desk) (sym c.ends_run-quits.ensures ∙ c.if-quits.true) c.in-Ok.ensures

pub returns-else-quits : goal.returns-else-quits
returns-else-quits g c =
    let told = desk_told g.D.Desk.posts g.D.Desk.fulls g.D.Desk.wants in
    PostsAll-on (event.Oper c.args.command) (is_quit (line.Oper c.args.command)) (told c.args.desk.now) (told c.post.new.desk) (sym c.ends_run-quits.ensures ∙ c.if-quits.false) c.in-Ok.ensures

pub returns-in-Err : goal.returns-in-Err
returns-in-Err g c =
    let told = desk_told g.D.Desk.posts g.D.Desk.fulls g.D.Desk.wants in
    PostsAll-err (event.Oper c.args.command) (is_quit (line.Oper c.args.command)) (told c.args.desk.now) (told c.post.new.desk) c.in-Err.end c.in-Err.ensures
