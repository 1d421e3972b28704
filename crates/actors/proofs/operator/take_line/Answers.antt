use Rattle.std.proofs.Common.{◌≡◌, Ok, ap, ◌∙◌}
use Rattle.tool_events.specs.declared.event.Event.TheVariants as event
use Rattle.line_grammar.specs.declared.line.Line.{Line}
use Rattle.line_grammar.specs.declared.line.Line.TheVariants as line
use Rattle.line_grammar.specs.Reading.{script_line_of}
use Rattle.actors.specs.Operating.{desk_told}
use Rattle.actors.proofs.Operating.{PostsAll-one, PostsAll-nothing}
use Rattle.actors.proofs.ScriptStanding.{TakesLine-said}
use Rattle.actors.proofs.operator.take_line.Goals as goal

pub returns-in-Ok-Oper : goal.returns-in-Ok-Oper
returns-in-Ok-Oper g c =
    let told = desk_told g.D.Desk.posts g.D.Desk.fulls g.D.Desk.wants in
    let is : script_line_of c.args.line.now ≡ Ok (line.Oper c.in-Ok-Oper.command) = c.in-Ok-Oper.ensures.line ∙ ap (λ (l : Line). Ok l) c.in-Ok-Oper.field-0-is in
    TakesLine-said (line.Oper c.in-Ok-Oper.command) c.args.line.now c.args.number (told c.args.desk.now) (told c.post_command.new.desk) c.post_command.result is c.post_command.ensures

pub returns-in-Ok-Signal : goal.returns-in-Ok-Signal
returns-in-Ok-Signal g c =
    let told = desk_told g.D.Desk.posts g.D.Desk.fulls g.D.Desk.wants in
    let is : script_line_of c.args.line.now ≡ Ok (line.Signal c.in-Ok-Signal.signal) = c.in-Ok-Signal.ensures.line ∙ ap (λ (l : Line). Ok l) c.in-Ok-Signal.field-0-is in
    TakesLine-said (line.Signal c.in-Ok-Signal.signal) c.args.line.now c.args.number (told c.args.desk.now) (told c.post.new.desk) c.post.result is (PostsAll-one (event.Signal c.in-Ok-Signal.signal) (told c.args.desk.now) (told c.post.new.desk) c.post.result c.post.ensures)

pub returns-in-Ok-Watch : goal.returns-in-Ok-Watch
returns-in-Ok-Watch g c =
    let told = desk_told g.D.Desk.posts g.D.Desk.fulls g.D.Desk.wants in
    let is : script_line_of c.args.line.now ≡ Ok (line.Watch c.in-Ok-Watch.port) = c.in-Ok-Watch.ensures.line ∙ ap (λ (l : Line). Ok l) c.in-Ok-Watch.field-0-is in
    TakesLine-said (line.Watch c.in-Ok-Watch.port) c.args.line.now c.args.number (told c.args.desk.now) (told c.watch.new.desk) c.watch.result is (PostsAll-one (event.Watch c.in-Ok-Watch.port) (told c.args.desk.now) (told c.watch.new.desk) c.watch.result c.watch.ensures)

pub returns-in-Ok-Skip : goal.returns-in-Ok-Skip
returns-in-Ok-Skip g c =
    let told = desk_told g.D.Desk.posts g.D.Desk.fulls g.D.Desk.wants in
    let is : script_line_of c.args.line.now ≡ Ok (line.Skip) = c.in-Ok-Skip.ensures.line ∙ ap (λ (l : Line). Ok l) c.in-Ok-Skip.field-0-is in
    TakesLine-said (line.Skip) c.args.line.now c.args.number (told c.args.desk.now) (told c.args.desk.now) (Ok tt) is (PostsAll-nothing (told c.args.desk.now))

pub returns-in-Ok-Up : goal.returns-in-Ok-Up
returns-in-Ok-Up g c =
    let told = desk_told g.D.Desk.posts g.D.Desk.fulls g.D.Desk.wants in
    let is : script_line_of c.args.line.now ≡ Ok (line.Up) = c.in-Ok-Up.ensures.line ∙ ap (λ (l : Line). Ok l) c.in-Ok-Up.field-0-is in
    TakesLine-said (line.Up) c.args.line.now c.args.number (told c.args.desk.now) (told c.args.desk.now) (Ok tt) is (PostsAll-nothing (told c.args.desk.now))

pub returns-in-Ok-Down : goal.returns-in-Ok-Down
returns-in-Ok-Down g c =
    let told = desk_told g.D.Desk.posts g.D.Desk.fulls g.D.Desk.wants in
    let is : script_line_of c.args.line.now ≡ Ok (line.Down) = c.in-Ok-Down.ensures.line ∙ ap (λ (l : Line). Ok l) c.in-Ok-Down.field-0-is in
    TakesLine-said (line.Down) c.args.line.now c.args.number (told c.args.desk.now) (told c.args.desk.now) (Ok tt) is (PostsAll-nothing (told c.args.desk.now))

pub returns-in-Ok-Moment : goal.returns-in-Ok-Moment
returns-in-Ok-Moment g c =
    let told = desk_told g.D.Desk.posts g.D.Desk.fulls g.D.Desk.wants in
    let is : script_line_of c.args.line.now ≡ Ok (line.Moment c.in-Ok-Moment.field-0-0) = c.in-Ok-Moment.ensures.line ∙ ap (λ (l : Line). Ok l) c.in-Ok-Moment.field-0-is in
    TakesLine-said (line.Moment c.in-Ok-Moment.field-0-0) c.args.line.now c.args.number (told c.args.desk.now) (told c.args.desk.now) (Ok tt) is (PostsAll-nothing (told c.args.desk.now))

pub returns-in-Ok-Bytes : goal.returns-in-Ok-Bytes
returns-in-Ok-Bytes g c =
    let told = desk_told g.D.Desk.posts g.D.Desk.fulls g.D.Desk.wants in
    let is : script_line_of c.args.line.now ≡ Ok (line.Bytes c.in-Ok-Bytes._bytes) = c.in-Ok-Bytes.ensures.line ∙ ap (λ (l : Line). Ok l) c.in-Ok-Bytes.field-0-is in
    TakesLine-said (line.Bytes c.in-Ok-Bytes._bytes) c.args.line.now c.args.number (told c.args.desk.now) (told c.args.desk.now) (Ok tt) is (PostsAll-nothing (told c.args.desk.now))
