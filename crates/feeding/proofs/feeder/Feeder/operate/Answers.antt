use Rattle.std.proofs.Common.{◌≡◌, true, false, rules}
use Rattle.line_grammar.specs.declared.line.Line.TheVariants as line
use Rattle.line_grammar.specs.Texts.{is_quit}
use Rattle.feeding.specs.Views.{feeder_seen}
use Rattle.feeding.proofs.LineParts.{TreatsLine-oper}
use Rattle.feeding.proofs.feeder.Feeder.operate.Goals as goal

pub returns-then-quits-clause-takes : goal.returns-then-quits-clause-takes
returns-then-quits-clause-takes g c = λ r reading.
    let is : true ≡ is_quit (line.Oper c.args.command) = search rules in
    rw c.quit_behind.ensures (TreatsLine-oper r c.args.command (feeder_seen g.C.Recorder.view c.args.self.now) (g.C.Recorder.view c.input-taken.new.core) _ _ true c.input-taken.result reading is c.input-taken.ensures.goes)

pub returns-else-quits-clause-takes : goal.returns-else-quits-clause-takes
returns-else-quits-clause-takes g c = λ r reading.
    let is : false ≡ is_quit (line.Oper c.args.command) = search rules in
    TreatsLine-oper r c.args.command (feeder_seen g.C.Recorder.view c.args.self.now) (g.C.Recorder.view c.input-taken.new.core) _ _ false c.input-taken.result reading is c.input-taken.ensures.goes
