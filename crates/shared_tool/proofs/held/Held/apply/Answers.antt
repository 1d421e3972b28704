use Rattle.std.proofs.Common.{sym, subst}
use Rattle.tool_events.specs.Configs.{IsConfig}
use Rattle.gem_model.specs.State.{opening}
use Rattle.shared_tool.specs.Laws.{to_legal}
use Rattle.shared_tool.proofs.Holding.{records}
use Rattle.shared_tool.proofs.held.Held.apply.Goals as goal

pub invariant_of-self-2 : goal.invariant_of-self-2
invariant_of-self-2 g c =
    let h = c.args.self.now in
    let k = g.C.Recorder.view c.apply.new.self in
    let legal = to_legal (opening k.config) k.history k.state c.apply.ensures.recorded.run in
    record { bounded = subst IsConfig (sym c.apply.ensures.config) h.bounded; legal = legal.0; there = legal.1 }

pub returns-clause-entry : goal.returns-clause-entry
returns-clause-entry g c =
    let h = c.args.self.now in
    records (g.C.Recorder.view h.core) (g.C.Recorder.view c.apply.new.self) c.args.seat c.args.at c.args.event c.apply.result h.legal h.there c.apply.ensures.config c.apply.ensures.step c.apply.ensures.entry
