use Rattle.std.proofs.Common.{◌∙◌, sym}
use Rattle.records.proofs.Scans.{any_here, any_next, any_past}
use Rattle.floor_model.specs.Naming.{module_names}
use Rattle.tool_floor.proofs.floor.ToolFloor.is_named.Goals.{in-Some+else-module_names, in_default}
use Rattle.tool_floor.proofs.floor.ToolFloor.is_named.Goals as goal

pub returns-then-module_names : goal.returns-then-module_names
returns-then-module_names c =
    sym (any_here (module_names c.args.sub) c.args.self.now.modules c.loop-place.place c.in-Some.module (sym c.module_at.ensures ∙ c.in-Some.is) (sym c.module_names.ensures ∙ c.if-module_names.true))
    ∙ c.loop-place.invariant

pub loop-place-preserved : goal.loop-place-preserved
loop-place-preserved c = elim c.match-module_at.branch [
  | in-Some+else-module_names w ↦
      sym (any_next (module_names c.args.sub) c.args.self.now.modules c.loop-place.place w.in-Some.module (sym c.module_at.ensures ∙ w.in-Some.is) (sym w.module_names.ensures ∙ w.if-module_names.false))
      ∙ c.loop-place.invariant
  | in_default w ↦
      sym (any_past (module_names c.args.sub) c.args.self.now.modules c.loop-place.place (sym c.module_at.ensures ∙ w.in_default.is))
      ∙ c.loop-place.invariant
]
