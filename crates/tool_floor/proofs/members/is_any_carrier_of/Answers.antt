use Rattle.std.proofs.Common.{◌∙◌, sym, option_copied, ap}
use Rattle.records.proofs.Scans.{any_here, any_next, any_past}
use Rattle.floor_model.specs.Jobs.{is_carrier_of}
use Rattle.tool_floor.proofs.members.is_any_carrier_of.Goals.{in-Some+else-is_carrier_of, in_default}
use Rattle.tool_floor.proofs.members.is_any_carrier_of.Goals as goal

pub returns-then-is_carrier_of : goal.returns-then-is_carrier_of
returns-then-is_carrier_of c =
    sym (any_here (is_carrier_of c.args.name c.args.number) c.args.shop.now.carriers c.loop-place.place c.in-Some.carrier.now (sym c.carrier.ensures ∙ ap option_copied c.in-Some.is) (sym c.is_carrier_of.ensures ∙ c.if-is_carrier_of.true))
    ∙ c.loop-place.invariant

pub loop-place-preserved : goal.loop-place-preserved
loop-place-preserved c = elim c.match-carrier.branch [
  | in-Some+else-is_carrier_of w ↦
      sym (any_next (is_carrier_of c.args.name c.args.number) c.args.shop.now.carriers c.loop-place.place w.in-Some.carrier.now (sym c.carrier.ensures ∙ ap option_copied w.in-Some.is) (sym w.is_carrier_of.ensures ∙ w.if-is_carrier_of.false))
      ∙ c.loop-place.invariant
  | in_default w ↦
      sym (any_past (is_carrier_of c.args.name c.args.number) c.args.shop.now.carriers c.loop-place.place (sym c.carrier.ensures ∙ ap option_copied w.in_default.is))
      ∙ c.loop-place.invariant
]
