use Rattle.std.proofs.Common.{ℕ, Option, Some, map, ◌∙◌, sym, ap, option_copied}
use Rattle.gem_tables.specs.Machine.{ready_in}
use Rattle.gem_tables.specs.declared.firing.Firing.{Firing}
use Rattle.shop_floor.specs.Floor.{number_of}
use Rattle.shop_floor.proofs.Scans.{ready_here, ready_next, ready_past, carrier_number, no_carrier, numbered_at}
use Rattle.floor_model.specs.Floor.{ToolFloor}
use Rattle.floor_model.specs.Machines.{floor_machines}
use Rattle.tool_floor.proofs.floor.ToolFloor.ready_accessing.Goals.{in-Some+in_default-accessing_row, in_default}
use Rattle.tool_floor.proofs.floor.ToolFloor.ready_accessing.Goals as goal

abbrev at : ToolFloor → ℕ → Option ℕ
at f carrier = ready_in floor_machines 10 carrier f

pub returns-in-Some-accessing_row : goal.returns-in-Some-accessing_row
returns-in-Some-accessing_row c =
    let here = sym c.carrier_at.ensures ∙ ap option_copied c.in-Some.is in
    let found = numbered_at 1 c.args.self.now.shop.next_carrier c.args.self.now.shop.carriers c.loop-place.place c.in-Some.carrier.now c.carrier_count-place-end.ensures.valid.rising here in
    ap (λ (x : Firing). Some x) c.of.ensures
    ∙ sym (ready_here 10 (at c.args.self.now) (map number_of c.args.self.now.shop.carriers) c.loop-place.place c.in-Some.carrier.now.number c.in-Some-accessing_row.row
    (carrier_number c.args.self.now.shop.carriers c.loop-place.place c.in-Some.carrier.now here) (sym (c.accessing_row.ensures found) ∙ c.in-Some-accessing_row.is))
    ∙ c.loop-place.invariant

pub loop-place-preserved : goal.loop-place-preserved
loop-place-preserved c = elim c.match-carrier_at.branch [
  | in-Some+in_default-accessing_row w ↦
      let here = sym c.carrier_at.ensures ∙ ap option_copied w.in-Some.is in
      let found = numbered_at 1 c.args.self.now.shop.next_carrier c.args.self.now.shop.carriers c.loop-place.place w.in-Some.carrier.now c.carrier_count-place-end.ensures.valid.rising here in
      sym (ready_next 10 (at c.args.self.now) (map number_of c.args.self.now.shop.carriers) c.loop-place.place w.in-Some.carrier.now.number
      (carrier_number c.args.self.now.shop.carriers c.loop-place.place w.in-Some.carrier.now here) (sym (w.accessing_row.ensures found) ∙ w.in_default-accessing_row.is))
      ∙ c.loop-place.invariant
  | in_default w ↦
      sym (ready_past 10 (at c.args.self.now) (map number_of c.args.self.now.shop.carriers) c.loop-place.place
      (no_carrier c.args.self.now.shop.carriers c.loop-place.place (sym c.carrier_at.ensures ∙ ap option_copied w.in_default.is)))
      ∙ c.loop-place.invariant
]
