use Rattle.std.proofs.Common.{ℕ, Option, Some, map, ◌∙◌, sym, ap, option_copied}
use Rattle.gem_tables.specs.Names.{table_number}
use Rattle.gem_tables.specs.Machine.{ready_in}
use Rattle.gem_tables.specs.declared.firing.Firing.{Firing}
use Rattle.shop_floor.specs.Floor.{Floor, number_of}
use Rattle.shop_floor.specs.Machines.{floor_machines}
use Rattle.shop_floor.proofs.Scans.{ready_here, ready_next, ready_past, carrier_number, no_carrier, numbered_at}
use Rattle.shop_floor.proofs.floor.ShopFloor.ready_carrier.Goals.{in-Some+in_default-carrier_row, in_default}
use Rattle.shop_floor.proofs.floor.ShopFloor.ready_carrier.Goals as goal

abbrev at : ℕ → Floor → ℕ → Option ℕ
at table f carrier = ready_in floor_machines table carrier f

pub returns-in-Some-carrier_row : goal.returns-in-Some-carrier_row
returns-in-Some-carrier_row c =
    let here = sym c.carrier.ensures ∙ ap option_copied c.in-Some.is in
    let found = numbered_at 1 c.args.self.now.next_carrier c.args.self.now.carriers c.loop-place.place c.in-Some.carrier.now c.carrier_count-place-end.ensures.valid.rising here in
    ap (λ (x : Firing). Some x) c.of.ensures
    ∙ sym (ready_here (table_number c.args.table) (at (table_number c.args.table) c.args.self.now) (map number_of c.args.self.now.carriers) c.loop-place.place c.in-Some.carrier.now.number c.in-Some-carrier_row.row
    (carrier_number c.args.self.now.carriers c.loop-place.place c.in-Some.carrier.now here) (sym (c.carrier_row.ensures c.args.self.now found) ∙ c.in-Some-carrier_row.is))
    ∙ c.loop-place.invariant

pub loop-place-preserved : goal.loop-place-preserved
loop-place-preserved c = elim c.match-carrier.branch [
  | in-Some+in_default-carrier_row w ↦
      let here = sym c.carrier.ensures ∙ ap option_copied w.in-Some.is in
      let found = numbered_at 1 c.args.self.now.next_carrier c.args.self.now.carriers c.loop-place.place w.in-Some.carrier.now c.carrier_count-place-end.ensures.valid.rising here in
      sym (ready_next (table_number c.args.table) (at (table_number c.args.table) c.args.self.now) (map number_of c.args.self.now.carriers) c.loop-place.place w.in-Some.carrier.now.number
      (carrier_number c.args.self.now.carriers c.loop-place.place w.in-Some.carrier.now here) (sym (w.carrier_row.ensures c.args.self.now found) ∙ w.in_default-carrier_row.is))
      ∙ c.loop-place.invariant
  | in_default w ↦
      sym (ready_past (table_number c.args.table) (at (table_number c.args.table) c.args.self.now) (map number_of c.args.self.now.carriers) c.loop-place.place
      (no_carrier c.args.self.now.carriers c.loop-place.place (sym c.carrier.ensures ∙ ap option_copied w.in_default.is)))
      ∙ c.loop-place.invariant
]
