use Rattle.std.proofs.Common.{◌≡◌, ◌==◌, ℕ, Bool, false, ◌∙◌, sym, ap, List, arith}
use Rattle.std.proofs.lemmas.Bool.Decides.{nat_tests}
use Rattle.load_port.specs.declared.port.Port.{Port}
use Rattle.carrier.specs.declared.carrier.Carrier.{Carrier}
use Rattle.shop_floor.specs.Floor.{floor_of}
use Rattle.shop_floor.proofs.Fires.{port_fires, carrier_fires}
use Rattle.shop_floor.proofs.rows.fire.Goals as goal

-- what is told not to be of the table has another number
apart : (n table : ℕ) (told : Bool) → told ≡ (n == table) → told ≡ false → n ≡ table → ⊥
apart n table told is isnt same = grind (arith, nat_tests)

pub returns-then-is_of_port-clause-ok : goal.returns-then-is_of_port-clause-ok
returns-then-is_of_port-clause-ok c =
    ap (λ (ps : List Port). floor_of ps c.args.carriers.now c.args.next.now) c.fire-then-is_of_port.ensures.after
    ∙ port_fires c.args.x (floor_of c.args.ports.now c.args.carriers.now c.args.next.now) (sym c.is_of_port.ensures ∙ c.if-is_of_port.true) (apart c.args.x.row.table 7 c.is_of.result c.is_of.ensures.value c.if-is_of.false)

pub returns-then-is_of_carrier-clause-ok : goal.returns-then-is_of_carrier-clause-ok
returns-then-is_of_carrier-clause-ok c =
    ap (λ (cs : List Carrier). floor_of c.args.ports.now cs c.args.next.now) c.fire-then-is_of_carrier.ensures.after
    ∙ carrier_fires c.args.x (floor_of c.args.ports.now c.args.carriers.now c.args.next.now) (sym c.is_of_carrier.ensures ∙ c.if-is_of_carrier.true)
