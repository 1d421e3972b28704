use Rattle.load_port.specs.Caack.{is_done_code}
use Rattle.std.proofs.Common.{true, ◌≡◌, sym, subst}
use Rattle.shop_floor.specs.Floor.{Floor, floor_of}
use Rattle.shop_floor.specs.Requests.{carrier_code}
use Rattle.shop_floor.specs.Kept.{kept_floor}
use Rattle.shop_floor.proofs.Asked.{room-bind, room-notify, notify-unknown}
use Rattle.shop_floor.proofs.Without.{written-valid}
use Rattle.shop_floor.proofs.floor.ShopFloor.write.Goals as goal

pub write-requires-clause-bind : goal.write-requires-clause-bind
write-requires-clause-bind c =
    let code = subst (λ (f : Floor). is_done_code (carrier_code f c.args.a.now) ≡ true) (sym c.self.view_is) c.requires in
    λ is new. room-bind c.args.a.now (kept_floor c.self.inside) is code new c.self.invariant

pub write-requires-clause-unknown : goal.write-requires-clause-unknown
write-requires-clause-unknown c =
    let code = subst (λ (f : Floor). is_done_code (carrier_code f c.args.a.now) ≡ true) (sym c.self.view_is) c.requires in
    λ is. notify-unknown c.args.a.now (kept_floor c.self.inside) is code

pub write-requires-clause-notify : goal.write-requires-clause-notify
write-requires-clause-notify c =
    let code = subst (λ (f : Floor). is_done_code (carrier_code f c.args.a.now) ≡ true) (sym c.self.view_is) c.requires in
    λ is. room-notify c.args.a.now (kept_floor c.self.inside) is code c.self.invariant

pub invariant_of-self : goal.invariant_of-self
invariant_of-self c =
    let code = subst (λ (f : Floor). is_done_code (carrier_code f c.args.a.now) ≡ true) (sym c.self.view_is) c.requires in
    written-valid c.write.result c.args.a.now (kept_floor c.self.inside) (floor_of c.self.inside.ports c.write.new.carriers c.write.new.next) code c.self.invariant (c.write.ensures.ok c.self.inside.ports) (c.write.ensures.err c.self.inside.ports)
