-- What holds of the ports and the carriers holds behind a call, whether there was memory or not.
use Rattle.std.proofs.Common.{◌≡◌, true, sym, subst}
use Rattle.std.specs.Prelude.{Result, Ok, Err, IfOk, IfErr}
use Rattle.gem_tables.specs.declared.firing.Firing.{Firing}
use Rattle.load_port.specs.Caack.{is_done_code}
use Rattle.carrier.specs.declared.action.CarrierAction.{CarrierAction}
use Rattle.shop_floor.specs.Floor.{Floor}
use Rattle.shop_floor.specs.Machines.{floor_starts, floor_fired}
use Rattle.shop_floor.specs.Requests.{carrier_code, carrier_written}
use Rattle.shop_floor.specs.Valid.{IsFloor}
use Rattle.shop_floor.proofs.Keeps.{row-keeps}
use Rattle.shop_floor.proofs.Asked.{written-keeps}

pub fired-valid : {A E : Type 0} (r : Result A E) (x : Firing) (f after : Floor) → floor_starts x f ≡ true → IsFloor f → IfOk r (λ _. after ≡ floor_fired x f) → IfErr r (λ _. after ≡ f) → IsFloor after
fired-valid (Ok _) x f after starts valid ok err = subst IsFloor (sym ok) (row-keeps x f starts valid)
fired-valid (Err _) x f after starts valid ok err = subst IsFloor (sym err) valid

pub written-valid : {A E : Type 0} (r : Result A E) (a : CarrierAction) (f after : Floor) → is_done_code (carrier_code f a) ≡ true → IsFloor f → IfOk r (λ _. after ≡ carrier_written a f) → IfErr r (λ _. after ≡ f) → IsFloor after
written-valid (Ok _) a f after code valid ok err = subst IsFloor (sym ok) (written-keeps a f code valid)
written-valid (Err _) a f after code valid ok err = subst IsFloor (sym err) valid
