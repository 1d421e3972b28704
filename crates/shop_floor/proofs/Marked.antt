-- A carrier that is marked stopped leaves what holds of the ports and the carriers, and what is left to fire by itself.
use Rattle.std.proofs.Common.{◌≡◌, ℕ, ◌+◌, List, [], ◌∷◌, refl, ap, arith}
use Rattle.std.specs.Prelude.{if◌then◌else◌}
use Rattle.carrier.specs.declared.carrier.Carrier.{Carrier}
use Rattle.carrier.specs.Carriers.{has_name, marks, marked_stopped}
use Rattle.shop_floor.specs.Floor.{Floor, with_marked}
use Rattle.shop_floor.specs.Left.{carrier_left, carriers_left, ports_left, floor_left}
use Rattle.shop_floor.specs.Valid.{Belongs, ReadWherePresent, IsFloor}
use Rattle.shop_floor.proofs.Apart.{all_changed, apart_changed, absent_changed}
use Rattle.shop_floor.proofs.Numbers.{rise_changed}
use Rattle.shop_floor.proofs.FallLists.{either_way}

pub marked-keeps : (name : List ℕ) (f : Floor) → IsFloor f → IsFloor (with_marked name f)
marked-keeps name f valid = record {
  apart = apart_changed name marks f.carriers (λ c. refl) valid.apart;
  rising = rise_changed 1 f.next_carrier name marks f.carriers (λ c. refl) valid.rising;
  absent = let less = absent_changed name marks f.carriers (λ c. omega arith) in omega (arith, less, valid.absent);
  belong = all_changed (Belongs f.ports) (Belongs f.ports) name marks f.carriers (λ c named b. b) (λ c other b. b) valid.belong;
  read = all_changed ReadWherePresent ReadWherePresent name marks f.carriers (λ c named r. r) (λ c other r. r) valid.read;
  told = valid.told;
  few = valid.few;
}

marked-carriers : (name : List ℕ) (carriers : List Carrier) → carriers_left (marked_stopped name carriers) ≡ carriers_left carriers
marked-carriers name [] = refl
marked-carriers name (c ∷ cs) =
    let here : carrier_left (if has_name name c then marks c else c) ≡ carrier_left c =
    either_way (λ (d : Carrier). carrier_left d ≡ carrier_left c) (has_name name c) (marks c) c refl refl in
    let later = marked-carriers name cs in
    omega (arith, here, later)

pub marked-left : (name : List ℕ) (f : Floor) → floor_left (with_marked name f) ≡ floor_left f
marked-left name f = ap (λ n. ports_left f.ports + n) (marked-carriers name f.carriers)
