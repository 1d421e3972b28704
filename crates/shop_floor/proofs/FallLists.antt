-- What changes of lists of ports and carriers do to what is left.
use Rattle.std.proofs.Common.{◌≡◌, ℕ, zero, suc, ◌+◌, ◌==◌, ◌≤◌, Bool, true, false, not, cond, List, [], ◌∷◌, Option, Some, None, slice_get, refl, ap, arith}
use Rattle.std.specs.Prelude.{if◌then◌else◌}
use Rattle.gem_tables.specs.Table.{update_at}
use Rattle.load_port.specs.declared.port.Port.{Port}
use Rattle.carrier.specs.declared.carrier.Carrier.{Carrier}
use Rattle.carrier.specs.Carriers.{has_name, is_known, carrier_numbered, change_numbered, change_named, found_or_created, with_created, without, came_to}
use Rattle.shop_floor.specs.Left.{port_left, carrier_left, ports_left, carriers_left}
use Rattle.shop_floor.specs.Rows.{forgets}

-- ---- places

-- two changes at one place are one
pub update_twice : {O : Type 0} (first second : O → O) (place : ℕ) (objects : List O) → update_at place second (update_at place first objects) ≡ update_at place (λ o. second (first o)) objects
update_twice first second zero [] = refl
update_twice first second (suc place) [] = refl
update_twice first second zero (x ∷ xs) = refl
update_twice first second (suc place) (x ∷ xs) = ap (λ ys. x ∷ ys) (update_twice first second place xs)

-- ---- what is left at a place

-- where a change leaves less at a port, it leaves so much less at all
pub ports_fall : (change : Port → Port) (n place : ℕ) (ports : List Port) (p : Port) → slice_get ports place ≡ Some p → port_left (change p) + n ≤ port_left p → ports_left (update_at place change ports) + n ≤ ports_left ports
ports_fall change n place [] p e falls = absurd (cc)
ports_fall change n zero (q ∷ qs) p e falls =
    let same : q ≡ p = cc in
    let less : port_left (change q) + n ≤ port_left q = rw same falls in
    omega (arith, less)
ports_fall change n (suc place) (q ∷ qs) p e falls =
    let later = ports_fall change n place qs p e falls in
    omega (arith, later)

-- and so at a carrier
pub carriers_fall : (change : Carrier → Carrier) (less n : ℕ) (carriers : List Carrier) (c : Carrier) → carrier_numbered n carriers ≡ Some c → carrier_left (change c) + less ≤ carrier_left c → carriers_left (change_numbered n change carriers) + less ≤ carriers_left carriers
carriers_fall change less n [] c e falls = absurd (cc)
carriers_fall change less n (d ∷ ds) c e falls = of (d.number == n) e (λ f. carriers_fall change less n ds c f falls) where
  of : (b : Bool) → cond b (Some d) (carrier_numbered n ds) ≡ Some c → (carrier_numbered n ds ≡ Some c → carriers_left (change_numbered n change ds) + less ≤ carriers_left ds)
      → carriers_left (cond b (change d ∷ ds) (d ∷ change_numbered n change ds)) + less ≤ carriers_left (d ∷ ds)
  of true f later =
      let same : d ≡ c = cc in
      let here : carrier_left (change d) + less ≤ carrier_left d = rw same falls in
      omega (arith, here)
  of false f later = let rest = later f in omega (arith, rest)

-- ---- what is left of carriers that come, are created and are forgotten

-- what holds of both ways holds of the one that was taken
pub either_way : {A : Type 0} (P : A → Type 0) (b : Bool) (x y : A) → P x → P y → P (if b then x else y)
either_way P true x y at_x at_y = at_x
either_way P false x y at_x at_y = at_y

-- a carrier that comes to a port leaves its states
pub came-left : (name : List ℕ) (port : ℕ) (is_read : Bool) (slots : List ℕ) (carriers : List Carrier) → carriers_left (change_named name (came_to port is_read slots) carriers) ≡ carriers_left carriers
came-left name port is_read slots [] = refl
came-left name port is_read slots (c ∷ cs) =
    let here : carrier_left (if has_name name c then came_to port is_read slots c else c) ≡ carrier_left c =
    either_way (λ (d : Carrier). carrier_left d ≡ carrier_left c) (has_name name c) (came_to port is_read slots c) c refl refl in
    let later = came-left name port is_read slots cs in
    omega (arith, here, later)

-- one that is created has its id and its map to be read, and is not accessed
created-left : (number : ℕ) (name : List ℕ) (carriers : List Carrier) → carriers_left (with_created number name carriers) ≡ carriers_left carriers + 203
created-left number name [] = refl
created-left number name (c ∷ cs) = let later = created-left number name cs in omega (arith, later)

pub found-left : (number : ℕ) (name : List ℕ) (carriers : List Carrier) → carriers_left (found_or_created number name carriers) ≤ carriers_left carriers + 203
found-left number name carriers =
    let more = created-left number name carriers in
    either_way (λ (cs : List Carrier). carriers_left cs ≤ carriers_left carriers + 203) (is_known name carriers) carriers (with_created number name carriers)
    (omega arith) (omega (arith, more))

-- one that is forgotten leaves no more
kept-left : (b : Bool) (c : Carrier) (cs : List Carrier) → carriers_left (cond b (c ∷ cs) cs) ≤ carrier_left c + carriers_left cs
kept-left true c cs = omega arith
kept-left false c cs = omega arith

without-left : (name : List ℕ) (carriers : List Carrier) → carriers_left (without name carriers) ≤ carriers_left carriers
without-left name [] = omega arith
without-left name (c ∷ cs) =
    let here = kept-left (not (has_name name c)) c (without name cs) in
    let later = without-left name cs in
    omega (arith, here, later)

pub forgotten-left : (owner : Option (List ℕ)) (carriers : List Carrier) → carriers_left (forgets owner carriers) ≤ carriers_left carriers
forgotten-left None carriers = omega arith
forgotten-left (Some name) carriers = without-left name carriers
