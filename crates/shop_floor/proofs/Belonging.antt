-- Which port a carrier belongs to, where the port of one place changes.
use Rattle.std.proofs.Common.{◌≡◌, ℕ, zero, suc, ◌==◌, Bool, true, false, ◌||◌, List, [], ◌∷◌, length, Option, Some, None, slice_get, refl, sym, ap, subst, arith, ◌∙◌}
use Rattle.std.specs.List.{AllByRecursion}
use Rattle.std.proofs.lemmas.Bool.Decides.{nat_tests}
use Rattle.gem_tables.specs.Table.{update_at}
use Rattle.gem_tables.proofs.Falling.{length_update}
use Rattle.gem_ids.specs.declared.numbers.PortNo.{PortNo}
use Rattle.load_port.specs.declared.port.Port.{Port}
use Rattle.load_port.specs.Ports.{port_numbered, change_port}
use Rattle.carrier.specs.declared.carrier.Carrier.{Carrier}
use Rattle.carrier.specs.Carriers.{is_port}
use Rattle.shop_floor.specs.Rows.{owner}
use Rattle.shop_floor.specs.Valid.{port_of, Belongs}

-- ---- the element of a place

pub get_updated : {O : Type 0} (n : ℕ) (change : O → O) (xs : List O) (x : O) → slice_get xs n ≡ Some x → slice_get (update_at n change xs) n ≡ Some (change x)
get_updated n change [] x s = absurd (cc)
get_updated zero change (y ∷ ys) x s = let same : y ≡ x = cc in ap (λ z. Some (change z)) same
get_updated (suc n) change (y ∷ ys) x s = get_updated n change ys x s

pub get_other : {O : Type 0} (n m : ℕ) (change : O → O) (xs : List O) → (n == m) ≡ false → slice_get (update_at n change xs) m ≡ slice_get xs m
get_other zero m change [] e = refl
get_other (suc n) m change [] e = refl
get_other zero zero change (y ∷ ys) e = absurd (grind (arith, nat_tests))
get_other zero (suc m) change (y ∷ ys) e = refl
get_other (suc n) zero change (y ∷ ys) e = refl
get_other (suc n) (suc m) change (y ∷ ys) e = let other : (n == m) ≡ false = grind (arith, nat_tests) in get_other n m change ys other

-- what is true of each, and of the changed one
pub all_updated : {O : Type 0} (P : O → Type 0) (n : ℕ) (change : O → O) (xs : List O) → ((x : O) → P x → P (change x)) → AllByRecursion P xs → AllByRecursion P (update_at n change xs)
all_updated P zero change [] f p = tt
all_updated P (suc n) change [] f p = tt
all_updated P zero change (y ∷ ys) f p = (f y p.0, p.1)
all_updated P (suc n) change (y ∷ ys) f p = (p.0, all_updated P n change ys f p.1)

-- what is true of each, and of the one that is changed twice
pub all_updated_twice : {O : Type 0} (P : O → Type 0) (n : ℕ) (first second : O → O) (xs : List O) (x : O) → slice_get xs n ≡ Some x → P (second (first x)) → AllByRecursion P xs → AllByRecursion P (update_at n second (update_at n first xs))
all_updated_twice P n first second [] x s q p = absurd (cc)
all_updated_twice P zero first second (y ∷ ys) x s q p = let same : x ≡ y = cc in (subst (λ z. P (second (first z))) same q, p.1)
all_updated_twice P (suc n) first second (y ∷ ys) x s q p = (p.0, all_updated_twice P n first second ys x s q p.1)

pub all_at : {O : Type 0} (P : O → Type 0) (n : ℕ) (xs : List O) (x : O) → slice_get xs n ≡ Some x → AllByRecursion P xs → P x
all_at P n [] x s p = absurd (cc)
all_at P zero (y ∷ ys) x s p = let same : y ≡ x = cc in subst P same p.0
all_at P (suc n) (y ∷ ys) x s p = all_at P n ys x s p.1

-- ---- the port of a number

pub numbered_same : (number place : ℕ) (ports : List Port) → number ≡ suc place → port_numbered number ports ≡ slice_get ports place
numbered_same zero place ports e = absurd (omega arith)
numbered_same (suc n) place ports e = let same : n ≡ place = omega arith in ap (slice_get ports) same

pub numbered_other : (number place : ℕ) (change : Port → Port) (ports : List Port) → (number == suc place) ≡ false → port_numbered number (update_at place change ports) ≡ port_numbered number ports
numbered_other zero place change ports e = refl
numbered_other (suc n) place change ports e = let other : (place == n) ≡ false = grind (arith, nat_tests) in get_other place n change ports other

-- a change that leaves the carrier of a port leaves what belongs to each
owner_at : (place m : ℕ) (change : Port → Port) (ports : List Port) → ((p : Port) → (change p).carrier ≡ p.carrier) → owner (slice_get (update_at place change ports) m) ≡ owner (slice_get ports m)
owner_at zero m change [] same = refl
owner_at (suc place) m change [] same = refl
owner_at zero zero change (p ∷ ps) same = same p
owner_at zero (suc m) change (p ∷ ps) same = refl
owner_at (suc place) zero change (p ∷ ps) same = refl
owner_at (suc place) (suc m) change (p ∷ ps) same = owner_at place m change ps same

owner_numbered : (number place : ℕ) (change : Port → Port) (ports : List Port) → ((p : Port) → (change p).carrier ≡ p.carrier) → owner (port_numbered number (update_at place change ports)) ≡ owner (port_numbered number ports)
owner_numbered zero place change ports same = refl
owner_numbered (suc n) place change ports same = owner_at place n change ports same

pub owner_kept : (port : Option PortNo) (place : ℕ) (change : Port → Port) (ports : List Port) → ((p : Port) → (change p).carrier ≡ p.carrier) → owner (port_of port (update_at place change ports)) ≡ owner (port_of port ports)
owner_kept None place change ports same = refl
owner_kept (Some n) place change ports same = owner_numbered n.0 place change ports same

pub owner_changed : (port : Option PortNo) (number : ℕ) (change : Port → Port) (ports : List Port) → ((p : Port) → (change p).carrier ≡ p.carrier) → owner (port_of port (change_port number change ports)) ≡ owner (port_of port ports)
owner_changed port zero change ports same = refl
owner_changed port (suc place) change ports same = owner_kept port place change ports same

-- what is true of each port
pub all_ports : (P : Port → Type 0) (number : ℕ) (change : Port → Port) (ports : List Port) → ((p : Port) → P p → P (change p)) → AllByRecursion P ports → AllByRecursion P (change_port number change ports)
all_ports P zero change ports f p = p
all_ports P (suc place) change ports f p = all_updated P place change ports f p

pub ports_length : (number : ℕ) (change : Port → Port) (ports : List Port) → length (change_port number change ports) ≡ length ports
ports_length zero change ports = refl
ports_length (suc place) change ports = length_update change place ports

-- the port of this number is that of the place
pub owner_here : (n : PortNo) (place : ℕ) (ports : List Port) (p : Port) → slice_get ports place ≡ Some p → n.0 ≡ suc place → owner (port_of (Some n) ports) ≡ p.carrier
owner_here n place ports p s e = ap owner (numbered_same n.0 place ports e ∙ s)

-- ---- a carrier

-- it is present or bound
abbrev pub is_held : Carrier → Bool
is_held c = c.present || c.bound

-- it goes on to belong to its port, where no port changes that is its
pub still : (place : ℕ) (change : Port → Port) (ports : List Port) (p : Port) (c : Carrier) → slice_get ports place ≡ Some p → (is_held c ≡ true → is_port (suc place) c.port ≡ true → p.carrier ≡ Some c.name → ⊥) → Belongs ports c → Belongs (update_at place change ports) c
still place change ports p c s free b held = of c.port refl (b held) where
  here : (n : PortNo) → c.port ≡ Some n → owner (port_of (Some n) ports) ≡ Some c.name → (t : Bool) → (n.0 == suc place) ≡ t → owner (port_of (Some n) (update_at place change ports)) ≡ Some c.name
  here n q e true is =
      let same : n.0 ≡ suc place = grind (arith, nat_tests) in
      absurd (free held (ap (is_port (suc place)) q ∙ is) (sym (owner_here n place ports p s same) ∙ e))
  here n q e false is = ap owner (numbered_other n.0 place change ports is) ∙ e

  of : (port : Option PortNo) → c.port ≡ port → owner (port_of port ports) ≡ Some c.name → owner (port_of port (update_at place change ports)) ≡ Some c.name
  of None q e = e
  of (Some n) q e = here n q e (n.0 == suc place) refl

-- it belongs to the changed port
pub now_here : (place : ℕ) (change : Port → Port) (ports : List Port) (p : Port) (c : Carrier) → slice_get ports place ≡ Some p → is_port (suc place) c.port ≡ true → (change p).carrier ≡ Some c.name → Belongs (update_at place change ports) c
now_here place change ports p c s is names held = of c.port is where
  of : (port : Option PortNo) → is_port (suc place) port ≡ true → owner (port_of port (update_at place change ports)) ≡ Some c.name
  of None e = absurd (cc)
  of (Some n) e =
      let same : n.0 ≡ suc place = grind (arith, nat_tests) in
      owner_here n place (update_at place change ports) (change p) (get_updated place change ports p s) same ∙ names
