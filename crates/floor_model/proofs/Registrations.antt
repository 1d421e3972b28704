-- What a registration leaves, and what it counts.
use Rattle.std.proofs.Common.{◌≡◌, ℕ, zero, suc, ◌+◌, ◌*◌, ◌==◌, ◌<◌, ◌≤◌, Bool, true, false, not, ◌&&◌, ◌||◌, if◌then◌else◌, List, [], ◌∷◌, ◌++◌, length, drop, Option, Some, None, is_some, slice_get, refl, sym, ap, subst, ◌∙◌, arith}
use Rattle.std.specs.List.{list_any}
use Rattle.std.proofs.lemmas.Bool.Decides.{nat_tests}
use Rattle.gem_ids.specs.declared.numbers.LocId.{LocId}
use Rattle.gem_ids.specs.declared.numbers.LocId.TheVariants.{Slot}
use Rattle.gem_ids.specs.declared.numbers.PortNo.{PortNo}
use Rattle.gem_ids.specs.Names.{name_in_slot}
use Rattle.gem_tables.specs.Table.{firing}
use Rattle.gem_tables.specs.declared.firing.Firing.{Firing}
use Rattle.records.proofs.Scans.{drop_here, drop_past, drop_none}
use Rattle.carrier.specs.declared.carrier.Carrier.{Carrier}
use Rattle.carrier.specs.Carriers.{carrier_numbered}
use Rattle.robot_moves.specs.declared.module.Module.{Module}
use Rattle.shop_floor.specs.Floor.{Floor}
use Rattle.shop_floor.specs.Left.{weighs}
use Rattle.substrate.specs.Places.{PlaceMap, is_taken_at, has_number, location_number, registered}
use Rattle.substrate.specs.declared.registered.Registered.{Registered}
use Rattle.substrate.specs.declared.record.LocationRecord.{LocationRecord}
use Rattle.substrate.specs.declared.record.Occupancy.{Occupancy}
use Rattle.substrate.specs.declared.record.Occupancy.TheVariants.{Unoccupied, Occupied}
use Rattle.floor_model.specs.declared.tracked.Substrate.{Substrate}
use Rattle.floor_model.specs.Floor.{ToolFloor}
use Rattle.floor_model.specs.Substrates.{can_register, first_substrate, registers_at, registers_slot, registers_slots, registers_at_port, registers_found, reaches_verified, registration_rows, emptied, removed_of}
use Rattle.floor_model.specs.Machines.{registered_by}
use Rattle.floor_model.specs.Left.{disagrees, locations_left, substrate_left, substrates_left}

-- ---- the locations

any_more : (test : Registered → Bool) (rs : List Registered) (r : Registered) → list_any test (rs ++ r ∷ []) ≡ (list_any test rs || test r)
any_more test [] r = of (test r) where
  of : (b : Bool) → (b || false) ≡ b
  of true = refl
  of false = refl
any_more test (x ∷ xs) r = of (test x) (any_more test xs r) where
  of : (b : Bool) → list_any test (xs ++ r ∷ []) ≡ (list_any test xs || test r) → (b || list_any test (xs ++ r ∷ [])) ≡ ((b || list_any test xs) || test r)
  of true later = refl
  of false later = later

one_weighs : (b : Bool) → weighs 1 b ≤ 1
one_weighs true = omega arith
one_weighs false = omega arith

module _ (p q : PlaceMap) (k : ℕ) (more : (n : ℕ) → is_taken_at n q ≡ (is_taken_at n p || (k == n))) where
  same_there : (n : ℕ) (o : Occupancy) → (k == n) ≡ false → weighs 1 (disagrees o (is_taken_at n q)) ≡ weighs 1 (disagrees o (is_taken_at n p))
  same_there n o other = ap (λ (b : Bool). weighs 1 (disagrees o b)) (more n ∙ of (is_taken_at n p) (k == n) other) where
    of : (a b : Bool) → b ≡ false → (a || b) ≡ a
    of true b e = refl
    of false true e = e
    of false false e = refl

  same_later : (n : ℕ) (ls : List LocationRecord) → k < n → locations_left n q ls ≡ locations_left n p ls
  same_later n [] past = refl
  same_later n (l ∷ ls) past =
      let other : (k == n) ≡ false = grind (arith, nat_tests, past) in
      let here = same_there n l.occupancy other in
      let later = same_later (n + 1) ls (omega (arith, past)) in
      omega (arith, here, later)

  -- one substrate more leaves one location more at most whose state disagrees
  pub one_more : (n : ℕ) (ls : List LocationRecord) → locations_left n q ls ≤ locations_left n p ls + 1
  one_more n [] = omega arith
  one_more n (l ∷ ls) = of (k == n) refl (one_more (n + 1) ls) where
    of : (b : Bool) → (k == n) ≡ b → locations_left (n + 1) q ls ≤ locations_left (n + 1) p ls + 1 → locations_left n q (l ∷ ls) ≤ locations_left n p (l ∷ ls) + 1
    of true is rest =
        let same : k ≡ n = grind (arith, nat_tests, is) in
        let later = same_later (n + 1) ls (omega (arith, same)) in
        let here = one_weighs (disagrees l.occupancy (is_taken_at n q)) in
        omega (arith, later, here)
    of false is rest =
        let here = same_there n l.occupancy is in
        omega (arith, rest, here)

-- ---- the substrates

left_more : (ss : List Substrate) (s : Substrate) → substrates_left (ss ++ s ∷ []) ≡ substrates_left ss + substrate_left s
left_more [] s = omega arith
left_more (x ∷ xs) s = let later = left_more xs s in omega (arith, later)

append_none : (ss : List Substrate) → ss ++ [] ≡ ss
append_none [] = refl
append_none (x ∷ xs) = ap (λ (ys : List Substrate). x ∷ ys) (append_none xs)

append_again : (ss ts us : List Substrate) → (ss ++ ts) ++ us ≡ ss ++ (ts ++ us)
append_again [] ts us = refl
append_again (x ∷ xs) ts us = ap (λ (ys : List Substrate). x ∷ ys) (append_again xs ts us)

pub append_length : (ss ts : List Substrate) → length (ss ++ ts) ≡ length ss + length ts
append_length [] ts = omega arith
append_length (x ∷ xs) ts = let later = append_length xs ts in omega (arith, later)

pub drop_before : (ss ts : List Substrate) → drop (length ss) (ss ++ ts) ≡ ts
drop_before [] ts = refl
drop_before (x ∷ xs) ts = drop_before xs ts

-- ---- a registration

-- what the substrates and the locations count
abbrev pub counts : ToolFloor → ℕ
counts f = locations_left 1 f.places f.locations + substrates_left f.substrates

-- what so many registrations at most make of the floor: new substrates behind the others, each counting five at most
pub record Registers (most : ℕ) (f g : ToolFloor) : Type 0 where
  pub new : List Substrate
  pub substrates : g.substrates ≡ f.substrates ++ new
  pub few : length new ≤ most
  pub left : counts g ≤ counts f + 5 * most
  pub shop : g.shop ≡ f.shop
  pub modules : g.modules ≡ f.modules
  pub jobs : g.jobs ≡ f.jobs

pub none_registered : (f : ToolFloor) → Registers 0 f f
none_registered f = record { new = []; substrates = sym (append_none f.substrates); few = omega arith; left = omega arith; shop = refl; modules = refl; jobs = refl }

more_registered : (m n : ℕ) (f g : ToolFloor) → m ≤ n → Registers m f g → Registers n f g
more_registered m n f g l r =
    let few = r.few in
    let left = r.left in
    record { new = r.new; substrates = r.substrates; few = omega (arith, few, l); left = omega (arith, left, l); shop = r.shop; modules = r.modules; jobs = r.jobs }

then_registered : (m n : ℕ) (f g h : ToolFloor) → Registers m f g → Registers n g h → Registers (m + n) f h
then_registered m n f g h r s =
    let few_first = r.few in
    let few_second = s.few in
    let left_first = r.left in
    let left_second = s.left in
    let count = append_length r.new s.new in
    record {
      new = r.new ++ s.new;
      substrates = s.substrates ∙ ap (λ (xs : List Substrate). xs ++ s.new) r.substrates ∙ append_again f.substrates r.new s.new;
      few = omega (arith, few_first, few_second, count);
      left = omega (arith, left_first, left_second);
      shop = s.shop ∙ r.shop;
      modules = s.modules ∙ r.modules;
      jobs = s.jobs ∙ r.jobs;
    }

one_registered : (sub : List ℕ) (carrier : ℕ) (loc : LocId) (f : ToolFloor) → Registers 1 f (registers_at sub carrier loc f)
one_registered sub carrier loc f = of (can_register sub loc f.places) where
  new : Substrate
  new = first_substrate (f.places.given + 1) sub carrier loc

  behind : ToolFloor
  behind = record f { places = registered sub loc f.places; substrates = f.substrates ++ new ∷ [] }

  place : Registered
  place = record { sub = sub; number = f.places.given + 1; at = loc }

  of : (b : Bool) → Registers 1 f (if b then behind else f)
  of false = more_registered 0 1 f f (omega arith) (none_registered f)
  of true =
      let locations = one_more f.places (registered sub loc f.places) (location_number f.places.ports loc) (λ n. any_more (has_number f.places.ports n) f.places.held place) 1 f.locations in
      let substrates = left_more f.substrates new in
      record { new = new ∷ []; substrates = refl; few = omega arith; left = omega (arith, locations, substrates); shop = refl; modules = refl; jobs = refl }

slot_registered : (c : Carrier) (port : PortNo) (slot code : ℕ) (f : ToolFloor) → Registers 1 f (registers_slot c port slot code f)
slot_registered c port slot code f = of (code == 3) where
  of : (b : Bool) → Registers 1 f (if b then registers_at (name_in_slot c.name slot) c.number (Slot port (record { 0 = slot })) f else f)
  of true = one_registered (name_in_slot c.name slot) c.number (Slot port (record { 0 = slot })) f
  of false = more_registered 0 1 f f (omega arith) (none_registered f)

slots_registered : (c : Carrier) (port : PortNo) (slot count : ℕ) (slots : List ℕ) (f : ToolFloor) → Registers count f (registers_slots c port slot count slots f)
slots_registered c port slot zero slots f = none_registered f
slots_registered c port slot (suc count) [] f = more_registered 0 (suc count) f f (omega arith) (none_registered f)
slots_registered c port slot (suc count) (code ∷ slots) f =
    let same : 1 + count ≡ suc count = omega arith in
    subst (λ (n : ℕ). Registers n f (registers_slots c port (slot + 1) count slots (registers_slot c port slot code f))) same
    (then_registered 1 count f (registers_slot c port slot code f) (registers_slots c port (slot + 1) count slots (registers_slot c port slot code f))
    (slot_registered c port slot code f) (slots_registered c port (slot + 1) count slots (registers_slot c port slot code f)))

pub at_port_registered : (port : Option PortNo) (c : Carrier) (f : ToolFloor) → Registers 25 f (registers_at_port port c f)
at_port_registered None c f = more_registered 0 25 f f (omega arith) (none_registered f)
at_port_registered (Some port) c f = slots_registered c port 1 25 c.map f

found_registered : (o : Option Carrier) (f : ToolFloor) → Registers 25 f (registers_found o f)
found_registered None f = more_registered 0 25 f f (omega arith) (none_registered f)
found_registered (Some c) f = at_port_registered c.port c f

-- what a row of the slot map registers
pub row_registered : (row carrier : ℕ) (f : ToolFloor) → Registers 25 f (registered_by row carrier f)
row_registered row carrier f = of (reaches_verified row) where
  of : (b : Bool) → Registers 25 f (if b then registers_found (carrier_numbered carrier f.shop.carriers) f else f)
  of true = found_registered (carrier_numbered carrier f.shop.carriers) f
  of false = more_registered 0 25 f f (omega arith) (none_registered f)

-- two rows follow each
pub rows_count : (ss : List Substrate) → length (registration_rows ss) ≡ 2 * length ss
rows_count [] = refl
rows_count (s ∷ ss) = let later = rows_count ss in omega (arith, later)

-- the rows of the next substrate go behind those of the others
firings_again : (rows : List Firing) (x y : Firing) (more : List Firing) → ((rows ++ x ∷ []) ++ y ∷ []) ++ more ≡ rows ++ (x ∷ y ∷ more)
firings_again [] x y more = refl
firings_again (r ∷ rs) x y more = ap (λ (xs : List Firing). r ∷ xs) (firings_again rs x y more)

pub rows_next : (rows : List Firing) (ss : List Substrate) (place : ℕ) (s : Substrate) → slice_get ss place ≡ Some s
    → ((rows ++ firing 12 s.number 1 ∷ []) ++ firing 13 s.number 1 ∷ []) ++ registration_rows (drop (place + 1) ss) ≡ rows ++ registration_rows (drop place ss)
rows_next rows ss place s e =
    firings_again rows (firing 12 s.number 1) (firing 13 s.number 1) (registration_rows (drop (place + 1) ss))
    ∙ ap (λ (xs : List Substrate). rows ++ registration_rows xs) (sym (drop_here ss place s e))

pub rows_past : (rows : List Firing) (ss : List Substrate) (place : ℕ) → slice_get ss place ≡ None → rows ++ registration_rows (drop (place + 1) ss) ≡ rows ++ registration_rows (drop place ss)
rows_past rows ss place e = ap (λ (xs : List Substrate). rows ++ registration_rows xs) (sym (drop_past ss place e))

-- ---- a removal

pub removed_next : (carrier : ℕ) (ss : List Substrate) (place : ℕ) (p : PlaceMap) → removed_of carrier (drop (place + 1) ss) (emptied carrier (slice_get ss place) p) ≡ removed_of carrier (drop place ss) p
removed_next carrier ss place p = of (slice_get ss place) refl where
  of : (o : Option Substrate) → slice_get ss place ≡ o → removed_of carrier (drop (place + 1) ss) (emptied carrier o p) ≡ removed_of carrier (drop place ss) p
  of None e = ap (λ (xs : List Substrate). removed_of carrier xs p) (sym (drop_past ss place e))
  of (Some s) e = ap (λ (xs : List Substrate). removed_of carrier xs p) (sym (drop_here ss place s e))

-- ---- the slots of a carrier

-- the next slot
pub slots_next : (c : Carrier) (port : PortNo) (slot count place code : ℕ) (slots : List ℕ) (f : ToolFloor) → slice_get slots place ≡ Some code
    → registers_slots c port (slot + 1) count (drop (place + 1) slots) (registers_slot c port slot code f) ≡ registers_slots c port slot (suc count) (drop place slots) f
slots_next c port slot count place code slots f e =
    ap (λ (xs : List ℕ). registers_slots c port slot (suc count) xs f) (sym (drop_here slots place code e))

slots_nothing : (c : Carrier) (port : PortNo) (slot count : ℕ) (f : ToolFloor) → registers_slots c port slot count [] f ≡ f
slots_nothing c port slot zero f = refl
slots_nothing c port slot (suc count) f = refl

-- and one behind the last
pub slots_past : (c : Carrier) (port : PortNo) (slot count place : ℕ) (slots : List ℕ) (f : ToolFloor) → slice_get slots place ≡ None
    → registers_slots c port (slot + 1) count (drop (place + 1) slots) f ≡ registers_slots c port slot (suc count) (drop place slots) f
slots_past c port slot count place slots f e =
    let nothing : drop place slots ≡ [] = drop_none slots place e in
    let later : drop (place + 1) slots ≡ [] = sym (drop_past slots place e) ∙ nothing in
    ap (λ (xs : List ℕ). registers_slots c port (slot + 1) count xs f) later ∙ slots_nothing c port (slot + 1) count f ∙ sym (ap (λ (xs : List ℕ). registers_slots c port slot (suc count) xs f) nothing)
