-- A substrate that goes to an empty place of the tool: places keep their rules, and what holds besides numbers is kept.
use Rattle.std.proofs.Common.{◌≡◌, ◌≤◌, ◌<◌, ℕ, zero, suc, ◌+◌, ◌==◌, nat_le, Bool, true, false, not, ◌&&◌, ◌||◌, if◌then◌else◌, List, [], ◌∷◌, length, Option, Some, IsSomeAnd, refl, sym, ◌∙◌, ap, subst, arith}
use Rattle.std.specs.List.{AllByRecursion}
use Rattle.std.proofs.lemmas.Bool.Decides.{Decides-eqb, nat_tests}
use Rattle.gem_tables.specs.Table.{is_one_of}
use Rattle.gem_tables.proofs.Rows.{both}
use Rattle.gem_ids.specs.declared.numbers.LocId.{LocId}
use Rattle.gem_ids.specs.declared.numbers.LocId.TheVariants.{Slot, Chamber}
use Rattle.gem_ids.specs.declared.numbers.PortNo.{PortNo}
use Rattle.gem_ids.specs.declared.numbers.SlotNo.{SlotNo}
use Rattle.robot_moves.specs.declared.module.Module.{Module as ToolModule}
use Rattle.shop_floor.proofs.Present.{has_number, numbered_contained}
use Rattle.substrate.specs.Locations.{is_same, is_location}
use Rattle.substrate.specs.Places.{PlaceMap, ArePlaces, has_name, substrate_named, is_there, is_taken, moves_to, moved, shifted, can_shift}
use Rattle.substrate.specs.declared.registered.Registered.{Registered}
use Rattle.substrate.proofs.Sites.{own_place as same_place}
use Rattle.substrate.proofs.Standing.{found_all, apart_moved, length_moved, numbered_moved, within_moved, placed_moved}
use Rattle.floor_model.specs.Floor.{ToolFloor, with_module}
use Rattle.floor_model.specs.Modules.{goes}
use Rattle.floor_moves.specs.Floor.{slot, own}
use Rattle.floor_moves.specs.Valid.{Empty}
use Rattle.place_laws.specs.Picture.{picture, loc_of, numbers_from}
use Rattle.place_laws.specs.Sound.{IsOfKept, Base}
use Rattle.place_laws.proofs.Holding.{IsThere, kept_there, own_place}
use Rattle.floor_laws.proofs.EndNames.{taken_tells}
use Rattle.place_laws.proofs.Names.{loc_one}
use Rattle.floor_laws.proofs.IssueSound.{changed_many}

-- ---- modules

-- a module changes
pub module_base : (m : ℕ) (change : ToolModule → ToolModule) (f : ToolFloor) → Base f → Base (with_module m change f)
module_base m change f b = record {
  shop = b.shop;
  carried = b.carried;
  registered = b.registered;
  apart = b.apart;
  rising = b.rising;
  same_ports = b.same_ports;
  modules = let same = changed_many m change f.modules in let less = b.modules in omega (arith, same, less);
  places = b.places;
  held = b.held;
  jobs = record { numbered = b.jobs.numbered; given = b.jobs.given; members = b.jobs.members };
}

-- ---- one that moves

module _ (sub : List ℕ) (to : LocId) where
  -- what has a place is of a substrate that is kept
  all_moved : (P : Registered → Type 0) → ((r : Registered) → P r → P (moves_to to r)) → (rs : List Registered) → AllByRecursion P rs → AllByRecursion P (moved sub to rs)
  all_moved P on [] all = tt
  all_moved P on (r ∷ rs) all = (of (has_name sub r), all_moved P on rs all.1) where
    of : (b : Bool) → P (if b then moves_to to r else r)
    of true = on r all.0
    of false = all.0

  -- places keep their rules
  moved_places : (p : PlaceMap) → is_location p.ports p.chambers to ≡ true → is_taken to p.held ≡ false → ArePlaces p → ArePlaces (record p { held = moved sub to p.held })
  moved_places p there free a = record {
    named_apart = apart_moved sub to p.held a.named_apart;
    placed_apart = placed_moved sub to p.held a.named_apart a.placed_apart free;
    within = within_moved sub to p.ports p.chambers p.held a.within there;
    numbered = numbered_moved sub to 0 p.given p.held a.numbered;
    few = let same = length_moved sub to p.held in let most = a.few in omega (arith, same, most);
  }

  -- what holds besides numbers is kept
  pub moved_base : (f : ToolFloor) → is_location f.places.ports f.places.chambers to ≡ true → is_taken to f.places.held ≡ false → Base f → Base (record f { places = record f.places { held = moved sub to f.places.held } })
  moved_base f there free b = record {
    shop = b.shop;
    carried = b.carried;
    registered = b.registered;
    apart = b.apart;
    rising = b.rising;
    same_ports = b.same_ports;
    modules = b.modules;
    places = moved_places f.places there free b.places;
    held = all_moved (IsOfKept f.substrates) (λ r is. is) f.places.held b.held;
    jobs = record { numbered = b.jobs.numbered; given = b.jobs.given; members = b.jobs.members };
  }

  -- it can go there: both are places of the tool, it is at the one, and nobody is at the other
  pub can_go : (from : LocId) (p : PlaceMap) (r : Registered) → ArePlaces p → substrate_named sub p.held ≡ Some r → r.at ≡ from → is_location p.ports p.chambers to ≡ true → is_taken to p.held ≡ false
      → ((is_location p.ports p.chambers from && is_location p.ports p.chambers to) ≡ true) × (can_shift sub from to p.held ≡ true)
  can_go from p r a named at there free =
      let inside : is_location p.ports p.chambers from ≡ true = sym (ap (is_location p.ports p.chambers) at) ∙ found_all (λ x. is_location p.ports p.chambers x.at) sub p.held r a.within named in
      let stands : is_there from (substrate_named sub p.held) ≡ true = ap (is_there from) named ∙ ap (λ (l : LocId). is_same l from) at ∙ same_place from in
      (both (is_location p.ports p.chambers from) (is_location p.ports p.chambers to) inside there, both (is_there from (substrate_named sub p.held)) (not (is_taken to p.held)) stands (ap not free))

  -- so it goes there
  pub goes_there : (from : LocId) (p : PlaceMap) → ((is_location p.ports p.chambers from && is_location p.ports p.chambers to) ≡ true) × (can_shift sub from to p.held ≡ true) → goes sub from to p ≡ record p { held = moved sub to p.held }
  goes_there from p can = ap (λ (b : Bool). if b then shifted sub from to p else p) can.0 ∙ ap (λ (b : Bool). if b then record p { held = moved sub to p.held } else p) can.1

-- ---- where it may go

-- nobody is at a place that is empty by number
pub not_taken : (f : ToolFloor) → Base f → (to : LocId) → Empty (loc_of to) (picture f) → is_taken to f.places.held ≡ false
not_taken f b to free = of (is_taken to f.places.held) refl where
  of : (t : Bool) → is_taken to f.places.held ≡ t → t ≡ false
  of true e = let w = taken_tells to 0 f.places.given f.places.held b.places.numbered e in absurd (free w.0 w.2)
  of false e = refl

-- a number of these
number_within : (c n count : ℕ) → is_one_of (numbers_from n count) c ≡ true → (n ≤ c) × (c < n + count)
number_within c n zero e = absurd (cc)
number_within c n (suc count) e = of (n == c) refl e (number_within c (n + 1) count) where
  of : (b : Bool) → (n == c) ≡ b → (b || is_one_of (numbers_from (n + 1) count) c) ≡ true → (is_one_of (numbers_from (n + 1) count) c ≡ true → (n + 1 ≤ c) × (c < n + 1 + count)) → (n ≤ c) × (c < n + suc count)
  of true q f rest = let same = (Decides-eqb n c).0 q in (omega (arith, same), omega (arith, same))
  of false q f rest = let w = rest f in let low = w.0 in let high = w.1 in (omega (arith, low), omega (arith, high))

-- a chamber of the tool is one of its places
pub chamber_inside : (ports chambers c : ℕ) → is_one_of (numbers_from 1 chambers) c ≡ true → is_location ports chambers (Chamber c) ≡ true
chamber_inside ports chambers c e =
    let w = number_within c 1 chambers e in
    let low = w.0 in
    let high = w.1 in
    let most : c ≤ chambers = omega (arith, high) in
    let one : nat_le 1 c ≡ true = grind (arith, nat_tests) in
    let two : nat_le c chambers ≡ true = grind (arith, nat_tests) in
    both (nat_le 1 c) (nat_le c chambers) one two

-- the slot of a substrate that is kept is one of its places
pub slot_inside : (f : ToolFloor) → Base f → (n : ℕ) (h : IsThere f n) → is_location f.places.ports f.places.chambers h.one.slot ≡ true
slot_inside f b n h = ap (is_location f.places.ports f.places.chambers) h.of.own ∙ within where
  port : (1 ≤ h.of.port.0) × (h.of.port.0 ≤ length f.shop.ports)
  port = subst (λ (o : Option PortNo). IsSomeAnd o (λ n. (1 ≤ n.0) × (n.0 ≤ length f.shop.ports))) h.of.at (has_number f.shop h.its (numbered_contained h.one.carrier f.shop.carriers h.its h.known) h.of.present b.shop)

  tests : (p k ports : ℕ) → 1 ≤ p → p ≤ ports → 1 ≤ k → k ≤ 25 → ((nat_le 1 p && nat_le p ports) && (nat_le 1 k && nat_le k 25)) ≡ true
  tests p k ports a b c d =
      let one : nat_le 1 p ≡ true = grind (arith, nat_tests) in
      let two : nat_le p ports ≡ true = grind (arith, nat_tests) in
      let three : nat_le 1 k ≡ true = grind (arith, nat_tests) in
      let four : nat_le k 25 ≡ true = grind (arith, nat_tests) in
      both (nat_le 1 p && nat_le p ports) (nat_le 1 k && nat_le k 25) (both (nat_le 1 p) (nat_le p ports) one two) (both (nat_le 1 k) (nat_le k 25) three four)

  within : is_location f.places.ports f.places.chambers (Slot h.of.port h.of.slot) ≡ true
  within = let most = port.1 in let same = b.same_ports in tests h.of.port.0 h.of.slot.0 f.places.ports port.0 (omega (arith, most, same)) h.of.first h.of.last

-- where a substrate of a number that is kept has its own slot
pub own_inside : (f : ToolFloor) → Base f → (n : ℕ) → is_one_of (picture f).substrates n ≡ true → (p : PortNo) (k : SlotNo) → slot p.0 k.0 ≡ own n (picture f) → is_location f.places.ports f.places.chambers (Slot p k) ≡ true
own_inside f b n kept p k e =
    let h = kept_there f b.carried n kept in
    let same : Slot p k ≡ h.one.slot = loc_one (Slot p k) h.one.slot (e ∙ own_place f n h) in
    ap (is_location f.places.ports f.places.chambers) same ∙ slot_inside f b n h
