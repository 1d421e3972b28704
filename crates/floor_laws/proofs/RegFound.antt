-- A substrate that is kept is found by its name as well as by its number, and so is its place.
use Rattle.std.proofs.Common.{◌≡◌, ◌≤◌, ◌<◌, ℕ, ◌*◌, ◌==◌, Bool, true, false, ◌||◌, List, [], ◌∷◌, length, map, Option, IsSomeAnd, refl, sym, subst, arith}
use Rattle.std.specs.List.{AllByRecursion}
use Rattle.std.proofs.lemmas.Bool.Decides.{Decides-eqb}
use Rattle.std.proofs.lemmas.List.{length-map}
use Rattle.gem_tables.specs.Table.{is_one_of}
use Rattle.gem_ids.specs.declared.numbers.PortNo.{PortNo}
use Rattle.shop_floor.specs.Valid.{IsFloor}
use Rattle.shop_floor.proofs.Present.{has_number, numbered_contained}
use Rattle.substrate.specs.Places.{AreNumbered}
use Rattle.substrate.specs.declared.registered.Registered.{Registered}
use Rattle.floor_model.specs.declared.tracked.Substrate.{Substrate}
use Rattle.floor_model.specs.Floor.{ToolFloor, number_of}
use Rattle.floor_model.specs.Floor.{RiseTo}
use Rattle.floor_moves.specs.Carriers.{AreWithin}
use Rattle.floor_moves.specs.Valid.{Valid}
use Rattle.floor_moves.proofs.Room.{room_for_all}
use Rattle.place_laws.specs.Picture.{picture}
use Rattle.place_laws.specs.Standing.{IsCarried}
use Rattle.place_laws.specs.Sound.{Base}
use Rattle.place_laws.proofs.Holding.{kept_there, own_port, own_slot}

-- ---- how many there are

-- own slots are slots 1 to 25 of ports that are there
pub slots_within : (f : ToolFloor) → IsFloor f.shop → AllByRecursion (IsCarried f.shop.carriers) f.substrates → AreWithin (length f.shop.ports) (picture f)
slots_within f valid carried n e =
    let h = kept_there f carried n e in
    let at : IsSomeAnd h.its.port (λ (p : PortNo). (1 ≤ p.0) × (p.0 ≤ length f.shop.ports)) = has_number f.shop h.its (numbered_contained h.one.carrier f.shop.carriers h.its h.known) h.of.present valid in
    let port = subst (λ (o : Option PortNo). IsSomeAnd o (λ (p : PortNo). (1 ≤ p.0) × (p.0 ≤ length f.shop.ports))) h.of.at at in (
      subst (λ (p : ℕ). 1 ≤ p) (sym (own_port f n h)) port.0,
      subst (λ (p : ℕ). p ≤ length f.shop.ports) (sym (own_port f n h)) port.1,
      subst (λ (k : ℕ). 1 ≤ k) (sym (own_slot f n h)) h.of.first,
      subst (λ (k : ℕ). k ≤ 25) (sym (own_slot f n h)) h.of.last,
    )

-- under less than is told of the floor
pub few_of : (f : ToolFloor) → IsFloor f.shop → AllByRecursion (IsCarried f.shop.carriers) f.substrates → Valid (picture f) → length f.substrates ≤ 25 * length f.shop.ports
few_of f valid carried v =
    let room = room_for_all (picture f) (length f.shop.ports) v (slots_within f valid carried) in
    let same = length-map f.substrates number_of in
    omega (arith, room, same)

-- so there are at most 25 of each port
pub few_substrates : (f : ToolFloor) → Base f → Valid (picture f) → length f.substrates ≤ 25 * length f.shop.ports
few_substrates f b v = few_of f b.shop b.carried v

-- a number of theirs is past the last one before
pub risen : (last given : ℕ) (ss : List Substrate) (n : ℕ) → RiseTo last given ss → is_one_of (map number_of ss) n ≡ true → last < n
risen last given [] n rise e = absurd (cc)
risen last given (s ∷ ss) n rise e = of (s.number == n) refl e (risen s.number given ss n rise.1) where
  of : (b : Bool) → (s.number == n) ≡ b → (b || is_one_of (map number_of ss) n) ≡ true → (is_one_of (map number_of ss) n ≡ true → s.number < n) → last < n
  of true q e later = let same = (Decides-eqb s.number n).0 q in let more = rise.0 in omega (arith, same, more)
  of false q e later = let less = later e in let more = rise.0 in omega (arith, less, more)

-- the number of what has a place is one of theirs
abbrev pub IsAmong : List Substrate → Registered → Type 0
IsAmong ss r = is_one_of (map number_of ss) r.number ≡ true

-- those behind the first one are among the others
others_among : (s : Substrate) (ss : List Substrate) (low given : ℕ) (xs : List Registered) → s.number ≤ low → AreNumbered low given xs → AllByRecursion (IsAmong (s ∷ ss)) xs → AllByRecursion (IsAmong ss) xs
others_among s ss low given [] less rising all = tt
others_among s ss low given (x ∷ xs) less rising all =
    (of (s.number == x.number) refl all.0, others_among s ss x.number given xs (let more = rising.0 in omega (arith, less, more)) rising.1 all.1) where
      of : (b : Bool) → (s.number == x.number) ≡ b → (b || is_one_of (map number_of ss) x.number) ≡ true → is_one_of (map number_of ss) x.number ≡ true
      of true q e = let same = (Decides-eqb s.number x.number).0 q in let more = rising.0 in absurd (omega (arith, same, less, more))
      of false q e = e

-- no more have places than are kept
pub few_held : (last given first to : ℕ) (rs : List Registered) (ss : List Substrate) → AreNumbered last given rs → RiseTo first to ss → AllByRecursion (IsAmong ss) rs → length rs ≤ length ss
few_held last given first to [] ss rising rise all = omega arith
few_held last given first to (r ∷ rs) [] rising rise all = absurd (let no : false ≡ true = all.0 in cc)
few_held last given first to (r ∷ rs) (s ∷ ss) rising rise all =
    of (s.number == r.number) refl all.0
    (λ among. few_held r.number given s.number to rs ss rising.1 rise.1 among)
    (λ among. few_held last given s.number to (r ∷ rs) ss rising rise.1 among) where
      of : (b : Bool) → (s.number == r.number) ≡ b → (b || is_one_of (map number_of ss) r.number) ≡ true
          → (AllByRecursion (IsAmong ss) rs → length rs ≤ length ss) → (AllByRecursion (IsAmong ss) (r ∷ rs) → length (r ∷ rs) ≤ length ss) → length (r ∷ rs) ≤ length (s ∷ ss)
      of true q e one two =
          let same = (Decides-eqb s.number r.number).0 q in
          let later = one (others_among s ss r.number given rs (omega (arith, same)) rising.1 all.1) in
          omega (arith, later)
      of false q e one two =
          let less = risen s.number to ss r.number rise.1 e in
          let later = two (e, others_among s ss r.number given rs (omega (arith, less)) rising.1 all.1) in
          omega (arith, later)
