-- Each substrate has one place, by what holds at every moment.
use Rattle.std.proofs.Common.{◌≡◌, ℕ, true, Some, sym, subst, arith, inl, inr}
use Rattle.std.proofs.lemmas.Bool.{false_from_ne_true}
use Rattle.floor_moves.specs.Floor.{Loc, Floor, own, is_outside}
use Rattle.floor_moves.specs.Carriers.{HasEnded}
use Rattle.floor_moves.specs.Valid.{Empty, Places, Carriers, Members, Valid}
use Rattle.floor_moves.specs.OnePlace.{IsCarried, OnePlace}
use Rattle.floor_moves.proofs.Facts.{outside_tells, holds, holder_tells}

-- the own slot of a substrate outside its slot is empty
pub own_free : (g : Floor) → Places g → (n : ℕ) → is_outside (g.place_of n) ≡ true → Empty (own n g) g
own_free g p n out k at =
    let there = outside_tells (g.place_of n) out in
    let its : own n g ≡ own k g = p.home k _ _ at in
    let same : n ≡ k = p.slots n k (p.kept n there.0 there.1) (p.kept k (own n g) at) its in
    let home : g.place_of n ≡ Some (own n g) = subst (λ (m : ℕ). g.place_of m ≡ Some (own n g)) (sym same) at in
    absurd (cc)

-- a carrier that has ended has no substrate in a job
pub no_member : (g : Floor) → Carriers g → Members g → (n : ℕ) → HasEnded (g.carrier_of n) g → g.jobs.is_member n ≡ true → ⊥
no_member g c m n (inl ends) is = let less = m.here n is in omega (arith, less, ends)
no_member g c m n (inr unread) is = let read = c.verified n (m.kept n is) in cc

pub one_place : (g : Floor) → Valid g → OnePlace g
one_place g v = record {
  apart = v.places.apart;
  occupies = λ n l at. holds g v.places l n at;
  is_there = λ n l e. holder_tells g v.places l n e;
  numbers = v.commands.numbers;
  below = v.commands.below;
  picks = λ m n l c e t. let s = v.commands.picks m n l c e t in (s.stands, s.free);
  places = λ m n l c e t. let s = v.commands.places m n l c e t in (s.stands, s.free);
  aligns = λ m n c e t. let s = v.commands.aligns m n c e t in (s.its_module, s.stands);
  processes = λ m n c e t. let s = v.commands.processes m n c e t in (s.0, s.1, s.2);
  in_slot = λ n p k at. (v.places.home n p k at, carried n _ at);
  one_carrier = v.carriers.alone;
  slot_waits = λ n out. (own_free g v.places n out, (let there = outside_tells (g.place_of n) out in carried n there.0 there.1));
  ended_inside = λ n ends. false_from_ne_true (is_outside (g.place_of n)) (λ out. no_member g v.carriers v.members n ends (v.members.outside n out));
  ended_unnamed = λ n ends m c e its. no_member g v.carriers v.members n ends (subst (λ (k : ℕ). g.jobs.is_member k ≡ true) its (v.members.named m c e));
} where
  -- a substrate that is kept has its carrier there
  carried : (n : ℕ) (l : Loc) → g.place_of n ≡ Some l → IsCarried n g
  carried n l at = (v.carriers.present n (v.places.kept n l at), v.carriers.verified n (v.places.kept n l at))
