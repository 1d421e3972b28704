-- What tests of numbers and locations tell, and who is where.
use Rattle.std.proofs.Common.{◌≡◌, ℕ, ◌==◌, Bool, true, false, not, ◌&&◌, Option, Some, None, refl, sym, ap, ◌∙◌}
use Rattle.std.proofs.lemmas.Bool.{and_parts, and_right}
use Rattle.std.proofs.lemmas.Bool.Decides.{Decides-eqb}
use Rattle.floor_moves.specs.Floor.{Loc, slot, aligner, arm, chamber, Floor, is_same, is_at, is_outside, is_finished, is_done, holder}
use Rattle.floor_moves.specs.Valid.{Empty, PickStands, Places}
use Rattle.floor_moves.proofs.Scans.{find_tells, find_none}

-- ---- numbers and locations

pub is_number : (n m : ℕ) → (n == m) ≡ true → n ≡ m
is_number n m e = (Decides-eqb n m).0 e

pub loc_same : (l m : Loc) → is_same l m ≡ true → l ≡ m
loc_same (slot p n) (slot q m) e = let parts = and_parts (p == q) (n == m) e in let a = is_number p q parts.0 in let b = is_number n m parts.1 in cc
loc_same aligner aligner e = refl
loc_same arm arm e = refl
loc_same (chamber c) (chamber d) e = ap (λ (k : ℕ). chamber k) (is_number c d e)
loc_same _ _ e = absurd (cc)

same_number : (n : ℕ) → (n == n) ≡ true
same_number n = (Decides-eqb n n).1 refl

pub loc_itself : (l : Loc) → is_same l l ≡ true
loc_itself (slot p n) = ap (λ (b : Bool). b && (n == n)) (same_number p) ∙ same_number n
loc_itself aligner = refl
loc_itself arm = refl
loc_itself (chamber c) = same_number c

pub at_tells : (l : Loc) (p : Option Loc) → is_at l p ≡ true → p ≡ Some l
at_tells l None e = absurd (cc)
at_tells l (Some m) e = ap (λ (x : Loc). Some x) (sym (loc_same l m e))

-- who is outside has a location
pub outside_tells : (p : Option Loc) → is_outside p ≡ true → (l : Loc) × (p ≡ Some l)
outside_tells None e = absurd (cc)
outside_tells (Some l) e = (l, refl)

-- a substrate outside is not done
pub outside_not_done : (g : Floor) (n : ℕ) → is_outside (g.place_of n) ≡ true → is_done n g ≡ false
outside_not_done g n out = and_right (is_finished (g.processing n)) (not (is_outside (g.place_of n))) (ap not out)

-- nor is one that an open Pick names
pub picked_not_done : (g : Floor) (m n : ℕ) (l : Loc) → PickStands m n l g → is_done n g ≡ false
picked_not_done g m n (slot p k) s = ap (λ (b : Bool). b && not (is_outside (g.place_of n))) (s.from_slot p k refl)
picked_not_done g m n aligner s = outside_not_done g n (ap is_outside s.stands)
picked_not_done g m n arm s = absurd (s.not_arm refl)
picked_not_done g m n (chamber d) s = outside_not_done g n (ap is_outside s.stands)

-- ---- who is where

module _ (g : Floor) (p : Places g) where
  pub holder_tells : (l : Loc) (n : ℕ) → holder l g ≡ Some n → g.place_of n ≡ Some l
  holder_tells l n e = at_tells l (g.place_of n) (find_tells (λ n. is_at l (g.place_of n)) g.substrates n e).1

  -- nobody holds it, so it is empty
  no_holder : (l : Loc) → holder l g ≡ None → Empty l g
  no_holder l e n at =
      let not_there : is_at l (g.place_of n) ≡ false = find_none (λ n. is_at l (g.place_of n)) g.substrates e n (p.kept n l at) in
      let there : is_at l (g.place_of n) ≡ true = ap (is_at l) at ∙ loc_itself l in
      absurd (cc)

  -- who stands there holds it
  pub holds : (l : Loc) (n : ℕ) → g.place_of n ≡ Some l → holder l g ≡ Some n
  holds l n at = by (holder l g) refl
    where
      by : (o : Option ℕ) → holder l g ≡ o → o ≡ Some n
      by None e = absurd (no_holder l e n at)
      by (Some m) e = ap (λ (k : ℕ). Some k) (p.apart m n l (holder_tells l m e) at)
