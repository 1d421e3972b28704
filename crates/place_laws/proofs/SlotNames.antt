-- The names of substrates: each slot of each carrier has one of its own.
use Rattle.std.proofs.Common.{◌≡◌, ℕ, suc, ◌+◌, ◌/◌, ◌%◌, List, [], ◌∷◌, ◌++◌, length, refl, ap, arith}
use Rattle.std.proofs.lemmas.List.{length-append}
use Rattle.std.proofs.Math.Nat.{div-add-mod}
use Rattle.gem_ids.specs.Names.{two_digits, name_in_slot}

-- two texts with ends of one length
ends_apart : (a b x y : List ℕ) → length x ≡ length y → a ++ x ≡ b ++ y → (a ≡ b) × (x ≡ y)
ends_apart [] [] x y l e = (refl, e)
ends_apart (h ∷ a) (k ∷ b) x y l e =
    let head : h ≡ k = cc in
    let tail : a ++ x ≡ b ++ y = cc in
    let later = ends_apart a b x y l tail in
    let rest = later.0 in
    let whole : h ∷ a ≡ k ∷ b = cc in
    (whole, later.1)
ends_apart [] (k ∷ b) x y l e =
    let more : length x ≡ suc (length (b ++ y)) = ap length e in
    let all = length-append b y in
    absurd (omega (arith, l, more, all))
ends_apart (h ∷ a) [] x y l e =
    let more : suc (length (a ++ x)) ≡ length y = ap length e in
    let all = length-append a x in
    absurd (omega (arith, l, more, all))

same_digits : (j k : ℕ) → two_digits j ≡ two_digits k → j ≡ k
same_digits j k e =
    let tens : 48 + j / 10 ≡ 48 + k / 10 = cc in
    let ones : 48 + j % 10 ≡ 48 + k % 10 = cc in
    let one = div-add-mod j 10 in
    let two = div-add-mod k 10 in
    omega (arith, tens, ones, one, two)

-- one name, one carrier's name and one slot
pub slot_of_name : (a b : List ℕ) (j k : ℕ) → name_in_slot a j ≡ name_in_slot b k → (a ≡ b) × (j ≡ k)
slot_of_name a b j k e =
    let parts = ends_apart a b (46 ∷ two_digits j) (46 ∷ two_digits k) refl e in
    let ends = parts.1 in
    let digits : two_digits j ≡ two_digits k = cc in
    (parts.0, same_digits j k digits)
