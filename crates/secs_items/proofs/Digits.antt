-- Numbers and their bytes.
use Rattle.std.proofs.Common.{◌≡◌, ◌<◌, ◌≤◌, ◌+◌, ◌*◌, ◌^◌, ◌%◌, ◌/◌, ℕ, zero, suc, List, [], ◌∷◌, ◌++◌, length, slice_index, refl, ap, sym, ◌∙◌, arith, add-zero, append-nil}
use Rattle.std.proofs.Math.Nat.{mod-eq_of_lt, mod-lt, mul-add-mod_self_right, mul-add-div_right, div-eq_of_lt}
use Rattle.std.specs.Int.{byte_at, bytes_high_first}
use Rattle.byteorder.specs.Endian.{big_number}
use Rattle.byteorder.specs.Numbers.{big_from-cons, big_from-bytes, big_from-lt, length-bytes_high_first}
use Rattle.item_model.specs.Spelling.{AreBelow}

pub below_at : (n : ℕ) (xs : List ℕ) (i : ℕ) → 0 < n → AreBelow n xs → slice_index xs i < n
below_at n [] i some below = some
below_at n (x ∷ xs) zero some below = below.0
below_at n (x ∷ xs) (suc i) some below = below_at n xs i some below.1

pub below_from : (n : ℕ) (xs : List ℕ) → ((i : ℕ) → slice_index xs i < n) → AreBelow n xs
below_from n [] each = tt
below_from n (x ∷ xs) each = (each 0, below_from n xs (λ i. each (suc i)))

pub below_append : (n : ℕ) (xs ys : List ℕ) → AreBelow n xs → AreBelow n ys → AreBelow n (xs ++ ys)
below_append n [] ys left right = right
below_append n (x ∷ xs) ys left right = (left.0, below_append n xs ys left.1 right)

pub below_left : (n : ℕ) (xs ys : List ℕ) → AreBelow n (xs ++ ys) → AreBelow n xs
below_left n [] ys below = tt
below_left n (x ∷ xs) ys below = (below.0, below_left n xs ys below.1)

pub below_right : (n : ℕ) (xs ys : List ℕ) → AreBelow n (xs ++ ys) → AreBelow n ys
below_right n [] ys below = below
below_right n (x ∷ xs) ys below = below_right n xs ys below.1

pub below_more : (m n : ℕ) (xs : List ℕ) → m ≤ n → AreBelow m xs → AreBelow n xs
below_more m n [] within below = tt
below_more m n (x ∷ xs) within below = (omega (arith, below.0), below_more m n xs within below.1)

byte_below : (k n : ℕ) → byte_at k n < 256
byte_below zero n = mod-lt n (omega arith)
byte_below (suc k) n = mod-lt (n / 256 ^ suc k) (omega arith)

-- a number's bytes are bytes
pub below_bytes : (k n : ℕ) → AreBelow 256 (bytes_high_first k n)
below_bytes zero n = tt
below_bytes (suc k) n = (byte_below k n, below_bytes k n)

pub number_below : (k : ℕ) (xs : List ℕ) → AreBelow 256 xs → big_number k xs < 256 ^ k
number_below k xs below = big_from-lt 0 k xs (λ i. below_at 256 xs i (omega arith) below)

-- one digit more
same_digit : (p x y r s : ℕ) → r < p → s < p → x * p + r ≡ y * p + s → (x ≡ y) × (r ≡ s)
same_digit p x y r s low high same =
    let some : 0 < p = omega arith in
    let left = mul-add-mod_self_right x p r in
    let right = mul-add-mod_self_right y p s in
    let r_is : r % p ≡ r = mod-eq_of_lt low in
    let s_is : s % p ≡ s = mod-eq_of_lt high in
    let rest : r ≡ s = sym r_is ∙ sym left ∙ ap (λ (n : ℕ). n % p) same ∙ right ∙ s_is in
    let left_top : (x * p + r) / p ≡ x = mul-add-div_right some x r ∙ ap (λ (n : ℕ). x + n) (div-eq_of_lt low) ∙ add-zero x in
    let right_top : (y * p + s) / p ≡ y = mul-add-div_right some y s ∙ ap (λ (n : ℕ). y + n) (div-eq_of_lt high) ∙ add-zero y in
    (sym left_top ∙ ap (λ (n : ℕ). n / p) same ∙ right_top, rest)

-- bytes that make the same number are the same
pub same_bytes : (k : ℕ) (xs ys : List ℕ) → length xs ≡ k → length ys ≡ k → AreBelow 256 xs → AreBelow 256 ys → big_number k xs ≡ big_number k ys → xs ≡ ys
same_bytes zero [] [] e f left right same = refl
same_bytes zero (x ∷ xs) ys e f left right same = absurd (omega arith)
same_bytes zero xs (y ∷ ys) e f left right same = absurd (omega arith)
same_bytes (suc k) [] ys e f left right same = absurd (omega arith)
same_bytes (suc k) (x ∷ xs) [] e f left right same = absurd (omega arith)
same_bytes (suc k) (x ∷ xs) (y ∷ ys) e f left right same =
    let moved_left = big_from-cons 0 k x xs in
    let moved_right = big_from-cons 0 k y ys in
    let parts = same_digit (256 ^ k) x y (big_number k xs) (big_number k ys) (number_below k xs left.1) (number_below k ys right.1) (omega (arith, moved_left, moved_right, same)) in
    let tails = same_bytes k xs ys (omega arith) (omega arith) left.1 right.1 parts.1 in
    rw (parts.0, tails) refl

-- the bytes of the number that bytes make are those bytes
pub bytes_number : (k : ℕ) (xs : List ℕ) → length xs ≡ k → AreBelow 256 xs → bytes_high_first k (big_number k xs) ≡ xs
bytes_number k xs long below =
    let n = big_number k xs in
    let again : big_number k (bytes_high_first k n) ≡ n =
    ap (big_number k) (sym (append-nil (bytes_high_first k n))) ∙ big_from-bytes k n [] ∙ mod-eq_of_lt (number_below k xs below) in
    same_bytes k (bytes_high_first k n) xs (length-bytes_high_first k n) long (below_bytes k n) below again
