-- Each word, alone.
use Rattle.std.proofs.Common.{◌≡◌, ℕ, zero, suc, ◌+◌, ◌*◌, ◌-◌, ◌<◌, ◌≤◌, ◌==◌, ◌&&◌, nat_lt, nat_le, not, Bool, true, false, cond, List, [], ◌∷◌, ◌++◌, length, take, get_or, fold, refl, sym, ◌∙◌, ap, subst, inl, inr, Option, Some, None, Result, Ok, Err, append-nil, append_assoc, length-append, arith, replicate}
use Rattle.std.proofs.lemmas.List.{length-replicate}
use Rattle.std.proofs.lemmas.List.Folds.{list_all-append}
use Rattle.std.proofs.lemmas.List.Sums.{fold-append}
use Rattle.std.proofs.lemmas.Bool.{cases_lt, ltb-true, ltb-false, le-ltb, lt-ltb, leb-true, le-leb, ne_eqb, eq-eqb}
use Rattle.std.proofs.Math.Seq.{take-append-add, take-append_seam, take-length}
use Rattle.std.specs.List.{list_all}
use Rattle.gem_ids.specs.Texts.{IsPrintable, IsText}
use Rattle.std.specs.Char.{is_ascii_digit}
use Rattle.line_grammar.specs.Words.{Word, number, run, hex, Value, IsWord, ArePairs, is_number, decimal_value, least, most, has, hex_digit}
use Rattle.line_grammar.specs.Grammar.{CanGoOn, LeavesAt}
use Rattle.line_grammar.specs.declared.kind.WordKind.{WordKind}
use Rattle.line_grammar.specs.Reading.{word_at, run_at, number_at, digits_at, pairs_at, hex_at, half_at, pair_at, low_at, ◌>>=◌}
use Rattle.line_grammar.specs.declared.kind.WordKind.TheVariants.{Name, Substrate, SlotMap}
use Rattle.line_grammar.proofs.Exact.{Exact, behind_leaves}
use Rattle.line_grammar.proofs.Spaces.{NoSpace}

pub word_lives : (w : Word) → (text : List ℕ) × (v : Value w) × IsWord w text v
word_lives (number top) = (48 ∷ [], 0, (refl, refl, omega arith))
word_lives (run Name) = (65 ∷ [], 65 ∷ [], (omega arith, omega arith, refl, refl))
word_lives (run Substrate) = (replicate 4 65, replicate 4 65, (omega arith, omega arith, refl, refl))
word_lives (run SlotMap) = (replicate 25 48, replicate 25 48, (omega arith, omega arith, refl, refl))
word_lives hex = (48 ∷ 48 ∷ [], 0 ∷ [], ((λ same. cc), (0, 0, [], refl, refl, refl, refl)))

pub word_same : (w : Word) (text : List ℕ) (u v : Value w) → IsWord w text u → IsWord w text v → u ≡ v
word_same (number top) text u v one other = one.1 ∙ sym other.1
word_same (run k) text u v one other = one.3 ∙ sym other.3
word_same hex text u v one other = same_pairs text u v one.1 other.1
  where
    same_pairs : (text u v : List ℕ) → ArePairs text u → ArePairs text v → u ≡ v
    same_pairs [] u v one other = one ∙ sym other
    same_pairs (a ∷ []) u v one other = absurd one
    same_pairs (a ∷ b ∷ text) u v (h, l, r, high, low, more, is) (h', l', r', high', low', more', is') =
        let rests : r ≡ r' = same_pairs text r r' more more' in
        let highs : h ≡ h' = cc in
        let lows : l ≡ l' = cc in
        cc

pub both : (a b : Bool) → (a && b) ≡ true → (a ≡ true) × (b ≡ true)
both true b is = (refl, is)
both false b is = cc

-- ---- no word has a space

no_space_all : (p : ℕ → Bool) → p 32 ≡ false → (text : List ℕ) → list_all p text ≡ true → NoSpace text
no_space_all p not [] all = tt
no_space_all p not (b ∷ bs) all =
    let (head, more) = both (p b) (list_all p bs) all in
    ((λ is. let e : p b ≡ p 32 = ap p is in cc), no_space_all p not bs more)

digits_all : (text : List ℕ) → is_number text ≡ true → list_all is_ascii_digit text ≡ true
digits_all [] is = cc
digits_all (b ∷ []) is = rw is refl
digits_all (b ∷ c ∷ digits) is = (both (not (b == 48)) _ is).1

hex_bare : (b v : ℕ) → hex_digit b ≡ Some v → b ≡ 32 → ⊥
hex_bare b v is at = let e : hex_digit 32 ≡ Some v = subst (λ (n : ℕ). hex_digit n ≡ Some v) at is in cc

pairs_bare : (text v : List ℕ) → ArePairs text v → NoSpace text
pairs_bare [] v are = tt
pairs_bare (a ∷ []) v are = absurd are
pairs_bare (a ∷ b ∷ text) v (h, l, r, high, low, more, is) = (hex_bare a h high, (hex_bare b l low, pairs_bare text r more))

pub no_space : (w : Word) (text : List ℕ) (v : Value w) → IsWord w text v → NoSpace text
no_space (number top) text v is = no_space_all is_ascii_digit refl text (digits_all text is.0)
no_space (run Name) text v is = no_space_all (has Name) refl text is.2
no_space (run Substrate) text v is = no_space_all (has Substrate) refl text is.2
no_space (run SlotMap) text v is = no_space_all (has SlotMap) refl text is.2
no_space hex text v is = pairs_bare text v is.1

-- ---- runs of bytes

-- what any byte goes behind
stops : {V : Type 0} (L : List ℕ → V → Type 0) (front : List ℕ) (b : ℕ) (bs : List ℕ) → CanGoOn L front →
    ((more : List ℕ) (v : V) → L (front ++ b ∷ more) v → ⊥) → LeavesAt L (front ++ b ∷ bs) (length front)
stops L front b bs begins never = record {
  within = omega (arith, length-append front (b ∷ bs));
  begins = rw (take-append_seam front (b ∷ bs)) begins;
  ends = λ low (more, v, says). never more v (subst (λ (t : List ℕ). L t v) (one_more more) says);
  outside = λ v says. never bs v says;
}
  where
    one_more : (more : List ℕ) → take (length front + 1) (front ++ b ∷ bs) ++ more ≡ front ++ b ∷ more
    one_more more = rw (take-append-add front (b ∷ bs) 1, append_assoc) refl

-- a text that has to go on
wants : {V : Type 0} (L : List ℕ → V → Type 0) (text : List ℕ) → CanGoOn L text → ((v : V) → L text v → ⊥) → LeavesAt L text (length text)
wants L text begins never = record {
  within = omega arith;
  begins = rw (take-length text) begins;
  ends = λ low go. absurd (omega arith);
  outside = never;
}

filler : WordKind → ℕ
filler Name = 65
filler Substrate = 65
filler SlotMap = 48

fills : (k : WordKind) (n : ℕ) → list_all (has k) (replicate n (filler k)) ≡ true
unfolding filler
fills k zero = refl
fills Name (suc n) = fills Name n
fills Substrate (suc n) = fills Substrate n
fills SlotMap (suc n) = fills SlotMap n

spread : (k : WordKind) → least k ≤ most k
spread Name = omega arith
spread Substrate = omega arith
spread SlotMap = omega arith

run_goes : (k : WordKind) (front : List ℕ) → list_all (has k) front ≡ true → length front ≤ most k → CanGoOn (IsWord (run k)) front
run_goes k front all low =
    let more : List ℕ = replicate (least k - length front) (filler k) in
    let size : length more ≡ least k - length front = length-replicate (least k - length front) (filler k) in
    let wide = spread k in
    (more, front ++ more, (omega (arith, length-append front more), omega (arith, length-append front more), rw (list_all-append (has k) front more, all) (fills k _), refl))

run_exact : (k : WordKind) (base total : ℕ) (bs front : List ℕ) (count : ℕ) → count ≡ length front → base + length (front ++ bs) ≡ total →
    list_all (has k) front ≡ true → length front ≤ most k → Exact (IsWord (run k)) base (front ++ bs) (run_at k total count bs >>= λ done. Ok (front ++ bs))
unfolding run_at
run_exact k base total [] front count so same all low =
    elim (cases_lt count (least k)) [
      | inl fewer ↦ rw (lt-ltb count (least k) fewer, append-nil front) (length front, omega (arith, length-append front []), wants (IsWord (run k)) front (run_goes k front all low) (λ v is. absurd (omega (arith, is.0))))
      | inr enough ↦ rw (le-ltb count (least k) enough, append-nil front) (omega arith, low, all, refl)
    ]
run_exact k base total (b ∷ bs) front count so same all low =
    by_test (has k b && nat_lt count (most k)) refl (λ head fewer.
    run_exact k base total bs (front ++ b ∷ []) (count + 1) (omega (arith, length-append front (b ∷ [])))
    (omega (arith, ap length (append_assoc front (b ∷ []) bs))) (rw (list_all-append (has k) front (b ∷ []), all, head) refl) (omega (arith, length-append front (b ∷ []))))
  where
    by_test : (t : Bool) → (has k b && nat_lt count (most k)) ≡ t →
        (has k b ≡ true → count < most k → Exact (IsWord (run k)) base ((front ++ b ∷ []) ++ bs) (run_at k total (count + 1) bs >>= λ done. Ok ((front ++ b ∷ []) ++ bs))) →
        Exact (IsWord (run k)) base (front ++ b ∷ bs) ((cond t (run_at k total (count + 1) bs) (Err (total - length (b ∷ bs)))) >>= λ done. Ok (front ++ b ∷ bs))
    by_test true is next =
        let (head, room) = both (has k b) _ is in
        subst (λ (t : List ℕ). Exact (IsWord (run k)) base t (run_at k total (count + 1) bs >>= λ done. Ok t)) (append_assoc front (b ∷ []) bs)
        (next head (ltb-true count (most k) room))
    by_test false is next =
        (length front, omega (arith, length-append front (b ∷ bs)), stops (IsWord (run k)) front b bs (run_goes k front all low) never)
      where
        never : (more v : List ℕ) → IsWord (run k) (front ++ b ∷ more) v → ⊥
        never more v (least, most_, each, value) =
            let (ones, others) = both (list_all (has k) front) (list_all (has k) (b ∷ more)) (sym (list_all-append (has k) front (b ∷ more)) ∙ each) in
            let (head, rest) = both (has k b) (list_all (has k) more) others in
            let fewer : nat_lt count (most k) ≡ true = lt-ltb count (most k) (omega (arith, length-append front (b ∷ more))) in
            let yes : (has k b && nat_lt count (most k)) ≡ true = rw (head, fewer) refl in
            cc

-- ---- numbers

value_next : (front : List ℕ) (b : ℕ) → decimal_value (front ++ b ∷ []) ≡ 10 * decimal_value front + (b - 48)
value_next front b = fold-append (λ n digit. 10 * n + (digit - 48)) 0 front (b ∷ [])

value_from : (n : ℕ) (digits : List ℕ) → n ≤ fold (λ n digit. 10 * n + (digit - 48)) n digits
value_from n [] = omega arith
value_from n (x ∷ digits) = let more = value_from (10 * n + (x - 48)) digits in omega arith

value_front : (front back : List ℕ) → decimal_value front ≤ decimal_value (front ++ back)
value_front front back = rw (fold-append (λ n digit. 10 * n + (digit - 48)) 0 front back) (value_from (decimal_value front) back)

-- a digit may follow a number that isn't 0
number_next : (front : List ℕ) (b : ℕ) → is_number front ≡ true → 0 < decimal_value front → is_ascii_digit b ≡ true → is_number (front ++ b ∷ []) ≡ true
number_next [] b is some digit = cc
number_next (x ∷ []) b is some digit =
    let other : x ≡ 48 → ⊥ = λ zero_digit. omega arith in
    rw (ne_eqb x 48 other, is, digit) refl
number_next (x ∷ y ∷ ys) b is some digit =
    let (first, all) = both (not (x == 48)) _ is in
    let more : list_all is_ascii_digit ((x ∷ y ∷ ys) ++ b ∷ []) ≡ true = rw (list_all-append is_ascii_digit (x ∷ y ∷ ys) (b ∷ []), all, digit) refl in
    rw (first) more

-- and no other byte may
number_ends : (front : List ℕ) (b : ℕ) (more : List ℕ) → is_number front ≡ true → is_number (front ++ b ∷ more) ≡ true →
    (is_ascii_digit b ≡ true) × (0 < decimal_value front)
number_ends [] b more one two = cc
number_ends (x ∷ xs) b more one two =
    let (first, all) = longer xs two in
    let (ones, others) = both _ _ (sym (list_all-append is_ascii_digit (x ∷ xs) (b ∷ more)) ∙ all) in
    let (digit, rest) = both (is_ascii_digit b) _ others in
    let (x_digit, xs_digits) = both (is_ascii_digit x) _ ones in
    let other : x ≡ 48 → ⊥ = λ is. let e : (x == 48) ≡ true = eq-eqb x 48 is in let f : not (x == 48) ≡ false = rw e refl in cc in
    let low : 48 ≤ x = leb-true 48 x (both (nat_le 48 x) _ x_digit).0 in
    (digit, omega (arith, value_from (10 * 0 + (x - 48)) xs))
  where
    longer : (xs : List ℕ) → is_number (x ∷ (xs ++ b ∷ more)) ≡ true → (not (x == 48) ≡ true) × (list_all is_ascii_digit (x ∷ (xs ++ b ∷ more)) ≡ true)
    longer [] is = both (not (x == 48)) _ is
    longer (y ∷ ys) is = both (not (x == 48)) _ is

digits_exact : (top base total : ℕ) (bs front : List ℕ) (n : ℕ) → base + length (front ++ bs) ≡ total → IsWord (number top) front n →
    Exact (IsWord (number top)) base (front ++ bs) (digits_at top total n bs)
unfolding digits_at
digits_exact top base total [] front n same is = rw (append-nil front) is
digits_exact top base total (b ∷ bs) front n same (is, value, low) =
    by_test (is_ascii_digit b && nat_lt 0 n && nat_le (10 * n + (b - 48)) top) refl (λ next.
    digits_exact top base total bs (front ++ b ∷ []) (10 * n + (b - 48)) (omega (arith, ap length (append_assoc front (b ∷ []) bs))) next)
  where
    by_test : (t : Bool) → (is_ascii_digit b && nat_lt 0 n && nat_le (10 * n + (b - 48)) top) ≡ t →
        (IsWord (number top) (front ++ b ∷ []) (10 * n + (b - 48)) → Exact (IsWord (number top)) base ((front ++ b ∷ []) ++ bs) (digits_at top total (10 * n + (b - 48)) bs)) →
        Exact (IsWord (number top)) base (front ++ b ∷ bs) (cond t (digits_at top total (10 * n + (b - 48)) bs) (Err (total - length (b ∷ bs))))
    by_test true passes next =
        let (first, fits) = both (is_ascii_digit b && nat_lt 0 n) _ passes in
        let (digit, some) = both (is_ascii_digit b) _ first in
        let more : 0 < n = ltb-true 0 n some in
        let within : 10 * n + (b - 48) ≤ top = leb-true (10 * n + (b - 48)) top fits in
        subst (λ (t : List ℕ). Exact (IsWord (number top)) base t (digits_at top total (10 * n + (b - 48)) bs)) (append_assoc front (b ∷ []) bs)
        (next (number_next front b is (omega arith) digit, rw (value_next front b, value) refl, within))
    by_test false fails next =
        (length front, omega (arith, length-append front (b ∷ bs)), stops (IsWord (number top)) front b bs ([], n, rw (append-nil front) (is, value, low)) never)
      where
        never : (more : List ℕ) (v : ℕ) → IsWord (number top) (front ++ b ∷ more) v → ⊥
        never more v (whole, v_is, v_low) =
            let (digit, some) = number_ends front b more is whole in
            let part_low = value_front (front ++ b ∷ []) more in
            let at : decimal_value ((front ++ b ∷ []) ++ more) ≡ v = ap decimal_value (append_assoc front (b ∷ []) more) ∙ sym v_is in
            let within : 10 * n + (b - 48) ≤ top = omega (arith, value_next front b) in
            let one : nat_lt 0 n ≡ true = lt-ltb 0 n (omega arith) in
            let two : nat_le (10 * n + (b - 48)) top ≡ true = le-leb (10 * n + (b - 48)) top within in
            let yes : (is_ascii_digit b && nat_lt 0 n && nat_le (10 * n + (b - 48)) top) ≡ true = rw (digit, one, two) refl in
            cc

number_exact : (top base total : ℕ) (text : List ℕ) → base + length text ≡ total → Exact (IsWord (number top)) base text (number_at top total text)
unfolding number_at
number_exact top base total [] same =
    (0, omega arith, wants (IsWord (number top)) [] (48 ∷ [], 0, (refl, refl, omega arith)) (λ v is. let e : false ≡ true = is.0 in cc))
number_exact top base total (b ∷ bs) same = by_test (is_ascii_digit b && nat_le (b - 48) top) refl
  where
    by_test : (t : Bool) → (is_ascii_digit b && nat_le (b - 48) top) ≡ t →
        Exact (IsWord (number top)) base (b ∷ bs) (cond t (digits_at top total (b - 48) bs) (Err (total - length (b ∷ bs))))
    by_test true passes =
        let (digit, fits) = both (is_ascii_digit b) _ passes in
        digits_exact top base total bs (b ∷ []) (b - 48) same (digit, omega arith, leb-true (b - 48) top fits)
    by_test false fails =
        (0, omega arith, stops (IsWord (number top)) [] b bs (48 ∷ [], 0, (refl, refl, omega arith)) never)
      where
        never : (more : List ℕ) (v : ℕ) → IsWord (number top) (b ∷ more) v → ⊥
        never more v (whole, v_is, v_low) =
            let (digit, rest) = both (is_ascii_digit b) _ (digits_all (b ∷ more) whole) in
            let fits : nat_le (b - 48) top ≡ true = le-leb (b - 48) top (omega (arith, value_from (10 * 0 + (b - 48)) more)) in
            let yes : (is_ascii_digit b && nat_le (b - 48) top) ≡ true = rw (digit, fits) refl in
            cc

-- ---- hex digits

no_digit : (a : ℕ) (more v : List ℕ) → hex_digit a ≡ None → ArePairs (a ∷ more) v → ⊥
no_digit a [] v none are = are
no_digit a (b ∷ more) v none (h, l, r, high, low, others, is) = cc

no_second : (a b : ℕ) (more v : List ℕ) → hex_digit b ≡ None → ArePairs (a ∷ b ∷ more) v → ⊥
no_second a b more v none (h, l, r, high, low, others, is) = cc

open_pair : (a h : ℕ) → hex_digit a ≡ Some h → CanGoOn ArePairs (a ∷ [])
open_pair a h high = (48 ∷ [], (16 * h + 0) ∷ [], (h, 0, [], high, refl, refl, refl))

pairs_exact : (base total : ℕ) (text : List ℕ) → base + length text ≡ total → Exact ArePairs base text (pairs_at total text)
unfolding pairs_at
pairs_exact base total [] same = refl
pairs_exact base total (a ∷ []) same = by_digit (hex_digit a) refl
  where
    by_digit : (o : Option ℕ) → hex_digit a ≡ o → Exact ArePairs base (a ∷ []) (half_at total o)
    by_digit None none = (0, omega arith, stops ArePairs [] a [] ([], [], refl) (λ more v are. no_digit a more v none are))
    by_digit (Some h) high = (1, omega arith, wants ArePairs (a ∷ []) (open_pair a h high) (λ v are. are))
pairs_exact base total (a ∷ b ∷ bs) same = by_first (hex_digit a) refl (pairs_exact (base + 2) total bs (omega arith))
  where
    joined : (h l : ℕ) → hex_digit a ≡ Some h → hex_digit b ≡ Some l → (r : Result (List ℕ) ℕ) → Exact ArePairs (base + 2) bs r →
        Exact ArePairs base (a ∷ b ∷ bs) (r >>= λ bytes. Ok ((16 * h + l) ∷ bytes))
    joined h l high low (Ok v) are = (h, l, v, high, low, are, refl)
    joined h l high low (Err e) (p, is, leaves) = (
      2 + p,
      omega arith,
      behind_leaves ArePairs ArePairs (a ∷ b ∷ []) bs p
          (λ t u are. ((16 * h + l) ∷ u, (h, l, u, high, low, are, refl))) (λ t v are. (are.2, are.5)) leaves,
    )

    by_second : (h : ℕ) → hex_digit a ≡ Some h → (o : Option ℕ) → hex_digit b ≡ o → Exact ArePairs (base + 2) bs (pairs_at total bs) →
        Exact ArePairs base (a ∷ b ∷ bs) (low_at (total - length (a ∷ b ∷ bs) + 1) h o >>= λ byte. pairs_at total bs >>= λ bytes. Ok (byte ∷ bytes))
    by_second h high None none more = (1, omega arith, stops ArePairs (a ∷ []) b bs (open_pair a h high) (λ others v are. no_second a b others v none are))
    by_second h high (Some l) low more = joined h l high low (pairs_at total bs) more

    by_first : (o : Option ℕ) → hex_digit a ≡ o → Exact ArePairs (base + 2) bs (pairs_at total bs) →
        Exact ArePairs base (a ∷ b ∷ bs) (pair_at (total - length (a ∷ b ∷ bs)) b o >>= λ byte. pairs_at total bs >>= λ bytes. Ok (byte ∷ bytes))
    by_first None none more = (0, omega arith, stops ArePairs [] a (b ∷ bs) ([], [], refl) (λ others v are. no_digit a others v none are))
    by_first (Some h) high more = by_second h high (hex_digit b) refl more

pairs_more : (text v : List ℕ) → ArePairs text v → (u : List ℕ) × ArePairs (text ++ 48 ∷ 48 ∷ []) u
pairs_more [] v are = (0 ∷ [], (0, 0, [], refl, refl, refl, refl))
pairs_more (a ∷ []) v are = absurd are
pairs_more (a ∷ b ∷ text) v (h, l, r, high, low, more, is) =
    let (u, are) = pairs_more text r more in
    ((16 * h + l) ∷ u, (h, l, u, high, low, are, refl))

not_empty : (front : List ℕ) (b : ℕ) (bs : List ℕ) → front ++ b ∷ bs ≡ [] → ⊥
not_empty [] b bs is = cc
not_empty (x ∷ xs) b bs is = cc

hex_exact : (base total : ℕ) (text : List ℕ) → base + length text ≡ total → Exact (IsWord hex) base text (hex_at total text)
unfolding hex_at
hex_exact base total [] same = (0, omega arith, wants (IsWord hex) [] (48 ∷ 48 ∷ [], 0 ∷ [], ((λ is. cc), (0, 0, [], refl, refl, refl, refl))) (λ v is. is.0 refl))
hex_exact base total (a ∷ bs) same = whole (pairs_at total (a ∷ bs)) (pairs_exact base total (a ∷ bs) same)
  where
    whole : (r : Result (List ℕ) ℕ) → Exact ArePairs base (a ∷ bs) r → Exact (IsWord hex) base (a ∷ bs) r
    whole (Ok v) are = ((λ is. cc), are)
    whole (Err e) (p, is, leaves) = (
      p,
      is,
      record {
        within = leaves.within;
        begins =
            let (more, v, are) = leaves.begins in
            let front : List ℕ = take p (a ∷ bs) in
            let (u, longer) = pairs_more (front ++ more) v are in
            (more ++ 48 ∷ 48 ∷ [], u, subst (λ (t : List ℕ). IsWord hex t u) (append_assoc front more (48 ∷ 48 ∷ [])) (not_empty (front ++ more) 48 (48 ∷ []), longer));
        ends = λ low go. leaves.ends low (go.0, go.1, go.2.1);
        outside = λ v says. leaves.outside v says.1;
      },
    )

pub word_exact : (w : Word) (base total : ℕ) (text : List ℕ) → base + length text ≡ total → Exact (IsWord w) base text (word_at w total text)
word_exact (number top) base total text same = number_exact top base total text same
word_exact (run k) base total text same = run_exact k base total text [] 0 refl same refl (omega arith)
word_exact hex base total text same = hex_exact base total text same

printable : (k : WordKind) (b : ℕ) → has k b ≡ true → IsPrintable b
printable Name b is = let (low, high) = both (nat_le 33 b) _ is in (omega (arith, leb-true 33 b low), leb-true b 126 high)
printable Substrate b is = let (low, high) = both (nat_le 33 b) _ is in (omega (arith, leb-true 33 b low), leb-true b 126 high)
printable SlotMap b is = let (low, high) = both (nat_le 48 b) _ is in (omega (arith, leb-true 48 b low), omega (arith, leb-true b 53 high))

all_printable : (k : WordKind) (text : List ℕ) → list_all (has k) text ≡ true → (i d : ℕ) → i < length text → IsPrintable (get_or text i d)
all_printable k [] all i d low = absurd (omega arith)
all_printable k (b ∷ bs) all zero d low = printable k b (both (has k b) _ all).0
all_printable k (b ∷ bs) all (suc i) d low = all_printable k bs (both (has k b) _ all).1 i d (omega arith)

pub record Ran (k : WordKind) (count : ℕ) (text : List ℕ) : Type 0 where
  pub low : least k ≤ count + length text
  pub high : count + length text ≤ most k
  pub all : list_all (has k) text ≡ true

ran : (k : WordKind) (total : ℕ) (text : List ℕ) (count : ℕ) → count ≤ most k → run_at k total count text ≡ Ok (tt {0}) → Ran k count text
unfolding run_at
ran k total [] count low reads = by_least (nat_lt count (least k)) refl reads
  where
    by_least : (t : Bool) → nat_lt count (least k) ≡ t → cond t (Err total) (Ok (tt {0})) ≡ Ok (tt {0}) → Ran k count []
    by_least true is reads = cc
    by_least false is reads = record { low = omega (arith, ltb-false count (least k) is); high = omega arith; all = refl }
ran k total (b ∷ bs) count low reads = by_test (has k b && nat_lt count (most k)) refl reads (λ fewer more. ran k total bs (count + 1) (omega arith) more)
  where
    by_test : (t : Bool) → (has k b && nat_lt count (most k)) ≡ t → cond t (run_at k total (count + 1) bs) (Err (total - length (b ∷ bs))) ≡ Ok (tt {0}) →
        (count < most k → run_at k total (count + 1) bs ≡ Ok (tt {0}) → Ran k (count + 1) bs) → Ran k count (b ∷ bs)
    by_test true passes reads next =
        let (head, room) = both (has k b) _ passes in
        let r = next (ltb-true count (most k) room) reads in
        record { low = omega (arith, r.low); high = omega (arith, r.high); all = rw (head, r.all) refl }
    by_test false fails reads next = cc

pub run_ran : (k : WordKind) (total : ℕ) (text : List ℕ) → run_at k total 0 text ≡ Ok (tt {0}) → Ran k 0 text
run_ran k total text reads = ran k total text 0 (omega arith) reads

pub run_text : (k : WordKind) (text : List ℕ) → Ran k 0 text → IsText text
run_text k text r = let small = most_small k in (omega (arith, r.high), all_printable k text r.all)
  where
    most_small : (k : WordKind) → most k ≤ 80
    most_small Name = omega arith
    most_small Substrate = omega arith
    most_small SlotMap = omega arith
