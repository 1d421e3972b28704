-- Hex digits are read alike by the crate that decodes them and by the grammar.
use Rattle.std.proofs.Common.{◌≡◌, ℕ, ◌+◌, ◌-◌, ◌*◌, ◌/◌, ◌%◌, ◌==◌, true, false, List, [], ◌∷◌, ◌++◌, length, take, MatchResult, Option, Some, None, Result, Ok, Err, refl, sym, ap, ◌∙◌, inl, inr, arith}
use Rattle.std.proofs.lemmas.Bool.{cases_eq, eqb-true}
use Rattle.std.proofs.lemmas.List.{take_at}
use Rattle.hex.specs.declared.error.FromHexError.{FromHexError}
use Rattle.hex.specs.declared.error.FromHexError.TheVariants.{OddLength}
use Rattle.hex.specs.Hex.{hex_digit_value, decode_pairs, decode_sized}
use Rattle.hex.proofs.HexLemmas.{decode_pairs-ok, decode_sized-ok, decode_sized-twice, decode_sized-odd, decode_of-even}
use Rattle.line_grammar.specs.Words.{hex_digit}
use Rattle.line_grammar.specs.Reading.{pairs_at, hex_at, half_at}

same_digit : (b : ℕ) → hex_digit_value b ≡ hex_digit b
same_digit b = grind arith

-- what decodes is read as the same bytes, and what does not is outside the grammar
abbrev pub Alike : Result (List ℕ) FromHexError → Result (List ℕ) ℕ → Type 0
Alike (Ok bytes) read = read ≡ Ok bytes
Alike (Err e) read = (place : ℕ) × (read ≡ Err place)

pairs_alike : (i total : ℕ) (text : List ℕ) → Alike (decode_pairs i text) (pairs_at total text)
unfolding decode_pairs pairs_at
pairs_alike i total [] = refl
pairs_alike i total (a ∷ []) = half (hex_digit a)
  where
    half : (o : Option ℕ) → Alike (Err OddLength) (half_at total o)
    half None = (total - 1, refl)
    half (Some high) = (total, refl)
pairs_alike i total (a ∷ b ∷ bs) = by (hex_digit a) refl (hex_digit b) refl (decode_pairs (i + 2) bs) refl (pairs_alike (i + 2) total bs)
  where
    by : (o : Option ℕ) → hex_digit a ≡ o → (p : Option ℕ) → hex_digit b ≡ p → (r : Result (List ℕ) FromHexError) → decode_pairs (i + 2) bs ≡ r → Alike r (pairs_at total bs) → Alike (decode_pairs i (a ∷ b ∷ bs)) (pairs_at total (a ∷ b ∷ bs))
    by None high p low r is more = rw (same_digit a ∙ high, high) (total - length (a ∷ b ∷ bs), refl)
    by (Some h) high None low r is more = rw (same_digit a ∙ high, high, same_digit b ∙ low, low) (total - length (a ∷ b ∷ bs) + 1, refl)
    by (Some h) high (Some l) low (Ok v) is more =
        let byte : 16 * h + l ≡ h * 16 + l = omega arith in
        rw (same_digit a ∙ high, high, same_digit b ∙ low, low, is, more) (ap (λ (n : ℕ). Ok (n ∷ v)) byte)
    by (Some h) high (Some l) low (Err e) is more = rw (same_digit a ∙ high, high, same_digit b ∙ low, low, is, more.1) (more.0, refl)

-- digits are read alike where there is room for half as many bytes
pub sized_alike : (total n : ℕ) (text : List ℕ) → n ≡ length text / 2 → Alike (decode_sized text n) (pairs_at total text)
sized_alike total n text half =
    elim (cases_eq (length text % 2) 1) [
      | inl odd ↦ rw (decode_sized-odd text n odd) (no_pairs (decode_pairs 0 text) refl odd (pairs_alike 0 total text))
      | inr even ↦
          let sized = decode_sized-twice text n (omega arith) ∙ decode_of-even text (omega arith) in
          rw sized (pairs_alike 0 total text)
    ]
  where
    no_pairs : (r : Result (List ℕ) FromHexError) → decode_pairs 0 text ≡ r → length text % 2 ≡ 1 → Alike r (pairs_at total text) → (place : ℕ) × (pairs_at total text ≡ Err place)
    no_pairs (Ok v) is odd alike = let pairs = decode_pairs-ok 0 text v is in absurd (omega (arith, pairs.1))
    no_pairs (Err e) is odd alike = alike

-- ---- what a reader makes of it

pub no_digits : (total : ℕ) (text : List ℕ) → (length text == 0) ≡ true → hex_at total text ≡ Err total
unfolding hex_at
no_digits total [] none = refl
no_digits total (a ∷ bs) none = let size = eqb-true (length (a ∷ bs)) 0 none in absurd (omega (arith, size))

some_digits : (total : ℕ) (text : List ℕ) → (length text == 0) ≡ false → hex_at total text ≡ pairs_at total text
unfolding hex_at
some_digits total [] some = absurd cc
some_digits total (a ∷ bs) some = refl

-- what was written is what the digits are read as
pub digits_read : (total n : ℕ) (text out behind : List ℕ) (r : Result (Unit {0}) FromHexError) → n ≡ length text / 2 → (length text == 0) ≡ false →
    MatchResult (decode_sized text n) (λ bytes. (r ≡ Ok tt) × (out ≡ bytes)) (λ e. r ≡ Err e) → r ≡ Ok tt → hex_at total text ≡ Ok (take n (out ++ behind))
digits_read total n text out behind r half some written ok = some_digits total text some ∙ by (decode_sized text n) refl (sized_alike total n text half) written
  where
    by : (d : Result (List ℕ) FromHexError) → decode_sized text n ≡ d → Alike d (pairs_at total text) → MatchResult d (λ bytes. (r ≡ Ok tt) × (out ≡ bytes)) (λ e. r ≡ Err e) → pairs_at total text ≡ Ok (take n (out ++ behind))
    by (Ok bytes) is alike w =
        let twice : length text ≡ 2 * n = decode_sized-ok text n bytes is in
        let pairs = decode_pairs-ok 0 text bytes (sym (decode_sized-twice text n twice ∙ decode_of-even text (omega arith)) ∙ is) in
        let all : take n (out ++ behind) ≡ out = take_at out behind n (omega (arith, ap length w.1, pairs.1)) in
        alike ∙ sym (ap (λ (xs : List ℕ). Ok xs) (all ∙ w.1))
    by (Err e) is alike w = let is_err : r ≡ Err e = w in absurd cc

-- and where they are refused, they leave the grammar
pub digits_refused : (total n place : ℕ) (text out : List ℕ) (r : Result (Unit {0}) FromHexError) (e : FromHexError) → n ≡ length text / 2 → (length text == 0) ≡ false →
    MatchResult (decode_sized text n) (λ bytes. (r ≡ Ok tt) × (out ≡ bytes)) (λ e. r ≡ Err e) → r ≡ Err e →
    ((p : ℕ) → pairs_at total text ≡ Err p → place ≡ p) → hex_at total text ≡ Err place
digits_refused total n place text out r e half some written fails leaves = some_digits total text some ∙ by (decode_sized text n) (sized_alike total n text half) written
  where
    by : (d : Result (List ℕ) FromHexError) → Alike d (pairs_at total text) → MatchResult d (λ bytes. (r ≡ Ok tt) × (out ≡ bytes)) (λ e. r ≡ Err e) → pairs_at total text ≡ Err place
    by (Ok bytes) alike w = let is_ok : r ≡ Ok tt = w.0 in absurd cc
    by (Err f) alike w = alike.1 ∙ sym (ap (λ (p : ℕ). Err p) (leaves alike.0 alike.1))
