-- Item headers, read and spelled.
use Rattle.std.proofs.Common.{◌≡◌, ◌<◌, ◌≤◌, ◌+◌, ◌-◌, ◌*◌, ◌^◌, ◌%◌, ◌/◌, ◌⊎◌, ℕ, Bool, true, false, cond, eqb, ltb, List, [], ◌∷◌, ◌++◌, length, take, drop, Option, Some, None, Result, Ok, Err, refl, ap, sym, ◌∙◌, inl, inr, arith, append-nil, length-append, length-take}
use Rattle.std.proofs.lemmas.Bool.{lt-ltb, le-ltb, ltb-true, ltb-false, eqb-true, eqb-false, ne_eqb}
use Rattle.std.proofs.lemmas.List.{drop_at, take-append-drop}
use Rattle.std.specs.Int.{bytes_high_first}
use Rattle.byteorder.specs.Endian.{big_number}
use Rattle.byteorder.specs.Numbers.{big_number-reads_back, length-bytes_high_first, big_from-append}
use Rattle.item_model.specs.Format.{code, IsNoCode}
use Rattle.item_model.specs.Reading.{◌>>=◌, first_with, formats, format_with, known, format_at, length_at}
use Rattle.item_model.specs.Spelling.{AreBelow, IsHead}
use Rattle.item_model.specs.declared.fault.ItemFault.{ItemFault}
use Rattle.item_model.specs.declared.fault.ItemFault.TheVariants as fault
use Rattle.item_model.specs.declared.format.Format.{Format}
use Rattle.item_model.specs.declared.format.Format.TheVariants as format
use Rattle.secs_items.proofs.Digits.{bytes_number, number_below}

-- a step that was taken, and one that failed
pub bind_ok : {A B : Type 0} (r : Result A ItemFault) (f : A → Result B ItemFault) (y : B) → (r >>= f) ≡ Ok y → (x : A) × (r ≡ Ok x) × (f x ≡ Ok y)
bind_ok (Ok x) f y same = (x, refl, same)
bind_ok (Err e) f y same = absurd (cc)

pub bind_err : {A B : Type 0} (r : Result A ItemFault) (f : A → Result B ItemFault) (e : ItemFault) → (r >>= f) ≡ Err e → (r ≡ Err e) ⊎ ((x : A) × (r ≡ Ok x) × (f x ≡ Err e))
bind_err (Ok x) f e same = inr (x, refl, same)
bind_err (Err d) f e same = inl (cc)

pub ok_is : {A : Type 0} {x y : A} → Path (Result A ItemFault) (Ok x) (Ok y) → x ≡ y
ok_is same = cc

pub chosen : {A : Type 0} (b : Bool) (x y z : A) → cond b x y ≡ z → ((b ≡ true) × (x ≡ z)) ⊎ ((b ≡ false) × (y ≡ z))
chosen true x y z same = inl (refl, same)
chosen false x y z same = inr (refl, same)

-- a format and its code
pub with_code : (f : Format) → format_with (code f) ≡ Some f
with_code format.List = refl
with_code format.Binary = refl
with_code format.Bool = refl
with_code format.Ascii = refl
with_code format.I1 = refl
with_code format.I2 = refl
with_code format.I4 = refl
with_code format.I8 = refl
with_code format.U1 = refl
with_code format.U2 = refl
with_code format.U4 = refl
with_code format.U8 = refl

code_of_first : (n : ℕ) (f : Format) (fs : List Format) → first_with n fs ≡ Some f → code f ≡ n
code_of_first n f [] same = absurd (cc)
code_of_first n f (g ∷ gs) same = elim (chosen (eqb (code g) n) (Some g) (first_with n gs) (Some f) same) [
  | inl this ↦ let e = eqb-true (code g) n this.0 in let g_is : g ≡ f = cc in rw (← g_is) e
  | inr other ↦ code_of_first n f gs other.1
]

pub code_of_with : (n : ℕ) (f : Format) → format_with n ≡ Some f → code f ≡ n
code_of_with n f same = code_of_first n f formats same

pub no_code : (n : ℕ) → format_with n ≡ None → IsNoCode n
no_code n none f coded = absurd (let with = with_code f in let at : format_with n ≡ Some f = rw (← coded) with in cc)

-- the format byte
byte_parts : (c k : ℕ) → k ≤ 3 → ((4 * c + k) % 4 ≡ k) × ((4 * c + k) / 4 ≡ c)
byte_parts c k small = (omega arith, omega arith)

pub format_at-byte : (total k : ℕ) (f : Format) (bytes : List ℕ) → 1 ≤ k → k ≤ 3 → format_at total ((4 * code f + k) ∷ bytes) ≡ Ok (f, k, bytes)
unfolding format_at
format_at-byte total k f bytes some small =
    let parts = byte_parts (code f) k small in
    let no : eqb k 0 ≡ false = ne_eqb k 0 (λ e. omega arith) in
    rw (parts.1, with_code f, parts.0, no) refl

known_ok : (place b k : ℕ) (bytes rest : List ℕ) (f : Format) (o : Option Format) → known place b bytes o ≡ Ok (f, k, rest) →
    (o ≡ Some f) × (b % 4 ≡ k) × (bytes ≡ rest)
known_ok place b k bytes rest f None same = absurd (cc)
known_ok place b k bytes rest f (Some g) same =
    let parts : (g, b % 4, bytes) ≡ (f, k, rest) = ok_is same in
    (ap (λ (p : Format × ℕ × List ℕ). Some p.0) parts, ap (λ (p : Format × ℕ × List ℕ). p.1) parts, ap (λ (p : Format × ℕ × List ℕ). p.2) parts)

pub format_at-ok : (total k : ℕ) (f : Format) (bytes rest : List ℕ) → format_at total bytes ≡ Ok (f, k, rest) → (1 ≤ k) × (k ≤ 3) × (bytes ≡ (4 * code f + k) ∷ rest)
unfolding format_at
format_at-ok total k f [] rest read = absurd (cc)
format_at-ok total k f (b ∷ bytes) rest read =
    let place = total - length (b ∷ bytes) in
    elim (chosen (eqb (b % 4) 0) (Err (fault.BadLengthBytes place)) (known place b bytes (format_with (b / 4))) (Ok (f, k, rest)) read) [
      | inl none ↦ absurd (let e = none.1 in cc)
      | inr some ↦
          let parts = known_ok place b k bytes rest f (format_with (b / 4)) some.1 in
          let coded = code_of_with (b / 4) f parts.0 in
          let not_none = eqb-false (b % 4) 0 some.0 in
          let byte : b ≡ 4 * code f + k = omega (arith, coded, parts.1) in
          (omega (arith, not_none, parts.1), omega (arith, parts.1), rw (byte, parts.2) refl)
    ]

-- length bytes
pub length_at-bytes : (total k : ℕ) (lens rest : List ℕ) → length lens ≡ k → length_at total k (lens ++ rest) ≡ Ok (big_number k lens, rest)
unfolding length_at
length_at-bytes total k lens rest long =
    let enough : ltb (length (lens ++ rest)) k ≡ false = le-ltb (length (lens ++ rest)) k (omega (arith, length-append lens rest)) in
    rw (enough, drop_at lens rest k long, big_from-append k lens rest (omega arith)) refl

pub length_at-ok : (total k n : ℕ) (bytes rest : List ℕ) → length_at total k bytes ≡ Ok (n, rest) → (lens : List ℕ) × (length lens ≡ k) × (bytes ≡ lens ++ rest) × (n ≡ big_number k lens)
unfolding length_at
length_at-ok total k n bytes rest read =
    elim (chosen (ltb (length bytes) k) (Err (fault.Truncated total)) (Ok (big_number k bytes, drop k bytes)) (Ok (n, rest)) read) [
      | inl short ↦ absurd (let e = short.1 in cc)
      | inr long ↦
          let within = ltb-false (length bytes) k long.0 in
          let size : length (take k bytes) ≡ k = omega (arith, length-take k bytes) in
          let split : bytes ≡ take k bytes ++ drop k bytes = sym (take-append-drop k bytes) in
          let parts : (big_number k bytes, drop k bytes) ≡ (n, rest) = ok_is long.1 in
          let behind : drop k bytes ≡ rest = ap (λ (p : ℕ × List ℕ). p.1) parts in
          let number : big_number k bytes ≡ n = ap (λ (p : ℕ × List ℕ). p.0) parts in
          let front : big_number k (take k bytes ++ drop k bytes) ≡ big_number k (take k bytes) = big_from-append k (take k bytes) (drop k bytes) (omega arith) in
          (take k bytes, size, split ∙ ap (λ (r : List ℕ). take k bytes ++ r) behind, sym number ∙ ap (big_number k) split ∙ front)
    ]

pub length_at-err : (total k : ℕ) (bytes : List ℕ) (e : ItemFault) → length_at total k bytes ≡ Err e → (length bytes < k) × (e ≡ fault.Truncated total)
unfolding length_at
length_at-err total k bytes e read =
    elim (chosen (ltb (length bytes) k) (Err (fault.Truncated total)) (Ok (big_number k bytes, drop k bytes)) (Err e) read) [
      | inl short ↦ (ltb-true (length bytes) k short.0, let e = short.1 in cc)
      | inr long ↦ absurd (let e = long.1 in cc)
    ]

pub length_at-short : (total k : ℕ) (bytes : List ℕ) → length bytes < k → length_at total k bytes ≡ Err (fault.Truncated total)
unfolding length_at
length_at-short total k bytes short = rw (lt-ltb (length bytes) k short) refl

-- a header is read, whatever stands behind it
pub head_reads : (f : Format) (n k : ℕ) (rest : List ℕ) (total : ℕ) → 1 ≤ k → k ≤ 3 → n < 256 ^ k →
    (format_at total (((4 * code f + k) ∷ bytes_high_first k n) ++ rest) ≡ Ok (f, k, bytes_high_first k n ++ rest))
    × (length_at total k (bytes_high_first k n ++ rest) ≡ Ok (n, rest))
head_reads f n k rest total some small fits =
    let lens = bytes_high_first k n in
    let number : big_number k lens ≡ n = ap (big_number k) (sym (append-nil lens)) ∙ big_number-reads_back k n [] fits in (
      format_at-byte total k f (lens ++ rest) some small,
      length_at-bytes total k lens rest (length-bytes_high_first k n) ∙ ap (λ (m : ℕ). Ok (m, rest)) number,
    )

-- length bytes that were read make a header
pub head_is : (f : Format) (n k : ℕ) (lens : List ℕ) → 1 ≤ k → k ≤ 3 → length lens ≡ k → AreBelow 256 lens → n ≡ big_number k lens →
    IsHead f n ((4 * code f + k) ∷ lens)
head_is f n k lens some small long below number =
    let fits : n < 256 ^ k = rw number (number_below k lens below) in
    let same : bytes_high_first k n ≡ lens = rw number (bytes_number k lens long below) in
    (k, some, small, fits, rw same refl)
