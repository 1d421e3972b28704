-- The first byte that is no character.
use Rattle.std.proofs.Common.{◌≡◌, ◌≤◌, ◌+◌, ℕ, Bool, true, false, not, ◌⊎◌, ltb, leb, List, [], ◌∷◌, ◌++◌, length, Some, None, refl, ap, sym, ◌∙◌, inl, inr, arith, add-zero, zero-add, append-nil, length-append}
use Rattle.std.proofs.lemmas.Bool.{cases_lt, lt-ltb, le-ltb, le-leb, lt-leb}
use Rattle.std.specs.List.{prefix_len, position}
use Rattle.item_model.specs.Reading.{no_character}
use Rattle.item_model.specs.Spelling.{AreBelow}
use Rattle.item_model.specs.declared.format.Format.{Format}
use Rattle.item_model.specs.declared.format.Format.TheVariants as format
use Rattle.secs_items.proofs.Digits.{below_left}

abbrev is_over : ℕ → Bool
is_over b = leb 128 b

abbrev characters : List ℕ → ℕ
characters bytes = prefix_len (λ b. not (is_over b)) bytes

characters-append : (text rest : List ℕ) → AreBelow 128 text → characters (text ++ rest) ≡ length text + characters rest
characters-append [] rest below = sym (zero-add (characters rest))
characters-append (b ∷ text) rest below =
    let low : leb 128 b ≡ false = lt-leb 128 b below.0 in
    let more = characters-append text rest below.1 in
    rw low (omega (arith, more))

characters_all : (text : List ℕ) → AreBelow 128 text → characters text ≡ length text
characters_all text below = ap characters (sym (append-nil text)) ∙ characters-append text [] below ∙ add-zero (length text)

-- all of the bytes are characters
pub position-below : (bytes : List ℕ) → AreBelow 128 bytes → position is_over bytes ≡ None
position-below bytes below =
    let all = characters_all bytes below in
    let no : ltb (characters bytes) (length bytes) ≡ false = le-ltb (characters bytes) (length bytes) (omega (arith, all)) in
    rw no refl

-- a byte over 127 stands behind characters
pub position-over : (text rest : List ℕ) (b : ℕ) → AreBelow 128 text → 128 ≤ b → position is_over (text ++ b ∷ rest) ≡ Some (length text)
position-over text rest b below over =
    let high : leb 128 b ≡ true = le-leb 128 b over in
    let stop : characters (b ∷ rest) ≡ 0 = rw high refl in
    let count : characters (text ++ b ∷ rest) ≡ length text = characters-append text (b ∷ rest) below ∙ ap (λ (n : ℕ). length text + n) stop ∙ add-zero (length text) in
    let yes : ltb (characters (text ++ b ∷ rest)) (length (text ++ b ∷ rest)) ≡ true = lt-ltb _ _ (omega (arith, count, length-append text (b ∷ rest))) in
    rw (yes, count) refl

-- the bytes are characters, or a byte over 127 stands behind characters
abbrev IsOver : List ℕ → Type 0
IsOver bytes = (text : List ℕ) × (b : ℕ) × (rest : List ℕ) × (bytes ≡ text ++ b ∷ rest) × AreBelow 128 text × (128 ≤ b)

first_over : (bytes : List ℕ) → AreBelow 128 bytes ⊎ IsOver bytes
first_over [] = inl tt
first_over (b ∷ bytes) = elim (cases_lt b 128) [
  | inl low ↦ elim (first_over bytes) [
    | inl rest ↦ inl (low, rest)
    | inr over ↦ inr (b ∷ over.0, over.1, over.2, ap (λ (r : List ℕ). b ∷ r) over.3, (low, over.4), over.5)
  ]
  | inr high ↦ inr ([], b, bytes, refl, tt, high)
]

pub below-position : (bytes : List ℕ) → position is_over bytes ≡ None → AreBelow 128 bytes
below-position bytes none = elim (first_over bytes) [
  | inl below ↦ below
  | inr over ↦ absurd (let at = position-over over.0 over.2 over.1 over.4 over.5 in let same : position is_over (over.0 ++ over.1 ∷ over.2) ≡ None = rw (← over.3) none in cc)
]

pub over-position : (bytes : List ℕ) (i : ℕ) → position is_over bytes ≡ Some i →
    (text : List ℕ) × (b : ℕ) × (rest : List ℕ) × (bytes ≡ text ++ b ∷ rest) × (length text ≡ i) × AreBelow 128 text × (128 ≤ b)
over-position bytes i some = elim (first_over bytes) [
  | inl below ↦ absurd (let at = position-below bytes below in cc)
  | inr over ↦
      let at = position-over over.0 over.2 over.1 over.4 over.5 in
      let same : position is_over (over.0 ++ over.1 ∷ over.2) ≡ Some i = rw (← over.3) some in
      (over.0, over.1, over.2, over.3, (let e : Some (length over.0) ≡ Some i = cc in cc), over.4, over.5)
]

-- a front of a body in which each character is one
pub no_character-front : (f : Format) (front behind : List ℕ) → no_character f (front ++ behind) ≡ None → no_character f front ≡ None
no_character-front format.Ascii front behind none = position-below front (below_left 128 front behind (below-position (front ++ behind) none))
no_character-front f front behind none = refl
