-- Items that are no lists, read and spelled.
use Rattle.std.proofs.Common.{◌≡◌, ◌<◌, ◌*◌, ◌^◌, ◌/◌, ◌%◌, ◌==◌, ◌⊎◌, ℕ, zero, suc, ℤ, Bool, false, not, List, [], ◌∷◌, ◌++◌, length, take, drop, map, flat_map, None, refl, ap, sym, ◌∙◌, inl, inr, arith, length-append, length-drop, length-take, FitsSigned}
use Rattle.std.proofs.Math.Nat.{mul-div_cancel_left, mul-mod_right, mul-suc, mul-zero, mul_comm, div-add-mod'}
use Rattle.std.proofs.lemmas.Int.{of_z-to_z, to_z-of_z}
use Rattle.std.proofs.lemmas.List.{drop_at, take-append-drop}
use Rattle.std.specs.List.{AllByRecursion}
use Rattle.std.specs.Int.{Width, w8, w16, w32, w64, bytes_high_first, cast_signed, cast_unsigned}
use Rattle.byteorder.specs.Endian.{big_number}
use Rattle.byteorder.specs.Numbers.{big_number-reads_back, length-bytes_high_first, big_from-append}
use mir.Val.{bits}
use mir.ValLaws.{of_z_fits}
use borrow.Author.Gap.{read_sfits}
use Rattle.item_model.specs.Data.{Data, DataList, list, binary, boolean, ascii, i1, i2, i4, i8, u1, u2, u4, u8}
use Rattle.item_model.specs.Format.{width}
use Rattle.item_model.specs.Plain.{count_of}
use Rattle.item_model.specs.Reading.{elements_at, truth_in, unsigned_in, signed_in, leaf, no_character, is_list}
use Rattle.item_model.specs.Spelling.{AreBelow, IsHead, Spells, SpellAll}
use Rattle.item_model.specs.declared.format.Format.{Format}
use Rattle.item_model.specs.declared.format.Format.TheVariants as format
use Rattle.secs_items.proofs.Characters.{position-below, below-position}
use Rattle.secs_items.proofs.Digits.{below_left, below_right, bytes_number, number_below}

-- elements that were spelled one after another are read again
elements_again : {X : Type 0} (value : List ℕ → X) (bytes_of : X → List ℕ) (k : ℕ) (P : X → Type 0) →
    ((x : X) → P x → length (bytes_of x) ≡ k) → ((x : X) (rest : List ℕ) → P x → value (bytes_of x ++ rest) ≡ x) →
    (xs : List X) → AllByRecursion P xs → elements_at value k (length xs) (flat_map bytes_of xs) ≡ xs
elements_again value bytes_of k P long back [] all = refl
elements_again value bytes_of k P long back (x ∷ xs) all =
    let here = back x (flat_map bytes_of xs) all.0 in
    let behind = drop_at (bytes_of x) (flat_map bytes_of xs) k (long x all.0) in
    let rest = elements_again value bytes_of k P long back xs all.1 in
    rw (here, behind, rest) refl

pub elements_length : {X : Type 0} (bytes_of : X → List ℕ) (k : ℕ) (P : X → Type 0) → ((x : X) → P x → length (bytes_of x) ≡ k) →
    (xs : List X) → AllByRecursion P xs → length (flat_map bytes_of xs) ≡ k * length xs
elements_length bytes_of k P long [] all = sym (mul-zero k)
elements_length bytes_of k P long (x ∷ xs) all =
    let here = long x all.0 in
    let rest = elements_length bytes_of k P long xs all.1 in
    omega (arith, here, rest, mul-suc k (length xs), length-append (bytes_of x) (flat_map bytes_of xs))

-- elements that are read spell the bytes that they were read from
elements_spell : {X : Type 0} (value : List ℕ → X) (bytes_of : X → List ℕ) (k : ℕ) (P : X → Type 0) →
    ((front rest : List ℕ) → length front ≡ k → AreBelow 256 front → P (value (front ++ rest)) × (bytes_of (value (front ++ rest)) ≡ front)) →
    (n : ℕ) (body : List ℕ) → length body ≡ k * n → AreBelow 256 body →
    AllByRecursion P (elements_at value k n body) × (body ≡ flat_map bytes_of (elements_at value k n body)) × (length (elements_at value k n body) ≡ n)
elements_spell value bytes_of k P spells zero [] long below = (tt, refl, refl)
elements_spell value bytes_of k P spells zero (b ∷ body) long below = absurd (omega (arith, mul-zero k))
elements_spell value bytes_of k P spells (suc n) body long below =
    let front = take k body in
    let behind = drop k body in
    let split : front ++ behind ≡ body = take-append-drop k body in
    let parts : AreBelow 256 (front ++ behind) = rw split below in
    let size : length front ≡ k = omega (arith, length-take k body, mul-suc k n) in
    let one = rw split at (spells front behind size (below_left 256 front behind parts)) in
    let more = elements_spell value bytes_of k P spells n behind (omega (arith, length-drop k body, mul-suc k n)) (below_right 256 front behind parts) in
    let bytes : body ≡ bytes_of (value body) ++ flat_map bytes_of (elements_at value k n behind) = rw (one.1, ← more.1) (sym split) in
    ((one.0, more.0), bytes, ap suc more.2)

-- bytes and numbers
unsigned_long : (k n : ℕ) → n < 256 ^ k → length (bytes_high_first k n) ≡ k
unsigned_long k n fits = length-bytes_high_first k n

unsigned_back : (k n : ℕ) (rest : List ℕ) → n < 256 ^ k → big_number k (bytes_high_first k n ++ rest) ≡ n
unsigned_back k n rest fits = big_number-reads_back k n rest fits

unsigned_spells : (k : ℕ) (front rest : List ℕ) → length front ≡ k → AreBelow 256 front →
    (big_number k (front ++ rest) < 256 ^ k) × (bytes_high_first k (big_number k (front ++ rest)) ≡ front)
unsigned_spells k front rest long below =
    let same : big_number k (front ++ rest) ≡ big_number k front = big_from-append k front rest (omega arith) in
    (rw same (number_below k front below), rw same (bytes_number k front long below))

signed_fits : (w : Width) (z : ℤ) → FitsSigned w z → cast_unsigned w z < 2 ^ bits w
signed_fits w z fits = let f = of_z_fits w z fits in omega (arith, f)

signed_back : (w : Width) (k : ℕ) (z : ℤ) (rest : List ℕ) → 2 ^ bits w ≡ 256 ^ k → FitsSigned w z →
    cast_signed w (big_number k (bytes_high_first k (cast_unsigned w z) ++ rest)) ≡ z
signed_back w k z rest size fits =
    let low : cast_unsigned w z < 256 ^ k = rw (← size) (signed_fits w z fits) in
    ap (cast_signed w) (big_number-reads_back k (cast_unsigned w z) rest low) ∙ to_z-of_z w z fits

signed_spells : (w : Width) (k : ℕ) (front rest : List ℕ) → 2 ^ bits w ≡ 256 ^ k → length front ≡ k → AreBelow 256 front →
    FitsSigned w (cast_signed w (big_number k (front ++ rest)))
    × (bytes_high_first k (cast_unsigned w (cast_signed w (big_number k (front ++ rest)))) ≡ front)
signed_spells w k front rest size long below =
    let parts = unsigned_spells k front rest long below in
    let low : big_number k (front ++ rest) < 2 ^ bits w = rw size parts.0 in
    (read_sfits w (big_number k (front ++ rest)), ap (bytes_high_first k) (of_z-to_z w (big_number k (front ++ rest)) low) ∙ parts.1)

truths_map : (body : List ℕ) → elements_at truth_in 1 (length body) body ≡ map (λ b. not (b == 0)) body
truths_map [] = refl
truths_map (b ∷ body) = ap (λ (r : List Bool). not (b == 0) ∷ r) (truths_map body)

truths_in : (body : List ℕ) → elements_at truth_in 1 (length body / 1) body ≡ map (λ b. not (b == 0)) body
truths_in body =
    let count : length body / 1 ≡ length body = omega arith in
    rw count (truths_map body)

-- a spelling of an item that is no list, as the reading sees it
pub record IsLeaf (x : Data) (bytes : List ℕ) : Type 0 where
  pub f : Format
  pub head : List ℕ
  pub body : List ℕ
  pub other : is_list f ≡ false
  pub is_head : IsHead f (length body) head
  pub is_body : leaf f body ≡ x
  pub whole : length body % width f ≡ 0
  pub text : no_character f body ≡ None
  pub same : bytes ≡ head ++ body

one_byte : (n : ℕ) → n % 1 ≡ 0
one_byte n = omega arith

-- numbers
unsigned_leaf : (k : ℕ) (ns body : List ℕ) → 0 < k → AreBelow (256 ^ k) ns → body ≡ flat_map (bytes_high_first k) ns →
    (unsigned_in k body ≡ ns) × (length body % k ≡ 0)
unsigned_leaf k ns body some fit same =
    let long : length (flat_map (bytes_high_first k) ns) ≡ k * length ns = elements_length (bytes_high_first k) k (λ n. n < 256 ^ k) (unsigned_long k) ns fit in
    let count : length (flat_map (bytes_high_first k) ns) / k ≡ length ns = rw long (mul-div_cancel_left (length ns) some) in (
      rw (same, count) (elements_again (big_number k) (bytes_high_first k) k (λ n. n < 256 ^ k) (unsigned_long k) (unsigned_back k) ns fit),
      rw (same, long) (mul-mod_right k (length ns)),
    )

signed_leaf : (w : Width) (k : ℕ) (zs : List ℤ) (body : List ℕ) → 0 < k → 2 ^ bits w ≡ 256 ^ k → AllByRecursion (FitsSigned w) zs →
    body ≡ flat_map (λ z. bytes_high_first k (cast_unsigned w z)) zs → (signed_in w k body ≡ zs) × (length body % k ≡ 0)
signed_leaf w k zs body some size fit same =
    let bytes_of : ℤ → List ℕ = λ z. bytes_high_first k (cast_unsigned w z) in
    let value : List ℕ → ℤ = λ bytes. cast_signed w (big_number k bytes) in
    let each : (z : ℤ) → FitsSigned w z → length (bytes_of z) ≡ k = λ z fits. length-bytes_high_first k (cast_unsigned w z) in
    let back : (z : ℤ) (rest : List ℕ) → FitsSigned w z → value (bytes_of z ++ rest) ≡ z = λ z rest fits. signed_back w k z rest size fits in
    let long : length (flat_map bytes_of zs) ≡ k * length zs = elements_length bytes_of k (FitsSigned w) each zs fit in
    let count : length (flat_map bytes_of zs) / k ≡ length zs = rw long (mul-div_cancel_left (length zs) some) in (
      rw (same, count) (elements_again value bytes_of k (FitsSigned w) each back zs fit),
      rw (same, long) (mul-mod_right k (length zs)),
    )

truths_leaf : (truths : List Bool) (body : List ℕ) → truths ≡ map (λ b. not (b == 0)) body → elements_at truth_in 1 (length body / 1) body ≡ truths
truths_leaf truths body same = truths_in body ∙ sym same

-- what spells such an item, the reading gives back
abbrev pub IsListSpelling : Data → ℕ → List ℕ → Type 0
IsListSpelling x depth bytes =
    (ds : DataList) × (x ≡ list ds) × (depth < 16) × (head : List ℕ) × (body : List ℕ) × IsHead format.List (count_of ds) head × SpellAll ds (suc depth) body × (bytes ≡ head ++ body)

pub spelled : (x : Data) (depth : ℕ) (bytes : List ℕ) → Spells x depth bytes → IsListSpelling x depth bytes ⊎ IsLeaf x bytes
unfolding leaf
spelled (list ds) depth bytes spells = inl (ds, refl, spells.0, spells.1, spells.2, spells.3, spells.4, spells.5)
spelled (binary bs) depth bytes (head, body, is_head, (below, is), same) = inr (record {
  f = format.Binary;
  head = head;
  body = body;
  other = refl;
  is_head = is_head;
  is_body = ap binary is;
  whole = one_byte (length body);
  text = refl;
  same = same;
})
spelled (boolean bs) depth bytes (head, body, is_head, (below, is), same) = inr (record {
  f = format.Bool;
  head = head;
  body = body;
  other = refl;
  is_head = is_head;
  is_body = ap boolean (truths_leaf bs body is);
  whole = one_byte (length body);
  text = refl;
  same = same;
})
spelled (ascii bs) depth bytes (head, body, is_head, (below, is), same) = inr (record {
  f = format.Ascii;
  head = head;
  body = body;
  other = refl;
  is_head = is_head;
  is_body = ap ascii is;
  whole = one_byte (length body);
  text = position-below body (rw is below);
  same = same;
})
spelled (i1 zs) depth bytes (head, body, is_head, (fit, is), same) =
    let parts = signed_leaf w8 1 zs body (omega arith) refl fit is in
    inr (record { f = format.I1; head = head; body = body; other = refl; is_head = is_head; is_body = ap i1 parts.0; whole = parts.1; text = refl; same = same })
spelled (i2 zs) depth bytes (head, body, is_head, (fit, is), same) =
    let parts = signed_leaf w16 2 zs body (omega arith) refl fit is in
    inr (record { f = format.I2; head = head; body = body; other = refl; is_head = is_head; is_body = ap i2 parts.0; whole = parts.1; text = refl; same = same })
spelled (i4 zs) depth bytes (head, body, is_head, (fit, is), same) =
    let parts = signed_leaf w32 4 zs body (omega arith) refl fit is in
    inr (record { f = format.I4; head = head; body = body; other = refl; is_head = is_head; is_body = ap i4 parts.0; whole = parts.1; text = refl; same = same })
spelled (i8 zs) depth bytes (head, body, is_head, (fit, is), same) =
    let parts = signed_leaf w64 8 zs body (omega arith) refl fit is in
    inr (record { f = format.I8; head = head; body = body; other = refl; is_head = is_head; is_body = ap i8 parts.0; whole = parts.1; text = refl; same = same })
spelled (u1 ns) depth bytes (head, body, is_head, (below, is), same) = inr (record {
  f = format.U1;
  head = head;
  body = body;
  other = refl;
  is_head = is_head;
  is_body = ap u1 is;
  whole = one_byte (length body);
  text = refl;
  same = same;
})
spelled (u2 ns) depth bytes (head, body, is_head, (fit, is), same) =
    let parts = unsigned_leaf 2 ns body (omega arith) fit is in
    inr (record { f = format.U2; head = head; body = body; other = refl; is_head = is_head; is_body = ap u2 parts.0; whole = parts.1; text = refl; same = same })
spelled (u4 ns) depth bytes (head, body, is_head, (fit, is), same) =
    let parts = unsigned_leaf 4 ns body (omega arith) fit is in
    inr (record { f = format.U4; head = head; body = body; other = refl; is_head = is_head; is_body = ap u4 parts.0; whole = parts.1; text = refl; same = same })
spelled (u8 ns) depth bytes (head, body, is_head, (fit, is), same) =
    let parts = unsigned_leaf 8 ns body (omega arith) fit is in
    inr (record { f = format.U8; head = head; body = body; other = refl; is_head = is_head; is_body = ap u8 parts.0; whole = parts.1; text = refl; same = same })

-- the elements of a body whose length is a multiple of the width
whole_count : (k : ℕ) (body : List ℕ) → 0 < k → length body % k ≡ 0 → length body ≡ k * (length body / k)
whole_count k body some whole = omega (arith, div-add-mod' (length body) k, mul_comm k (length body / k))

unsigned_body : (k : ℕ) (body : List ℕ) → 0 < k → length body % k ≡ 0 → AreBelow 256 body →
    AreBelow (256 ^ k) (unsigned_in k body) × (body ≡ flat_map (bytes_high_first k) (unsigned_in k body))
unsigned_body k body some whole below =
    let parts = elements_spell (big_number k) (bytes_high_first k) k (λ n. n < 256 ^ k) (unsigned_spells k) (length body / k) body (whole_count k body some whole) below in
    (parts.0, parts.1)

signed_body : (w : Width) (k : ℕ) (body : List ℕ) → 0 < k → 2 ^ bits w ≡ 256 ^ k → length body % k ≡ 0 → AreBelow 256 body →
    AllByRecursion (FitsSigned w) (signed_in w k body) × (body ≡ flat_map (λ z. bytes_high_first k (cast_unsigned w z)) (signed_in w k body))
signed_body w k body some size whole below =
    let parts = elements_spell (λ bytes. cast_signed w (big_number k bytes)) (λ z. bytes_high_first k (cast_unsigned w z)) k (FitsSigned w)
    (λ front rest long below. signed_spells w k front rest size long below) (length body / k) body (whole_count k body some whole) below in
    (parts.0, parts.1)

-- what the reading gives for such an item, its bytes spell
pub spells_leaf : (f : Format) (head body : List ℕ) (depth : ℕ) → is_list f ≡ false → IsHead f (length body) head → length body % width f ≡ 0 →
    no_character f body ≡ None → AreBelow 256 body → Spells (leaf f body) depth (head ++ body)
unfolding leaf
spells_leaf format.List head body depth other is_head whole text below = absurd (cc)
spells_leaf format.Binary head body depth other is_head whole text below = (head, body, is_head, (below, refl), refl)
spells_leaf format.Bool head body depth other is_head whole text below = (head, body, is_head, (below, truths_in body), refl)
spells_leaf format.Ascii head body depth other is_head whole text below = (head, body, is_head, (below-position body text, refl), refl)
spells_leaf format.I1 head body depth other is_head whole text below = (head, body, is_head, signed_body w8 1 body (omega arith) refl whole below, refl)
spells_leaf format.I2 head body depth other is_head whole text below = (head, body, is_head, signed_body w16 2 body (omega arith) refl whole below, refl)
spells_leaf format.I4 head body depth other is_head whole text below = (head, body, is_head, signed_body w32 4 body (omega arith) refl whole below, refl)
spells_leaf format.I8 head body depth other is_head whole text below = (head, body, is_head, signed_body w64 8 body (omega arith) refl whole below, refl)
spells_leaf format.U1 head body depth other is_head whole text below = (head, body, is_head, (below, refl), refl)
spells_leaf format.U2 head body depth other is_head whole text below = (head, body, is_head, unsigned_body 2 body (omega arith) whole below, refl)
spells_leaf format.U4 head body depth other is_head whole text below = (head, body, is_head, unsigned_body 4 body (omega arith) whole below, refl)
spells_leaf format.U8 head body depth other is_head whole text below = (head, body, is_head, unsigned_body 8 body (omega arith) whole below, refl)
