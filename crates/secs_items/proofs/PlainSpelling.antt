-- What is sent is spelled, and one spelling begins no other.
use Rattle.std.proofs.Common.{◌≡◌, ◌<◌, ◌≤◌, ◌+◌, ◌*◌, ◌^◌, ◌%◌, ℕ, suc, ℤ, Bool, true, false, List, [], ◌∷◌, ◌++◌, length, flat_map, refl, ap, sym, ◌∙◌, inl, inr, arith, FitsSigned}
use Rattle.std.proofs.lemmas.Bool.{cases_lt, lt-ltb, le-ltb}
use Rattle.std.proofs.lemmas.List.{append_cancel_right}
use Rattle.std.proofs.Math.Nat.{mod-eq_of_lt}
use Rattle.std.specs.List.{All, AllByRecursion}
use Rattle.std.specs.Int.{Width, w8, w16, w32, w64, bytes_high_first, cast_unsigned}
use Rattle.byteorder.specs.Numbers.{length-bytes_high_first}
use Rattle.item_model.specs.Data.{Data, DataList, list, binary, boolean, ascii, i1, i2, i4, i8, u1, u2, u4, u8, no_items, item}
use Rattle.item_model.specs.Format.{code}
use Rattle.item_model.specs.Height.{height, highest}
use Rattle.item_model.specs.Plain.{plain_head, plain, plain_all, count_of, truth_bytes, signed_bytes, unsigned_bytes}
use Rattle.secs_items.specs.Ranges.{IsInRange, AreInRange}
use Rattle.item_model.specs.Reading.{item_at}
use Rattle.item_model.specs.Sendable.{IsLength, HasShortBodies, HaveShortBodies}
use Rattle.item_model.specs.Spelling.{AreBelow, AreTruths, IsHead, Spells, SpellAll}
use Rattle.item_model.specs.declared.format.Format.{Format}
use Rattle.item_model.specs.declared.format.Format.TheVariants as format
use Rattle.secs_items.proofs.Digits.{below_more}
use Rattle.secs_items.proofs.Grammar.{again}
use Rattle.secs_items.proofs.Heads.{ok_is}
use Rattle.secs_items.proofs.Leaves.{elements_length}

pub one_spelling : (a b x y : List ℕ) (d e : Data) → Spells d 0 a → Spells e 0 b → a ++ x ≡ b ++ y → (a ≡ b) × (d ≡ e)
one_spelling a b x y d e first second same =
    let parts : (d, x) ≡ (e, y) = ok_is (sym (again 16 d 0 a x 0 refl first) ∙ ap (item_at 16 0) same ∙ again 16 e 0 b y 0 refl second) in
    let behind : x ≡ y = ap (λ (p : Data × List ℕ). p.1) parts in
    let fronts : a ++ y ≡ b ++ y = ap (λ (r : List ℕ). a ++ r) (sym behind) ∙ same in
    (append_cancel_right a b y fronts, ap (λ (p : Data × List ℕ). p.0) parts)

-- the fewest length bytes are length bytes
plain_is_head : (f : Format) (n : ℕ) → IsLength n → IsHead f n (plain_head (code f) n)
plain_is_head f n small = elim (cases_lt n 256) [
  | inl one ↦
      let low : n % 256 ≡ n = mod-eq_of_lt one in
      (1, omega arith, omega arith, omega arith, rw (lt-ltb n 256 one, low) refl)
  | inr more ↦ elim (cases_lt n 65536) [
    | inl two ↦ (2, omega arith, omega arith, omega arith, rw (le-ltb n 256 more, lt-ltb n 65536 two) refl)
    | inr three ↦ (3, omega arith, omega arith, omega arith, rw (le-ltb n 256 more, le-ltb n 65536 three) refl)
  ]
]

each_from : {X : Type 0} (P : X → Type 0) (xs : List X) → All P xs → AllByRecursion P xs
each_from P [] all = tt
each_from P (x ∷ xs) all = (all 0 x (omega arith), each_from P xs (λ k d within. all (suc k) d (omega arith)))

truths_spelled : (truths : List Bool) → AreTruths truths (truth_bytes truths) × (length (truth_bytes truths) ≡ length truths)
truths_spelled [] = ((tt, refl), refl)
truths_spelled (true ∷ truths) =
    let rest = truths_spelled truths in
    (((omega arith, rest.0.0), ap (λ (r : List Bool). true ∷ r) rest.0.1), ap suc rest.1)
truths_spelled (false ∷ truths) =
    let rest = truths_spelled truths in
    (((omega arith, rest.0.0), ap (λ (r : List Bool). false ∷ r) rest.0.1), ap suc rest.1)

unsigned_size : (k bound : ℕ) (ns : List ℕ) → AreBelow bound ns → length (flat_map (bytes_high_first k) ns) ≡ k * length ns
unsigned_size k bound ns fit = elements_length (bytes_high_first k) k (λ n. n < bound) (λ n low. length-bytes_high_first k n) ns fit

signed_size : (w : Width) (k : ℕ) (zs : List ℤ) → AllByRecursion (FitsSigned w) zs → length (flat_map (λ z. bytes_high_first k (cast_unsigned w z)) zs) ≡ k * length zs
signed_size w k zs fit = elements_length (λ z. bytes_high_first k (cast_unsigned w z)) k (FitsSigned w) (λ z low. length-bytes_high_first k (cast_unsigned w z)) zs fit

-- a body behind the fewest length bytes
behind_plain : (f : Format) (n : ℕ) (body : List ℕ) → IsLength n → length body ≡ n → IsHead f (length body) (plain_head (code f) n)
behind_plain f n body small size = rw size (plain_is_head f n small)

mutual
  pub plain_spells : (d : Data) (depth : ℕ) → height d + depth ≤ 16 → IsInRange d → HasShortBodies d → Spells d depth (plain d)
  plain_spells (list ds) depth deep fit short =
      (omega arith, plain_head 0 (count_of ds), plain_all ds, plain_is_head format.List (count_of ds) short.0, all_spell ds (suc depth) (omega arith) (omega arith) fit short.1, refl)
  plain_spells (binary bs) depth deep fit short = (plain_head 8 (length bs), bs, plain_is_head format.Binary (length bs) short, (fit, refl), refl)
  plain_spells (boolean bs) depth deep fit short =
      let is = truths_spelled bs in
      (plain_head 9 (length bs), truth_bytes bs, behind_plain format.Bool (length bs) (truth_bytes bs) short is.1, is.0, refl)
  plain_spells (ascii bs) depth deep fit short =
      (plain_head 16 (length bs), bs, plain_is_head format.Ascii (length bs) short.0, (each_from _ bs short.1, refl), refl)
  plain_spells (i1 zs) depth deep fit short =
      (plain_head 25 (length zs), signed_bytes w8 zs, behind_plain format.I1 (length zs) (signed_bytes w8 zs) short (let n = signed_size w8 1 zs fit in omega (arith, n)), (fit, refl), refl)
  plain_spells (i2 zs) depth deep fit short =
      (plain_head 26 (2 * length zs), signed_bytes w16 zs, behind_plain format.I2 (2 * length zs) (signed_bytes w16 zs) short (signed_size w16 2 zs fit), (fit, refl), refl)
  plain_spells (i4 zs) depth deep fit short =
      (plain_head 28 (4 * length zs), signed_bytes w32 zs, behind_plain format.I4 (4 * length zs) (signed_bytes w32 zs) short (signed_size w32 4 zs fit), (fit, refl), refl)
  plain_spells (i8 zs) depth deep fit short =
      (plain_head 24 (8 * length zs), signed_bytes w64 zs, behind_plain format.I8 (8 * length zs) (signed_bytes w64 zs) short (signed_size w64 8 zs fit), (fit, refl), refl)
  plain_spells (u1 ns) depth deep fit short = (plain_head 41 (length ns), ns, plain_is_head format.U1 (length ns) short, (fit, refl), refl)
  plain_spells (u2 ns) depth deep fit short =
      (plain_head 42 (2 * length ns), unsigned_bytes w16 ns, behind_plain format.U2 (2 * length ns) (unsigned_bytes w16 ns) short (unsigned_size 2 (2 ^ 16) ns fit), (fit, refl), refl)
  plain_spells (u4 ns) depth deep fit short =
      (plain_head 44 (4 * length ns), unsigned_bytes w32 ns, behind_plain format.U4 (4 * length ns) (unsigned_bytes w32 ns) short (unsigned_size 4 (2 ^ 32) ns fit), (fit, refl), refl)
  plain_spells (u8 ns) depth deep fit short =
      (plain_head 40 (8 * length ns), unsigned_bytes w64 ns, behind_plain format.U8 (8 * length ns) (unsigned_bytes w64 ns) short (unsigned_size 8 (2 ^ 64) ns fit), (fit, refl), refl)

  pub all_spell : (ds : DataList) (depth : ℕ) → depth ≤ 16 → highest ds + depth ≤ 16 → AreInRange ds → HaveShortBodies ds → SpellAll ds depth (plain_all ds)
  all_spell no_items depth low deep fit short = refl
  all_spell (item d ds) depth low deep fit short =
      (plain d, plain_all ds, plain_spells d depth (omega arith) fit.0 short.0, all_spell ds depth low (omega arith) fit.1 short.1, refl)

mutual
  pub spelled_range : (d : Data) (depth : ℕ) (bytes : List ℕ) → Spells d depth bytes → IsInRange d
  spelled_range (list ds) depth bytes (deep, head, body, is_head, spell, same) = all_range ds (suc depth) body spell
  spelled_range (binary bs) depth bytes (head, body, is_head, is, same) = is.0
  spelled_range (boolean bs) depth bytes (head, body, is_head, is, same) = tt
  spelled_range (ascii bs) depth bytes (head, body, is_head, is, same) = below_more 128 256 bs (omega arith) is.0
  spelled_range (i1 zs) depth bytes (head, body, is_head, is, same) = is.0
  spelled_range (i2 zs) depth bytes (head, body, is_head, is, same) = is.0
  spelled_range (i4 zs) depth bytes (head, body, is_head, is, same) = is.0
  spelled_range (i8 zs) depth bytes (head, body, is_head, is, same) = is.0
  spelled_range (u1 ns) depth bytes (head, body, is_head, is, same) = is.0
  spelled_range (u2 ns) depth bytes (head, body, is_head, is, same) = is.0
  spelled_range (u4 ns) depth bytes (head, body, is_head, is, same) = is.0
  spelled_range (u8 ns) depth bytes (head, body, is_head, is, same) = is.0

  pub all_range : (ds : DataList) (depth : ℕ) (bytes : List ℕ) → SpellAll ds depth bytes → AreInRange ds
  all_range no_items depth bytes spells = tt
  all_range (item d ds) depth bytes (front, behind, here, more, same) = (spelled_range d depth front here, all_range ds depth behind more)
