-- What is spelled can be sent.
use Rattle.std.proofs.Common.{◌≡◌, ◌<◌, ◌≤◌, ◌+◌, ◌*◌, ◌^◌, ℕ, zero, suc, ℤ, List, [], ◌∷◌, length, map, flat_map, refl, ap, ◌∙◌, arith, FitsSigned}
use Rattle.std.proofs.Math.Nat.{pow-le-pow_right}
use Rattle.std.specs.List.{All, AllByRecursion}
use Rattle.std.specs.Int.{Width, w8, w16, w32, w64, bytes_high_first, cast_unsigned}
use Rattle.byteorder.specs.Numbers.{length-bytes_high_first}
use Rattle.item_model.specs.Data.{Data, DataList, list, binary, boolean, ascii, i1, i2, i4, i8, u1, u2, u4, u8, no_items, item}
use Rattle.item_model.specs.Height.{height, highest}
use Rattle.item_model.specs.Plain.{count_of}
use Rattle.item_model.specs.Sendable.{IsLength, IsSendable, HasShortBodies, HaveShortBodies}
use Rattle.item_model.specs.Spelling.{AreBelow, IsHead, Spells, SpellAll}
use Rattle.item_model.specs.declared.format.Format.{Format}
use Rattle.item_model.specs.declared.format.Format.TheVariants as format
use Rattle.secs_items.proofs.Leaves.{elements_length}

all_from : {X : Type 0} (P : X → Type 0) (xs : List X) → AllByRecursion P xs → All P xs
all_from P [] all k d within = absurd (omega arith)
all_from P (x ∷ xs) all zero d within = all.0
all_from P (x ∷ xs) all (suc k) d within = all_from P xs all.1 k d (omega arith)

head_length : (f : Format) (n : ℕ) (head : List ℕ) → IsHead f n head → IsLength n
head_length f n head (k, one, small, fits, same) =
    let top : 256 ^ k ≤ 256 ^ 3 = pow-le-pow_right {n = 256} (omega arith) {i = k} {j = 3} small in
    omega arith

unsigned_count : (k bound : ℕ) (ns body : List ℕ) → AreBelow bound ns → body ≡ flat_map (bytes_high_first k) ns → length body ≡ k * length ns
unsigned_count k bound ns body fit same =
    ap length same ∙ elements_length (bytes_high_first k) k (λ n. n < bound) (λ n low. length-bytes_high_first k n) ns fit

signed_count : (w : Width) (k : ℕ) (zs : List ℤ) (body : List ℕ) → AllByRecursion (FitsSigned w) zs → body ≡ flat_map (λ z. bytes_high_first k (cast_unsigned w z)) zs →
    length body ≡ k * length zs
signed_count w k zs body fit same =
    ap length same ∙ elements_length (λ z. bytes_high_first k (cast_unsigned w z)) k (FitsSigned w) (λ z low. length-bytes_high_first k (cast_unsigned w z)) zs fit

map_length : {X Y : Type 0} (f : X → Y) (xs : List X) → length (map f xs) ≡ length xs
map_length f [] = refl
map_length f (x ∷ xs) = ap suc (map_length f xs)

mutual
  pub sends : (x : Data) (depth : ℕ) (bytes : List ℕ) → depth ≤ 16 → Spells x depth bytes → (height x + depth ≤ 16) × HasShortBodies x
  sends (list ds) depth bytes low (deep, head, body, is_head, spell, same) =
      let inner = sends_all ds (suc depth) body deep spell in
      (omega (arith, inner.0), (head_length format.List (count_of ds) head is_head, inner.1))
  sends (binary bs) depth bytes low (head, body, is_head, (below, is), same) =
      (omega arith, (let n = head_length format.Binary (length body) head is_head in omega (arith, n, ap length is)))
  sends (boolean bs) depth bytes low (head, body, is_head, (below, is), same) =
      (omega arith, (let n = head_length format.Bool (length body) head is_head in omega (arith, n, ap length is ∙ map_length _ body)))
  sends (ascii bs) depth bytes low (head, body, is_head, (below, is), same) =
      (omega arith, ((let n = head_length format.Ascii (length body) head is_head in omega (arith, n, ap length is)), all_from _ bs below))
  sends (i1 zs) depth bytes low (head, body, is_head, (fit, is), same) =
      (omega arith, (let n = head_length format.I1 (length body) head is_head in omega (arith, n, signed_count w8 1 zs body fit is)))
  sends (i2 zs) depth bytes low (head, body, is_head, (fit, is), same) =
      (omega arith, (let n = head_length format.I2 (length body) head is_head in omega (arith, n, signed_count w16 2 zs body fit is)))
  sends (i4 zs) depth bytes low (head, body, is_head, (fit, is), same) =
      (omega arith, (let n = head_length format.I4 (length body) head is_head in omega (arith, n, signed_count w32 4 zs body fit is)))
  sends (i8 zs) depth bytes low (head, body, is_head, (fit, is), same) =
      (omega arith, (let n = head_length format.I8 (length body) head is_head in omega (arith, n, signed_count w64 8 zs body fit is)))
  sends (u1 ns) depth bytes low (head, body, is_head, (below, is), same) =
      (omega arith, (let n = head_length format.U1 (length body) head is_head in omega (arith, n, ap length is)))
  sends (u2 ns) depth bytes low (head, body, is_head, (fit, is), same) =
      (omega arith, (let n = head_length format.U2 (length body) head is_head in omega (arith, n, unsigned_count 2 (2 ^ 16) ns body fit is)))
  sends (u4 ns) depth bytes low (head, body, is_head, (fit, is), same) =
      (omega arith, (let n = head_length format.U4 (length body) head is_head in omega (arith, n, unsigned_count 4 (2 ^ 32) ns body fit is)))
  sends (u8 ns) depth bytes low (head, body, is_head, (fit, is), same) =
      (omega arith, (let n = head_length format.U8 (length body) head is_head in omega (arith, n, unsigned_count 8 (2 ^ 64) ns body fit is)))

  pub sends_all : (ds : DataList) (depth : ℕ) (bytes : List ℕ) → depth ≤ 16 → SpellAll ds depth bytes → (highest ds + depth ≤ 16) × HaveShortBodies ds
  sends_all no_items depth bytes low spells = (omega arith, tt)
  sends_all (item x ds) depth bytes low (front, behind, here, more, same) =
      let one = sends x depth front low here in
      let rest = sends_all ds depth behind low more in
      (omega (arith, one.0, rest.0), (one.1, rest.1))

pub sendable : (x : Data) (bytes : List ℕ) → Spells x 0 bytes → IsSendable x
sendable x bytes spells =
    let parts = sends x 0 bytes (omega arith) spells in
    record { depth = omega (arith, parts.0); bodies = parts.1 }
