-- An item takes at most as many bytes as it weighs, and a list of bounded items is bounded.
use Rattle.std.proofs.Common.{◌≡◌, ◌<◌, ◌≤◌, ◌+◌, ◌*◌, ◌^◌, ℕ, zero, suc, Bool, true, false, List, [], ◌∷◌, ◌++◌, length, flat_map, refl, ap, arith, nat_lt, if◌then◌else◌, length-append}
use Rattle.std.specs.Prelude.{drop}
use Rattle.std.specs.Int.{w8, w16, w32, w64, to_be_bytes, cast_unsigned}
use Rattle.gem_ids.specs.Texts.{IsText}
use Rattle.item_model.specs.Data.{Data, DataList, list, binary, boolean, ascii, i1, i2, i4, i8, u1, u2, u4, u8, no_items, item, added}
use Rattle.item_model.specs.Height.{highest}
use Rattle.item_model.specs.Plain.{plain, plain_all, plain_head, count_of, unsigned_bytes, signed_bytes, truth_bytes}
use Rattle.item_model.specs.Sendable.{IsSendable, HaveShortBodies}
use Rattle.item_model.specs.Weight.{weight, weight_all, IsBounded, AreBounded}

head_most : (code n : ℕ) → length (plain_head code n) ≤ 4
head_most code n = by_size (nat_lt n (2 ^ 8)) (nat_lt n (2 ^ 16)) where
  by_size : (a b : Bool) → length (if a then (4 * code + 1) ∷ n ∷ [] else (if b then (4 * code + 2) ∷ to_be_bytes w16 n else (4 * code + 3) ∷ drop 1 (to_be_bytes w32 n))) ≤ 4
  by_size true b = omega arith
  by_size false true = omega arith
  by_size false false = omega arith

each_size : {X : Type 0} (f : X → List ℕ) (k : ℕ) → ((x : X) → length (f x) ≡ k) → (xs : List X) → length (flat_map f xs) ≡ k * length xs
each_size f k size [] = omega arith
each_size f k size (x ∷ xs) =
    let rest = each_size f k size xs in
    let one = size x in
    omega (arith, length-append (f x) (flat_map f xs))

truth_size : (bs : List Bool) → length (truth_bytes bs) ≡ length bs
truth_size [] = refl
truth_size (b ∷ bs) = ap suc (truth_size bs)

with_head : (code n : ℕ) (body : List ℕ) → length (plain_head code n ++ body) ≤ 4 + length body
with_head code n body = let head = head_most code n in omega (arith, length-append (plain_head code n) body)

mutual
  pub plain-weight : (d : Data) → length (plain d) ≤ weight d
  plain-weight (list ds) = let body = plain-weight_all ds in omega (arith, with_head 0 (count_of ds) (plain_all ds))
  plain-weight (binary bs) = with_head 8 (length bs) bs
  plain-weight (boolean bs) = let body = truth_size bs in omega (arith, with_head 9 (length bs) (truth_bytes bs))
  plain-weight (ascii bs) = with_head 16 (length bs) bs
  plain-weight (i8 zs) = let body = each_size (λ z. to_be_bytes w64 (cast_unsigned w64 z)) 8 (λ z. refl) zs in omega (arith, with_head 24 (8 * length zs) (signed_bytes w64 zs))
  plain-weight (i1 zs) = let body = each_size (λ z. to_be_bytes w8 (cast_unsigned w8 z)) 1 (λ z. refl) zs in omega (arith, with_head 25 (length zs) (signed_bytes w8 zs))
  plain-weight (i2 zs) = let body = each_size (λ z. to_be_bytes w16 (cast_unsigned w16 z)) 2 (λ z. refl) zs in omega (arith, with_head 26 (2 * length zs) (signed_bytes w16 zs))
  plain-weight (i4 zs) = let body = each_size (λ z. to_be_bytes w32 (cast_unsigned w32 z)) 4 (λ z. refl) zs in omega (arith, with_head 28 (4 * length zs) (signed_bytes w32 zs))
  plain-weight (u8 ns) = let body = each_size (to_be_bytes w64) 8 (λ z. refl) ns in omega (arith, with_head 40 (8 * length ns) (unsigned_bytes w64 ns))
  plain-weight (u1 ns) = with_head 41 (length ns) ns
  plain-weight (u2 ns) = let body = each_size (to_be_bytes w16) 2 (λ z. refl) ns in omega (arith, with_head 42 (2 * length ns) (unsigned_bytes w16 ns))
  plain-weight (u4 ns) = let body = each_size (to_be_bytes w32) 4 (λ z. refl) ns in omega (arith, with_head 44 (4 * length ns) (unsigned_bytes w32 ns))

  pub plain-weight_all : (ds : DataList) → length (plain_all ds) ≤ weight_all ds
  plain-weight_all no_items = omega arith
  plain-weight_all (item d ds) =
      let first = plain-weight d in
      let rest = plain-weight_all ds in
      omega (arith, length-append (plain d) (plain_all ds))

-- ---- bounds

-- an item within bounds is within greater ones
pub bounded-more : (deep most deeper more : ℕ) (d : Data) → deep ≤ deeper → most ≤ more → IsBounded deep most d → IsBounded deeper more d
bounded-more deep most deeper more d low light is = record { depth = omega (arith, is.depth); size = omega (arith, is.size); bodies = is.bodies }

-- an item within bounds can be sent
pub bounded-sendable : (deep most : ℕ) (d : Data) → deep ≤ 16 → IsBounded deep most d → IsSendable d
bounded-sendable deep most d low is = record { depth = omega (arith, is.depth); bodies = is.bodies }

pub bounded-highest : (deep most : ℕ) (ds : DataList) → AreBounded deep most ds → highest ds ≤ deep
bounded-highest deep most no_items are = omega arith
bounded-highest deep most (item d ds) are =
    let first = are.0.depth in
    let rest = bounded-highest deep most ds are.1 in
    omega arith

pub bounded-weight : (deep most : ℕ) (ds : DataList) → AreBounded deep most ds → weight_all ds ≤ count_of ds * most
bounded-weight deep most no_items are = omega arith
bounded-weight deep most (item d ds) are =
    let first = are.0.size in
    let rest = bounded-weight deep most ds are.1 in
    omega arith

pub bounded-bodies : (deep most : ℕ) (ds : DataList) → AreBounded deep most ds → HaveShortBodies ds
bounded-bodies deep most no_items are = tt
bounded-bodies deep most (item d ds) are = (are.0.bodies, bounded-bodies deep most ds are.1)

product : (a b most : ℕ) → a ≤ b → a * most ≤ b * most
product a b zero less = omega arith
product a b (suc most) less = let before = product a b most less in omega arith

-- a list of at most so many items within bounds
pub bounded-list : (deep most count : ℕ) (ds : DataList) → count < 2 ^ 24 → count_of ds ≤ count → AreBounded deep most ds → IsBounded (suc deep) (4 + count * most) (list ds)
bounded-list deep most count ds few within are = record {
  depth = let top = bounded-highest deep most ds are in omega arith;
  size = let all = bounded-weight deep most ds are in let wide = product (count_of ds) count most within in omega arith;
  bodies = (omega arith, bounded-bodies deep most ds are);
}

-- one more item at the end
pub bounded-added : (deep most : ℕ) (ds : DataList) (d : Data) → AreBounded deep most ds → IsBounded deep most d → AreBounded deep most (added ds d)
bounded-added deep most no_items d are is = (is, tt)
bounded-added deep most (item e ds) d are is = (are.0, bounded-added deep most ds d are.1 is)

pub count-added : (ds : DataList) (d : Data) → count_of (added ds d) ≡ suc (count_of ds)
count-added no_items d = refl
count-added (item e ds) d = ap suc (count-added ds d)

-- a text
pub bounded-text : (text : List ℕ) → IsText text → IsBounded 0 84 (ascii text)
bounded-text text is = record {
  depth = omega arith;
  size = let short = is.0 in omega arith;
  bodies = (let short = is.0 in omega arith, λ k d less. let byte = is.1 k d less in omega (arith, byte.1));
}
