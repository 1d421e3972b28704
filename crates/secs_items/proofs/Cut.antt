-- A proper front of a spelling ends too early, and in no other way.
use Rattle.std.proofs.Common.{◌≡◌, ◌≢◌, ◌<◌, ◌+◌, ◌-◌, ◌*◌, ◌%◌, ◌⊎◌, ℕ, zero, suc, List, [], ◌∷◌, ◌++◌, length, take, None, Ok, Err, refl, ap, sym, ◌∙◌, subst, inl, inr, arith, length-append}
use Rattle.std.proofs.lemmas.Bool.{lt-ltb, eq-eqb}
use Rattle.std.proofs.lemmas.List.{take_all}
use Rattle.std.specs.Int.{bytes_high_first}
use Rattle.byteorder.specs.Numbers.{length-bytes_high_first}
use Rattle.item_model.specs.Data.{Data, DataList, no_items, item}
use Rattle.item_model.specs.Format.{code, width}
use Rattle.item_model.specs.Plain.{count_of}
use Rattle.item_model.specs.Reading.{Read, format_at, length_at, no_character, body_at, leaf_at, items_at, item_at}
use Rattle.item_model.specs.Spelling.{Spells, SpellAll}
use Rattle.item_model.specs.declared.fault.ItemFault.{ItemFault}
use Rattle.item_model.specs.declared.fault.ItemFault.TheVariants as fault
use Rattle.item_model.specs.declared.format.Format.{Format}
use Rattle.item_model.specs.declared.format.Format.TheVariants as format
use Rattle.secs_items.proofs.Characters.{no_character-front}
use Rattle.secs_items.proofs.Grammar.{again}
use Rattle.secs_items.proofs.Heads.{format_at-byte, head_reads, length_at-short}
use Rattle.secs_items.proofs.Leaves.{IsLeaf, IsListSpelling, spelled}
use Rattle.secs_items.proofs.Stepping.{fails_length, fails_items, leaf_item, list_item}

-- one list in two ways: the first part of one is a proper front of the first part of the other, or begins with it
pub two_ways : (a b c d : List ℕ) → a ++ b ≡ c ++ d →
    ((m : List ℕ) × (m ≢ []) × (c ≡ a ++ m) × (b ≡ m ++ d)) ⊎ ((m : List ℕ) × (a ≡ c ++ m) × (d ≡ m ++ b))
two_ways a b [] d same = inr (a, refl, sym same)
two_ways [] b (y ∷ c) d same = inl (y ∷ c, (λ e. cc), refl, same)
two_ways (x ∷ a) b (y ∷ c) d same =
    let heads : x ≡ y = cc in
    let tails : a ++ b ≡ c ++ d = cc in
    elim (two_ways a b c d tails) [
      | inl short ↦ inl (short.0, short.1, rw (heads, short.2) refl, short.3)
      | inr long ↦ inr (long.0, rw (heads, long.1) refl, long.2)
    ]

pub some_length : (xs : List ℕ) → xs ≢ [] → 0 < length xs
some_length [] some = absurd (some refl)
some_length (x ∷ xs) some = omega arith

-- no byte at all
pub none_cut : (levels total : ℕ) → item_at levels total [] ≡ Err (fault.Truncated total)
unfolding item_at format_at
none_cut zero total = refl
none_cut (suc l) total = refl

leaf_short : (total place k : ℕ) (f : Format) (bytes : List ℕ) → length bytes < k → leaf_at total place f k bytes ≡ Err (fault.Truncated total)
unfolding leaf_at
leaf_short total place k f bytes short = rw (length_at-short total k bytes short) refl

body_short : (total n : ℕ) (f : Format) (part : List ℕ) → length part < n → no_character f part ≡ None → body_at total f n part ≡ Err (fault.Truncated total)
unfolding body_at
body_short total n f part short text =
    let all : take n part ≡ part = take_all n part (omega arith) in
    let characters : no_character f (take n part) ≡ None = rw all text in
    rw (characters, lt-ltb (length part) n short) refl

pub leaf_cut : (total place k n : ℕ) (f : Format) (bytes part : List ℕ) → length_at total k bytes ≡ Ok (n, part) → n % width f ≡ 0 →
    length part < n → no_character f part ≡ None → leaf_at total place f k bytes ≡ Err (fault.Truncated total)
unfolding leaf_at
leaf_cut total place k n f bytes part read whole short text = rw (read, eq-eqb _ _ whole) (body_short total n f part short text)

cut_leaf : (x : Data) (tail rest : List ℕ) (levels total : ℕ) → rest ≢ [] → IsLeaf x (tail ++ rest) → item_at levels total tail ≡ Err (fault.Truncated total)
cut_leaf x [] rest levels total some is = none_cut levels total
cut_leaf x (b ∷ tail) rest levels total some is =
    let (k, one, small, fits, head_same) = is.is_head in
    let n = length is.body in
    let lens = bytes_high_first k n in
    let whole : b ∷ (tail ++ rest) ≡ (4 * code is.f + k) ∷ (lens ++ is.body) = is.same ∙ ap (λ (h : List ℕ). h ++ is.body) head_same in
    let byte : b ≡ 4 * code is.f + k = cc in
    let tails : tail ++ rest ≡ lens ++ is.body = cc in
    let format_read : format_at total (b ∷ tail) ≡ Ok (is.f, k, tail) = rw byte (format_at-byte total k is.f tail one small) in
    let place = total - length (b ∷ tail) in
    let step = leaf_item levels total k (b ∷ tail) tail is.f format_read is.other in
    elim (two_ways tail rest lens is.body tails) [
      | inl short ↦
          let more = some_length short.0 short.1 in
          let size : length lens ≡ length tail + length short.0 = ap length short.2 ∙ length-append tail short.0 in
          step ∙ leaf_short total place k is.f tail (omega (arith, length-bytes_high_first k n, size, more))
      | inr long ↦
          let more = some_length rest some in
          let size : n ≡ length long.0 + length rest = ap length long.2 ∙ length-append long.0 rest in
          let read : length_at total k tail ≡ Ok (n, long.0) = rw long.1 (head_reads is.f n k long.0 total one small fits).1 in
          let text : no_character is.f (long.0 ++ rest) ≡ None = subst (λ (body : List ℕ). no_character is.f body ≡ None) long.2 is.text in
          step ∙ leaf_cut total place k n is.f tail long.0 read is.whole (omega (arith, size, more)) (no_character-front is.f long.0 rest text)
    ]

-- the items of a list
items_cut : (one : List ℕ → Read Data) (total depth : ℕ) →
    ((x : Data) (bytes rest : List ℕ) → Spells x depth bytes → one (bytes ++ rest) ≡ Ok (x, rest)) →
    ((x : Data) (part rest : List ℕ) → rest ≢ [] → Spells x depth (part ++ rest) → one part ≡ Err (fault.Truncated total)) →
    (ds : DataList) (part rest : List ℕ) → rest ≢ [] → SpellAll ds depth (part ++ rest) → items_at one (count_of ds) part ≡ Err (fault.Truncated total)
items_cut one total depth reads cuts no_items [] rest some spells = absurd (some spells)
items_cut one total depth reads cuts no_items (b ∷ part) rest some spells = absurd (cc)
items_cut one total depth reads cuts (item x ds) part rest some (front, behind, spells, more, same) =
    elim (two_ways part rest front behind same) [
      | inl short ↦
          let here : one part ≡ Err (fault.Truncated total) = cuts x part short.0 short.1 (subst (Spells x depth) short.2 spells) in
          rw here refl
      | inr long ↦
          let here : one part ≡ Ok (x, long.0) = rw long.1 (reads x front long.0 spells) in
          let then = items_cut one total depth reads cuts ds long.0 rest some (subst (SpellAll ds depth) long.2 more) in
          rw (here, then) refl
    ]

cut_list : (x : Data) (l depth total : ℕ) (tail rest : List ℕ) → rest ≢ [] → IsListSpelling x depth (tail ++ rest) →
    ((y : Data) (bytes rest : List ℕ) → Spells y (suc depth) bytes → item_at l total (bytes ++ rest) ≡ Ok (y, rest)) →
    ((y : Data) (part rest : List ℕ) → rest ≢ [] → Spells y (suc depth) (part ++ rest) → item_at l total part ≡ Err (fault.Truncated total)) →
    item_at (suc l) total tail ≡ Err (fault.Truncated total)
cut_list x l depth total [] rest some is reads cuts = none_cut (suc l) total
cut_list x l depth total (b ∷ tail) rest some (ds, x_is, deep, head, body, is_head, spell, same) reads cuts =
    let (k, one, small, fits, head_same) = is_head in
    let n = count_of ds in
    let lens = bytes_high_first k n in
    let whole : b ∷ (tail ++ rest) ≡ (4 * code format.List + k) ∷ (lens ++ body) = same ∙ ap (λ (h : List ℕ). h ++ body) head_same in
    let byte : b ≡ 4 * code format.List + k = cc in
    let tails : tail ++ rest ≡ lens ++ body = cc in
    let format_read : format_at total (b ∷ tail) ≡ Ok (format.List, k, tail) = rw byte (format_at-byte total k format.List tail one small) in
    let step = list_item l total k (b ∷ tail) tail format_read in
    let end : ItemFault = fault.Truncated total in
    elim (two_ways tail rest lens body tails) [
      | inl short ↦
          let more = some_length short.0 short.1 in
          let size : length lens ≡ length tail + length short.0 = ap length short.2 ∙ length-append tail short.0 in
          step ∙ fails_length (item_at l total) total k tail end (length_at-short total k tail (omega (arith, length-bytes_high_first k n, size, more)))
      | inr long ↦
          let read : length_at total k tail ≡ Ok (n, long.0) = rw long.1 (head_reads format.List n k long.0 total one small fits).1 in
          let items = items_cut (item_at l total) total (suc depth) reads cuts ds long.0 rest some (subst (SpellAll ds (suc depth)) long.2 spell) in
          step ∙ fails_items (item_at l total) total k n tail long.0 end read items
    ]

-- a proper front of a spelling
pub cut : (levels : ℕ) (x : Data) (depth : ℕ) (tail rest : List ℕ) (total : ℕ) → levels + depth ≡ 16 → rest ≢ [] → Spells x depth (tail ++ rest) →
    item_at levels total tail ≡ Err (fault.Truncated total)
cut zero x depth tail rest total deep some spells = elim (spelled x depth (tail ++ rest) spells) [
  | inl of_list ↦ absurd (omega (arith, of_list.2))
  | inr of_leaf ↦ cut_leaf x tail rest 0 total some of_leaf
]
cut (suc l) x depth tail rest total deep some spells = elim (spelled x depth (tail ++ rest) spells) [
  | inl of_list ↦ cut_list x l depth total tail rest some of_list
      (λ y bytes rest inner. again l y (suc depth) bytes rest total (omega arith) inner)
      (λ y part rest some inner. cut l y (suc depth) part rest total (omega arith) some inner)
  | inr of_leaf ↦ cut_leaf x tail rest (suc l) total some of_leaf
]
