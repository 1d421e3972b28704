-- The fault that the reading tells, and the faults that stand in the input.
use Rattle.std.proofs.Common.{◌≡◌, ◌≢◌, ◌<◌, ◌≤◌, ◌+◌, ◌-◌, ◌*◌, ◌%◌, ◌/◌, ◌⊎◌, ℕ, zero, suc, false, List, [], ◌∷◌, ◌++◌, length, take, drop, slice_index, Some, None, Ok, Err, refl, ap, sym, ◌∙◌, subst, inl, inr, arith, append-nil, append_assoc, length-append, length-drop, length-take}
use Rattle.std.proofs.lemmas.Bool.{ne_eqb, eq-eqb, cases_eq}
use Rattle.std.proofs.lemmas.List.{take_at, drop_at, get_or_at, take-append-drop, drop_more}
use Rattle.std.proofs.Math.Seq.{take-append-add}
use Rattle.std.specs.Int.{bytes_high_first}
use Rattle.item_model.specs.Data.{Data, DataList, no_items, item, added}
use Rattle.secs_items.specs.Faults.{Begins, BeginsAt, Stands, place_of, rank_of, Precedes, IsFirst}
use Rattle.item_model.specs.Format.{code, width, IsNoCode}
use Rattle.item_model.specs.Plain.{count_of}
use Rattle.item_model.specs.Reading.{Read, first_with, formats, format_at, length_at, no_character, body_at, leaf_at, items_at, is_list, list_at, item_at}
use Rattle.item_model.specs.Spelling.{AreBelow, IsHead, Spells, SpellAll}
use Rattle.item_model.specs.declared.fault.ItemFault.{ItemFault}
use Rattle.item_model.specs.declared.fault.ItemFault.TheVariants as fault
use Rattle.item_model.specs.declared.format.Format.{Format}
use Rattle.item_model.specs.declared.format.Format.TheVariants as format
use Rattle.secs_items.proofs.Characters.{over-position, position-over}
use Rattle.secs_items.proofs.Complete.{completes}
use Rattle.secs_items.proofs.Cut.{cut}
use Rattle.secs_items.proofs.Digits.{below_append, below_left, below_right}
use Rattle.secs_items.proofs.Failing.{err_is, FormatFails, nothing, no_length, no_format, LeafFails, short_head, bad_width, bad_text, short_body, short_list, bad_items, ItemFails, at_format, too_deep, in_list, in_leaf, leaf_fails, list_fails, item_fails}
use Rattle.secs_items.proofs.Grammar.{again, found}
use Rattle.secs_items.proofs.Heads.{bind_err, format_at-byte, head_reads, head_is, format_at-ok, length_at-ok}
use Rattle.secs_items.proofs.Stepping.{fails_item, leaf_item, deep_item, list_item}

-- ---- the way to an item

pub begins_depth : (depth : ℕ) (front : List ℕ) → Begins depth front → depth ≤ 16
begins_depth zero front begins = omega arith
begins_depth (suc depth) front (outer, head, before, n, ds, begins, low, is_head, spell, fewer, same) = low

items_err : (one : List ℕ → Read Data) (depth : ℕ) →
    ((x : Data) (bytes rest : List ℕ) → Spells x depth bytes → one (bytes ++ rest) ≡ Ok (x, rest)) →
    (ds : DataList) (before tail : List ℕ) (n : ℕ) (e : ItemFault) → SpellAll ds depth before → count_of ds < n → one tail ≡ Err e →
    items_at one n (before ++ tail) ≡ Err e
items_err one depth reads ds before tail zero e spells fewer failed = absurd (omega arith)
items_err one depth reads no_items before tail (suc n) e spells fewer failed = rw (spells, failed) refl
items_err one depth reads (item x ds) before tail (suc n) e (front, behind, here, more, same) fewer failed =
    let read : one (front ++ (behind ++ tail)) ≡ Ok (x, behind ++ tail) = reads x front (behind ++ tail) here in
    let then = items_err one depth reads ds behind tail n e more (omega arith) failed in
    rw (same, append_assoc, read, then) refl

list_err : (one : List ℕ → Read Data) (total k n : ℕ) (bytes rest : List ℕ) (e : ItemFault) → length_at total k bytes ≡ Ok (n, rest) →
    items_at one n rest ≡ Err e → list_at one total k bytes ≡ Err e
unfolding list_at
list_err one total k n bytes rest e read failed = rw (read, failed) refl

-- a fault of an item that begins there is the fault of the input
pub path : (depth l total : ℕ) (front tail : List ℕ) (e : ItemFault) → l + depth ≡ 16 → Begins depth front → item_at l total tail ≡ Err e →
    item_at 16 total (front ++ tail) ≡ Err e
path zero l total front tail e deep begins failed =
    let top : l ≡ 16 = omega arith in
    rw begins (subst (λ (n : ℕ). item_at n total tail ≡ Err e) top failed)
path (suc depth) l total front tail e deep (outer, head, before, n, ds, begins, low, is_head, spell, fewer, same) failed =
    let (k, one, small, fits, head_same) = is_head in
    let lens = bytes_high_first k n in
    let reads = head_reads format.List n k (before ++ tail) total one small fits in
    let whole : List ℕ = ((4 * code format.List + k) ∷ lens) ++ (before ++ tail) in
    let items = items_err (item_at l total) (suc depth) (λ x bytes rest inner. again l x (suc depth) bytes rest total deep inner) ds before tail n e spell fewer failed in
    let outer_failed : item_at (suc l) total whole ≡ Err e =
    list_item l total k whole (lens ++ (before ++ tail)) reads.0 ∙ list_err (item_at l total) total k n (lens ++ (before ++ tail)) (before ++ tail) e reads.1 items in
    let all : front ++ tail ≡ outer ++ whole =
    ap (λ (f : List ℕ). f ++ tail) same ∙ append_assoc outer (head ++ before) tail
    ∙ ap (λ (b : List ℕ). outer ++ b) (append_assoc head before tail ∙ ap (λ (h : List ℕ). h ++ (before ++ tail)) head_same) in
    rw all (path depth (suc l) total outer whole e (omega arith) begins outer_failed)

-- ---- the fault that is told stands

-- where a tail begins
record Place (input front tail : List ℕ) : Type 0 where
  at : length input - length tail ≡ length front
  before : take (length front) input ≡ front
  behind : drop (length front) input ≡ tail

place : (input front tail : List ℕ) → input ≡ front ++ tail → Place input front tail
place input front tail same =
    let size : length input ≡ length front + length tail = ap length same ∙ length-append front tail in
    record {
      at = omega (arith, size);
      before = ap (take (length front)) same ∙ take_at front tail (length front) refl;
      behind = ap (drop (length front)) same ∙ drop_at front tail (length front) refl;
    }

-- the format byte of the item behind the front
begins_at : (input front tail : List ℕ) (b depth : ℕ) → input ≡ front ++ (b ∷ tail) → Begins depth front →
    BeginsAt input (length front) depth × (slice_index input (length front) ≡ b)
begins_at input front tail b depth same begins =
    let at = place input front (b ∷ tail) same in
    let size : length input ≡ length front + length (b ∷ tail) = ap length same ∙ length-append front (b ∷ tail) in
    let here : slice_index input (length front) ≡ b = ap (λ (xs : List ℕ). slice_index xs (length front)) same ∙ get_or_at front b tail 0 (length front) refl in
    ((subst (Begins depth) (sym at.before) begins, omega (arith, size)), here)

-- what is told: the end of the input, or a fault that stands in it
abbrev pub IsTold : List ℕ → ItemFault → Type 0
IsTold input e = (e ≡ fault.Truncated (length input)) ⊎ Stands input e

format_told : (input front tail : List ℕ) (depth : ℕ) (e : ItemFault) → input ≡ front ++ tail → Begins depth front →
    FormatFails (length input) tail e → IsTold input e
format_told input front tail depth e same begins (nothing none is) = inl is
format_told input front tail depth e same begins (no_length b rest tail_is zero_length is) =
    let whole : input ≡ front ++ (b ∷ rest) = same ∙ ap (λ (t : List ℕ). front ++ t) tail_is in
    let here = begins_at input front rest b depth whole begins in
    let stands : Stands input (fault.BadLengthBytes (length front)) = (depth, here.0, rw here.1 zero_length) in
    inr (subst (Stands input) (sym (is ∙ ap fault.BadLengthBytes (place input front tail same).at)) stands)
format_told input front tail depth e same begins (no_format b rest tail_is some_length unknown is) =
    let whole : input ≡ front ++ (b ∷ rest) = same ∙ ap (λ (t : List ℕ). front ++ t) tail_is in
    let here = begins_at input front rest b depth whole begins in
    let stands : Stands input (fault.BadCode (length front) (b / 4)) = (depth, here.0, ap (λ (c : ℕ). c / 4) here.1, unknown) in
    inr (subst (Stands input) (sym (is ∙ ap (λ (p : ℕ). fault.BadCode p (b / 4)) (place input front tail same).at)) stands)

the_ascii : (f : Format) (bytes : List ℕ) (i : ℕ) → no_character f bytes ≡ Some i → f ≡ format.Ascii
the_ascii format.Ascii bytes i some = refl
the_ascii f bytes i some = absurd (cc)

leaf_told : (input front tail rest : List ℕ) (depth k : ℕ) (f : Format) (e : ItemFault) → input ≡ front ++ tail → AreBelow 256 input → Begins depth front →
    1 ≤ k → k ≤ 3 → tail ≡ (4 * code f + k) ∷ rest → LeafFails (length input) (length input - length tail) k f rest e → IsTold input e
leaf_told input front tail rest depth k f e same below begins one small tail_is (short_head short is) = inl is
leaf_told input front tail rest depth k f e same below begins one small tail_is (short_body n body read whole text short is) = inl is
leaf_told input front tail rest depth k f e same below begins one small tail_is (bad_width n body read bad is) =
    let (lens, size, split, number) = length_at-ok (length input) k n rest body read in
    let at = place input front tail same in
    let low : AreBelow 256 (front ++ tail) = subst (AreBelow 256) same below in
    let low_tail : AreBelow 256 ((4 * code f + k) ∷ rest) = subst (AreBelow 256) tail_is (below_right 256 front tail low) in
    let low_rest : AreBelow 256 (lens ++ body) = subst (AreBelow 256) split low_tail.1 in
    let head = head_is f n k lens one small size (below_left 256 lens body low_rest) number in
    let behind : drop (length front) input ≡ ((4 * code f + k) ∷ lens) ++ body = at.behind ∙ tail_is ∙ ap (λ (r : List ℕ). (4 * code f + k) ∷ r) split in
    let stands : Stands input (fault.BadWidth (length front)) =
    (depth, f, n, (4 * code f + k) ∷ lens, body, subst (Begins depth) (sym at.before) begins, head, bad, behind) in
    inr (subst (Stands input) (sym (is ∙ ap fault.BadWidth at.at)) stands)
leaf_told input front tail rest depth k f e same below begins one small tail_is (bad_text n i body read text is) =
    let (lens, size, split, number) = length_at-ok (length input) k n rest body read in
    let ascii = the_ascii f (take n body) i text in
    let (chars, b, more, take_is, long, low_chars, over) = over-position (take n body) i (subst (λ (g : Format). no_character g (take n body) ≡ Some i) ascii text) in
    let byte = 4 * code f + k in
    let low : AreBelow 256 (front ++ tail) = subst (AreBelow 256) same below in
    let low_tail : AreBelow 256 (byte ∷ rest) = subst (AreBelow 256) tail_is (below_right 256 front tail low) in
    let low_rest : AreBelow 256 (lens ++ body) = subst (AreBelow 256) split low_tail.1 in
    let head : IsHead format.Ascii n (byte ∷ lens) =
    subst (λ (g : Format). IsHead g n (byte ∷ lens)) ascii (head_is f n k lens one small size (below_left 256 lens body low_rest) number) in
    let behind = more ++ drop n body in
    let left = front ++ ((byte ∷ lens) ++ chars) in
    let body_is : body ≡ chars ++ (b ∷ behind) =
    sym (take-append-drop n body) ∙ ap (λ (t : List ℕ). t ++ drop n body) take_is ∙ append_assoc chars (b ∷ more) (drop n body) in
    let tail_parts : tail ≡ ((byte ∷ lens) ++ chars) ++ (b ∷ behind) =
    tail_is ∙ ap (λ (r : List ℕ). byte ∷ r) (split ∙ ap (λ (r : List ℕ). lens ++ r) body_is) ∙ sym (append_assoc (byte ∷ lens) chars (b ∷ behind)) in
    let whole : input ≡ left ++ (b ∷ behind) = same ∙ ap (λ (t : List ℕ). front ++ t) tail_parts ∙ sym (append_assoc front ((byte ∷ lens) ++ chars) (b ∷ behind)) in
    let at = place input left (b ∷ behind) whole in
    let input_size : length input ≡ length left + length (b ∷ behind) = ap length whole ∙ length-append left (b ∷ behind) in
    let body_size : length body ≡ length chars + length (b ∷ behind) = ap length body_is ∙ length-append chars (b ∷ behind) in
    let taken : length (take n body) ≡ length chars + length (b ∷ more) = ap length take_is ∙ length-append chars (b ∷ more) in
    let left_size : length left ≡ length front + length ((byte ∷ lens) ++ chars) = length-append front ((byte ∷ lens) ++ chars) in
    let head_size : length ((byte ∷ lens) ++ chars) ≡ length (byte ∷ lens) + length chars = length-append (byte ∷ lens) chars in
    let here : slice_index input (length left) ≡ b = ap (λ (xs : List ℕ). slice_index xs (length left)) whole ∙ get_or_at left b behind 0 (length left) refl in
    let fewer : length chars < n = omega (arith, taken, length-take n body) in
    let place_is : length input - length body + i ≡ length left = omega (arith, input_size, body_size, left_size, head_size, long) in
    let stands : Stands input (fault.BadAscii (length left)) =
    (depth, n, front, byte ∷ lens, chars, begins, head, low_chars, fewer, at.before, omega (arith, input_size), rw here over) in
    inr (subst (Stands input) (sym (is ∙ ap fault.BadAscii place_is)) stands)

-- items before one more
spell_added : (ds : DataList) (x : Data) (depth : ℕ) (before bytes : List ℕ) → SpellAll ds depth before → Spells x depth bytes →
    SpellAll (added ds x) depth (before ++ bytes) × (count_of (added ds x) ≡ suc (count_of ds))
spell_added no_items x depth before bytes spells here =
    ((bytes, [], here, refl, rw spells (sym (append-nil bytes))), refl)
spell_added (item y ds) x depth before bytes (front, behind, first, more, same) here =
    let rest = spell_added ds x depth behind bytes more here in
    ((front, behind ++ bytes, first, rest.0, ap (λ (b : List ℕ). b ++ bytes) same ∙ append_assoc front behind bytes), ap suc rest.1)

-- the items of a list that begins behind the front
items_told : (input front head : List ℕ) (l depth n : ℕ) → suc l + depth ≡ 16 → AreBelow 256 input → Begins depth front → IsHead format.List n head →
    ((front tail : List ℕ) (e : ItemFault) → input ≡ front ++ tail → Begins (suc depth) front → item_at l (length input) tail ≡ Err e → IsTold input e) →
    (m : ℕ) (ds : DataList) (before tail : List ℕ) (e : ItemFault) → SpellAll ds (suc depth) before → count_of ds + m ≡ n →
    input ≡ front ++ (head ++ (before ++ tail)) → items_at (item_at l (length input)) m tail ≡ Err e → IsTold input e
items_told input front head l depth n deep below begins is_head each zero ds before tail e spells count same failed = absurd (cc)
items_told input front head l depth n deep below begins is_head each (suc m) ds before tail e spells count same failed =
    let so_far = front ++ (head ++ before) in
    let whole : input ≡ so_far ++ tail =
    same ∙ ap (λ (r : List ℕ). front ++ r) (sym (append_assoc head before tail)) ∙ sym (append_assoc front (head ++ before) tail) in
    elim (bind_err (item_at l (length input) tail) _ e failed) [
      | inl here ↦ each so_far tail e whole (front, head, before, n, ds, begins, omega arith, is_head, spells, omega arith, refl) here
      | inr (d, read, rest_failed) ↦ elim (bind_err (items_at (item_at l (length input)) m d.1) _ e rest_failed) [
        | inr (es, items, end) ↦ absurd (cc)
        | inl more ↦
            let low : AreBelow 256 (so_far ++ tail) = subst (AreBelow 256) whole below in
            let (bytes, split, here) = found l d.0 (suc depth) tail d.1 (length input) (omega arith) (below_right 256 so_far tail low) read in
            let next = spell_added ds d.0 (suc depth) before bytes spells here in
            let same_next : input ≡ front ++ (head ++ ((before ++ bytes) ++ d.1)) =
            same ∙ ap (λ (r : List ℕ). front ++ (head ++ r)) (ap (λ (t : List ℕ). before ++ t) split ∙ sym (append_assoc before bytes d.1)) in
            items_told input front head l depth n deep below begins is_head each m (added ds d.0) (before ++ bytes) d.1 e next.0 (omega (arith, next.1, count)) same_next more
      ]
    ]

-- an item that begins behind the front
told : (levels depth : ℕ) (input front tail : List ℕ) (e : ItemFault) → levels + depth ≡ 16 → AreBelow 256 input → input ≡ front ++ tail → Begins depth front →
    ItemFails levels (length input) tail e →
    ((l : ℕ) → levels ≡ suc l → (front tail : List ℕ) (e : ItemFault) → input ≡ front ++ tail → Begins (suc depth) front → item_at l (length input) tail ≡ Err e → IsTold input e) →
    IsTold input e
told levels depth input front tail e deep below same begins (at_format fails) each = format_told input front tail depth e same begins fails
told levels depth input front tail e deep below same begins (too_deep k rest end read is) each =
    let (one, small, tail_is) = format_at-ok (length input) k format.List tail rest read in
    let byte = 4 * code format.List + k in
    let whole : input ≡ front ++ (byte ∷ rest) = same ∙ ap (λ (t : List ℕ). front ++ t) tail_is in
    let here = begins_at input front rest byte depth whole begins in
    let bottom : depth ≡ 16 = omega arith in
    let zero_code : slice_index input (length front) / 4 ≡ 0 = rw here.1 (omega arith) in
    let stands : Stands input (fault.TooDeep (length front)) = (subst (BeginsAt input (length front)) bottom here.0, zero_code) in
    inr (subst (Stands input) (sym (is ∙ ap fault.TooDeep (place input front tail same).at)) stands)
told levels depth input front tail e deep below same begins (in_list l k rest next read failed) each =
    let (one, small, tail_is) = format_at-ok (length input) k format.List tail rest read in
    elim (list_fails (item_at l (length input)) (length input) k rest e failed) [
      | short_list short is ↦ inl is
      | bad_items n behind length_read items ↦
          let (lens, size, split, number) = length_at-ok (length input) k n rest behind length_read in
          let byte = 4 * code format.List + k in
          let low : AreBelow 256 (front ++ tail) = subst (AreBelow 256) same below in
          let low_tail : AreBelow 256 (byte ∷ rest) = subst (AreBelow 256) tail_is (below_right 256 front tail low) in
          let low_rest : AreBelow 256 (lens ++ behind) = subst (AreBelow 256) split low_tail.1 in
          let head = head_is format.List n k lens one small size (below_left 256 lens behind low_rest) number in
          let whole : input ≡ front ++ ((byte ∷ lens) ++ ([] ++ behind)) =
          same ∙ ap (λ (t : List ℕ). front ++ t) (tail_is ∙ ap (λ (r : List ℕ). byte ∷ r) split) in
          items_told input front (byte ∷ lens) l depth n (omega (arith, next, deep)) below begins head (each l next) n no_items [] behind e refl (omega arith) whole items
    ]
told levels depth input front tail e deep below same begins (in_leaf f k rest read single failed) each =
    let (one, small, tail_is) = format_at-ok (length input) k f tail rest read in
    leaf_told input front tail rest depth k f e same below begins one small tail_is (leaf_fails (length input) (length input - length tail) k f rest e failed)

item_told : (levels depth : ℕ) (input front tail : List ℕ) (e : ItemFault) → levels + depth ≡ 16 → AreBelow 256 input → input ≡ front ++ tail → Begins depth front →
    item_at levels (length input) tail ≡ Err e → IsTold input e
item_told zero depth input front tail e deep below same begins read =
    told 0 depth input front tail e deep below same begins (item_fails 0 (length input) tail e read) (λ l next. absurd (omega arith))
item_told (suc l) depth input front tail e deep below same begins read =
    told (suc l) depth input front tail e deep below same begins (item_fails (suc l) (length input) tail e read)
    (λ m next inner_front inner_tail f inner_same inner_begins inner_read.
    let down : m ≡ l = omega arith in
    item_told l (suc depth) input inner_front inner_tail f (omega arith) below inner_same inner_begins
    (subst (λ (n : ℕ). item_at n (length input) inner_tail ≡ Err f) down inner_read))

-- the fault that is told stands in the input
pub told_stands : (input : List ℕ) (e : ItemFault) → AreBelow 256 input → item_at 16 (length input) input ≡ Err e → Stands input e
told_stands input e below read =
    elim (item_told 16 0 input [] input e refl below refl refl read) [
      | inr stands ↦ stands
      | inl end ↦
          let truncated : item_at 16 (length input) input ≡ Err (fault.Truncated (length input)) = read ∙ ap (λ (f : ItemFault). Err f) end in
          let (rest, x, some, low, whole) = completes 16 0 (length input) (length input) (length input) input refl below truncated in
          let (front, split, spells) = found 16 x 0 (input ++ rest) [] (length input) refl (below_append 256 input rest below low) whole in
          let all : input ++ rest ≡ front = split ∙ append-nil front in
          let stands : Stands input (fault.Truncated (length input)) = ((x, rest, some, subst (Spells x 0) (sym all) spells), refl) in
          subst (Stands input) (sym end) stands
    ]

-- ---- a fault that stands is told, unless another comes first

-- the reading fails with this fault, or with one that comes first
abbrev pub FailsBy : List ℕ → ItemFault → Type 0
FailsBy input g = (e : ItemFault) × (item_at 16 (length input) input ≡ Err e) × ((e ≡ g) ⊎ Precedes e g)

-- what stands at a place
record Tail (input : List ℕ) (p b : ℕ) (rest : List ℕ) : Type 0 where
  is : drop p input ≡ b ∷ rest
  at : length input - length (b ∷ rest) ≡ p

tail_at : (input : List ℕ) (p : ℕ) → p < length input → Tail input p (slice_index input p) (drop (p + 1) input)
tail_at input p inside =
    let is : drop p input ≡ slice_index input p ∷ drop (p + 1) input = drop_more input p 0 inside in
    let size : length (slice_index input p ∷ drop (p + 1) input) ≡ length input - p = ap length (sym is) ∙ length-drop p input in
    record { is = is; at = omega (arith, size) }

-- a fault of the item that begins at a place is the fault of the input
from_place : (input tail : List ℕ) (p depth : ℕ) (e : ItemFault) → Begins depth (take p input) → drop p input ≡ tail →
    item_at (16 - depth) (length input) tail ≡ Err e → item_at 16 (length input) input ≡ Err e
from_place input tail p depth e begins is failed =
    let low = begins_depth depth (take p input) begins in
    let whole : take p input ++ tail ≡ input = ap (λ (t : List ℕ). take p input ++ t) (sym is) ∙ take-append-drop p input in
    ap (item_at 16 (length input)) (sym whole) ∙ path depth (16 - depth) (length input) (take p input) tail e (omega arith) begins failed

format_none : (total b : ℕ) (rest : List ℕ) → b % 4 ≡ 0 → format_at total (b ∷ rest) ≡ Err (fault.BadLengthBytes (total - length (b ∷ rest)))
unfolding format_at
format_none total b rest none = rw (eq-eqb (b % 4) 0 none) refl

no_first : (n : ℕ) (fs : List Format) → IsNoCode n → first_with n fs ≡ None
no_first n [] unknown = refl
no_first n (f ∷ fs) unknown = rw (ne_eqb (code f) n (unknown f)) (no_first n fs unknown)

format_unknown : (total b : ℕ) (rest : List ℕ) → b % 4 ≢ 0 → IsNoCode (b / 4) → format_at total (b ∷ rest) ≡ Err (fault.BadCode (total - length (b ∷ rest)) (b / 4))
unfolding format_at
format_unknown total b rest some unknown = rw (ne_eqb (b % 4) 0 some, no_first (b / 4) formats unknown) refl

leaf_bad_width : (total at k n : ℕ) (f : Format) (bytes rest : List ℕ) → length_at total k bytes ≡ Ok (n, rest) → n % width f ≢ 0 →
    leaf_at total at f k bytes ≡ Err (fault.BadWidth at)
unfolding leaf_at
leaf_bad_width total at k n f bytes rest read bad = rw (read, ne_eqb (n % width f) 0 bad) refl

leaf_bad_text : (total at k n i : ℕ) (f : Format) (bytes body : List ℕ) → length_at total k bytes ≡ Ok (n, body) → n % width f ≡ 0 →
    no_character f (take n body) ≡ Some i → leaf_at total at f k bytes ≡ Err (fault.BadAscii (total - length body + i))
unfolding leaf_at body_at
leaf_bad_text total at k n i f bytes body read whole text = rw (read, eq-eqb (n % width f) 0 whole, text) refl

-- a format byte that announces no length bytes comes first at its place
no_length_told : (input : List ℕ) (p depth : ℕ) → BeginsAt input p depth → slice_index input p % 4 ≡ 0 → item_at 16 (length input) input ≡ Err (fault.BadLengthBytes p)
no_length_told input p depth (begins, inside) none =
    let tail = tail_at input p inside in
    let rest = drop (p + 1) input in
    let b = slice_index input p in
    let failed : format_at (length input) (b ∷ rest) ≡ Err (fault.BadLengthBytes p) = format_none (length input) b rest none ∙ ap (λ (q : ℕ). Err (fault.BadLengthBytes q)) tail.at in
    from_place input (b ∷ rest) p depth (fault.BadLengthBytes p) begins tail.is (fails_item (16 - depth) (length input) (b ∷ rest) (fault.BadLengthBytes p) failed)

code_told : (input : List ℕ) (p c depth : ℕ) → BeginsAt input p depth → slice_index input p / 4 ≡ c → IsNoCode c → FailsBy input (fault.BadCode p c)
code_told input p c depth (begins, inside) coded unknown =
    let tail = tail_at input p inside in
    let rest = drop (p + 1) input in
    let b = slice_index input p in
    elim (cases_eq (b % 4) 0) [
      | inl none ↦ (fault.BadLengthBytes p, no_length_told input p depth (begins, inside) none, inr (inr (refl, omega arith)))
      | inr some ↦
          let failed : format_at (length input) (b ∷ rest) ≡ Err (fault.BadCode p c) =
          format_unknown (length input) b rest some (subst IsNoCode (sym coded) unknown)
          ∙ ap (λ (q : ℕ). Err (fault.BadCode q (b / 4))) tail.at ∙ ap (λ (d : ℕ). Err (fault.BadCode p d)) coded in
          (fault.BadCode p c, from_place input (b ∷ rest) p depth (fault.BadCode p c) begins tail.is (fails_item (16 - depth) (length input) (b ∷ rest) (fault.BadCode p c) failed), inl refl)
    ]

single : (f : Format) (n : ℕ) → n % width f ≢ 0 → is_list f ≡ false
single format.List n bad = absurd (bad (omega arith))
single f n bad = refl

width_told : (input : List ℕ) (p depth n : ℕ) (f : Format) (head behind : List ℕ) → Begins depth (take p input) → IsHead f n head → n % width f ≢ 0 →
    drop p input ≡ head ++ behind → item_at 16 (length input) input ≡ Err (fault.BadWidth p)
width_told input p depth n f head behind begins (k, one, small, fits, head_same) bad is =
    let total = length input in
    let lens = bytes_high_first k n in
    let reads = head_reads f n k behind total one small fits in
    let whole : List ℕ = ((4 * code f + k) ∷ lens) ++ behind in
    let tail_is : drop p input ≡ whole = is ∙ ap (λ (h : List ℕ). h ++ behind) head_same in
    let size : length whole ≡ length input - p = ap length (sym tail_is) ∙ length-drop p input in
    let at : length input - length whole ≡ p = omega arith in
    let failed : item_at (16 - depth) total whole ≡ Err (fault.BadWidth p) =
    leaf_item (16 - depth) total k whole (lens ++ behind) f reads.0 (single f n bad)
    ∙ leaf_bad_width total (total - length whole) k n f (lens ++ behind) behind reads.1 bad ∙ ap (λ (q : ℕ). Err (fault.BadWidth q)) at in
    from_place input whole p depth (fault.BadWidth p) begins tail_is failed

deep_told : (input : List ℕ) (p : ℕ) → BeginsAt input p 16 → slice_index input p / 4 ≡ 0 → FailsBy input (fault.TooDeep p)
deep_told input p (begins, inside) coded =
    let tail = tail_at input p inside in
    let rest = drop (p + 1) input in
    let b = slice_index input p in
    elim (cases_eq (b % 4) 0) [
      | inl none ↦ (fault.BadLengthBytes p, no_length_told input p 16 (begins, inside) none, inr (inr (refl, omega arith)))
      | inr some ↦
          let byte : b ≡ 4 * code format.List + b % 4 = omega arith in
          let read : format_at (length input) (b ∷ rest) ≡ Ok (format.List, b % 4, rest) =
          ap (λ (c : ℕ). format_at (length input) (c ∷ rest)) byte ∙ format_at-byte (length input) (b % 4) format.List rest (omega arith) (omega arith) in
          let failed : item_at 0 (length input) (b ∷ rest) ≡ Err (fault.TooDeep p) = deep_item (length input) (b % 4) (b ∷ rest) rest read ∙ ap (λ (q : ℕ). Err (fault.TooDeep q)) tail.at in
          (fault.TooDeep p, from_place input (b ∷ rest) p 16 (fault.TooDeep p) begins tail.is failed, inl refl)
    ]

text_told : (input : List ℕ) (p depth n : ℕ) (front head text : List ℕ) → Begins depth front → IsHead format.Ascii n head → AreBelow 128 text → length text < n →
    take p input ≡ front ++ (head ++ text) → p < length input → 128 ≤ slice_index input p → item_at 16 (length input) input ≡ Err (fault.BadAscii p)
text_told input p depth n front head text begins (k, one, small, fits, head_same) low fewer is inside over =
    let total = length input in
    let b = slice_index input p in
    let rest = drop (p + 1) input in
    let tail = tail_at input p inside in
    let body = text ++ (b ∷ rest) in
    let lens = bytes_high_first k n in
    let byte = 4 * code format.Ascii + k in
    let reads = head_reads format.Ascii n k body total one small fits in
    let whole : List ℕ = (byte ∷ lens) ++ body in
    let input_is : input ≡ front ++ whole =
    sym (take-append-drop p input) ∙ ap (λ (t : List ℕ). take p input ++ t) tail.is ∙ ap (λ (t : List ℕ). t ++ (b ∷ rest)) is
    ∙ append_assoc front (head ++ text) (b ∷ rest) ∙ ap (λ (t : List ℕ). front ++ t) (append_assoc head text (b ∷ rest) ∙ ap (λ (h : List ℕ). h ++ body) head_same) in
    let m = n - suc (length text) in
    let count : n ≡ length text + suc m = omega arith in
    let taken : take n body ≡ text ++ (b ∷ take m rest) = ap (λ (c : ℕ). take c body) count ∙ take-append-add text (b ∷ rest) (suc m) in
    let over_at : no_character format.Ascii (take n body) ≡ Some (length text) = ap (no_character format.Ascii) taken ∙ position-over text (take m rest) b low over in
    let prefix : p ≡ length front + length (head ++ text) = omega (arith, ap length is ∙ length-append front (head ++ text), length-take p input) in
    let body_size : length body ≡ length text + length (b ∷ rest) = length-append text (b ∷ rest) in
    let tail_size : length (b ∷ rest) ≡ length input - p = ap length (sym tail.is) ∙ length-drop p input in
    let at : total - length body + length text ≡ p = omega (arith, length-append head text) in
    let failed : item_at (16 - depth) total whole ≡ Err (fault.BadAscii p) =
    leaf_item (16 - depth) total k whole (lens ++ body) format.Ascii reads.0 refl
    ∙ leaf_bad_text total (total - length whole) k n (length text) format.Ascii (lens ++ body) body reads.1 (omega arith) over_at ∙ ap (λ (q : ℕ). Err (fault.BadAscii q)) at in
    let deep = begins_depth depth front begins in
    ap (item_at 16 total) input_is ∙ path depth (16 - depth) total front whole (fault.BadAscii p) (omega arith) begins failed

pub stands_told : (input : List ℕ) (g : ItemFault) → Stands input g → FailsBy input g
stands_told input (fault.Truncated p) ((x, rest, some, spells), end) =
    (fault.Truncated (length input), cut 16 x 0 input rest (length input) refl some spells, inl (ap fault.Truncated (sym end)))
stands_told input (fault.BadLengthBytes p) (depth, begins, none) = (fault.BadLengthBytes p, no_length_told input p depth begins none, inl refl)
stands_told input (fault.BadCode p c) (depth, begins, coded, unknown) = code_told input p c depth begins coded unknown
stands_told input (fault.BadWidth p) (depth, f, n, head, behind, begins, is_head, bad, is) =
    (fault.BadWidth p, width_told input p depth n f head behind begins is_head bad is, inl refl)
stands_told input (fault.BadAscii p) (depth, n, front, head, text, begins, is_head, low, fewer, is, inside, over) =
    (fault.BadAscii p, text_told input p depth n front head text begins is_head low fewer is inside over, inl refl)
stands_told input (fault.TooDeep p) (begins, coded) = deep_told input p begins coded
stands_told input fault.NoMemory stands = elim stands [ ]

-- ---- the first fault

not_both : (e g : ItemFault) → (e ≡ g) ⊎ Precedes e g → Precedes g e → ⊥
not_both e g (inl same) (inl less) = let at = ap place_of same in omega arith
not_both e g (inl same) (inr (place, less)) = let rank = ap rank_of same in omega arith
not_both e g (inr (inl before)) (inl after) = omega arith
not_both e g (inr (inl before)) (inr (place, less)) = omega arith
not_both e g (inr (inr (place, less))) (inl after) = omega arith
not_both e g (inr (inr (place, less))) (inr (same, more)) = omega arith

-- the fault that is told is the first
pub told_first : (input : List ℕ) (e : ItemFault) → AreBelow 256 input → item_at 16 (length input) input ≡ Err e → IsFirst input e
told_first input e below read = (
  told_stands input e below read,
  λ g stands before.
      let (f, failed, order) = stands_told input g stands in
      let same : f ≡ e = err_is (sym failed ∙ read) in
      not_both e g (subst (λ (h : ItemFault). (h ≡ g) ⊎ Precedes h g) same order) before,
)

-- the first fault is told
pub first_told : (input : List ℕ) (e : ItemFault) → AreBelow 256 input → IsFirst input e → item_at 16 (length input) input ≡ Err e
first_told input e below (stands, first) =
    let (f, failed, order) = stands_told input e stands in
    elim order [
      | inl same ↦ failed ∙ ap (λ (h : ItemFault). Err h) same
      | inr before ↦ absurd (first f (told_stands input f below failed) before)
    ]
