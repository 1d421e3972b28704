-- The functions of the streams that are spooled: how many a text can list.
use Rattle.std.proofs.Common.{◌≡◌, ◌<◌, ◌≤◌, ◌+◌, ◌*◌, ◌^◌, ◌==◌, ℕ, zero, suc, Bool, true, false, if◌then◌else◌, List, [], ◌∷◌, ◌++◌, length, map, Option, Some, None, option_map, arith, refl, ap, subst, length-append}
use Rattle.std.specs.Int.{bytes_high_first}
use Rattle.std.specs.List.{All, sum_by}
use Rattle.std.proofs.lemmas.List.{length-map}
use Rattle.std.proofs.lemmas.List.Elements.{All-cons}
use Rattle.std.proofs.lemmas.List.Sums.{sum_by-cons}
use Rattle.item_model.specs.Data.{Data, DataList, list, binary, boolean, ascii, i1, i2, i4, i8, u1, u2, u4, u8, no_items, item}
use Rattle.item_model.specs.Plain.{count_of}
use Rattle.item_model.specs.Sendable.{IsLength, HasShortBodies, HaveShortBodies}
use Rattle.item_model.specs.Spelling.{Spells, SpellAll}
use Rattle.secs_items.proofs.Sends.{sendable}
use Rattle.message_model.specs.Bodies.{Form, ◌>>=◌, all_of, each, l2, two, small_id}
use Rattle.message_model.specs.Functions.{AreFewFunctions}
use Rattle.message_model.specs.Few.{HasShortText}
use Rattle.message_model.specs.GemPrimaries.{spooled_stream}
use Rattle.message_model.specs.declared.gem_primary.SpooledStream.{SpooledStream}
use Rattle.msgs_gem.proofs.Parts.{count-all_of, few_parts}

-- what a text spells has short bodies
pub short_bodies : (d : Data) → HasShortText d → HasShortBodies d
short_bodies d (text, spells, short) = (sendable d text spells).bodies

-- ---- an item takes two bytes or more

abbrev mutual
  -- how many items there are in an item, itself among them
  items_in : Data → ℕ
  items_in (list ds) = suc (items_of_all ds)
  items_in d = 1

  -- the same of the items of a list together
  items_of_all : DataList → ℕ
  items_of_all no_items = 0
  items_of_all (item d ds) = items_in d + items_of_all ds

-- a head of this format code
abbrev HasHead : ℕ → ℕ → List ℕ → Type 0
HasHead code n head = (k : ℕ) × (1 ≤ k) × (k ≤ 3) × (n < 256 ^ k) × (head ≡ (4 * code + k) ∷ bytes_high_first k n)

head_size : (code n : ℕ) (head : List ℕ) → HasHead code n head → 2 ≤ length head
head_size code n head (zero, some, few, fits, same) = absurd (omega arith)
head_size code n head (suc k, some, few, fits, same) = rw same (omega arith)

leaf_size : (code : ℕ) (head body bytes : List ℕ) → HasHead code (length body) head → bytes ≡ head ++ body → 2 ≤ length bytes
leaf_size code head body bytes is_head same =
    let most = head_size code (length body) head is_head in
    let size = ap length same in
    omega (arith, length-append head body)

mutual
  spelled_size : (d : Data) (depth : ℕ) (bytes : List ℕ) → Spells d depth bytes → 2 * items_in d ≤ length bytes
  spelled_size (list ds) depth bytes (low, head, body, is_head, all, same) =
      let two_bytes = head_size 0 (count_of ds) head is_head in
      let rest = spelled_sizes ds (suc depth) body all in
      let size = ap length same in
      omega (arith, length-append head body)
  spelled_size (binary xs) depth bytes (head, body, is_head, is_body, same) = leaf_size 8 head body bytes is_head same
  spelled_size (boolean xs) depth bytes (head, body, is_head, is_body, same) = leaf_size 9 head body bytes is_head same
  spelled_size (ascii xs) depth bytes (head, body, is_head, is_body, same) = leaf_size 16 head body bytes is_head same
  spelled_size (i8 xs) depth bytes (head, body, is_head, is_body, same) = leaf_size 24 head body bytes is_head same
  spelled_size (i1 xs) depth bytes (head, body, is_head, is_body, same) = leaf_size 25 head body bytes is_head same
  spelled_size (i2 xs) depth bytes (head, body, is_head, is_body, same) = leaf_size 26 head body bytes is_head same
  spelled_size (i4 xs) depth bytes (head, body, is_head, is_body, same) = leaf_size 28 head body bytes is_head same
  spelled_size (u8 xs) depth bytes (head, body, is_head, is_body, same) = leaf_size 40 head body bytes is_head same
  spelled_size (u1 xs) depth bytes (head, body, is_head, is_body, same) = leaf_size 41 head body bytes is_head same
  spelled_size (u2 xs) depth bytes (head, body, is_head, is_body, same) = leaf_size 42 head body bytes is_head same
  spelled_size (u4 xs) depth bytes (head, body, is_head, is_body, same) = leaf_size 44 head body bytes is_head same

  spelled_sizes : (ds : DataList) (depth : ℕ) (bytes : List ℕ) → SpellAll ds depth bytes → 2 * items_of_all ds ≤ length bytes
  spelled_sizes no_items depth bytes is = omega arith
  spelled_sizes (item d ds) depth bytes (front, behind, one, rest, same) =
      let first = spelled_size d depth front one in
      let others = spelled_sizes ds depth behind rest in
      let size = ap length same in
      omega (arith, length-append front behind)

some_items : (d : Data) → 1 ≤ items_in d
some_items (list ds) = omega arith
some_items (binary bs) = omega arith
some_items (boolean bs) = omega arith
some_items (ascii bs) = omega arith
some_items (i1 zs) = omega arith
some_items (i2 zs) = omega arith
some_items (i4 zs) = omega arith
some_items (i8 zs) = omega arith
some_items (u1 ns) = omega arith
some_items (u2 ns) = omega arith
some_items (u4 ns) = omega arith
some_items (u8 ns) = omega arith

count_items : (ds : DataList) → count_of ds ≤ items_of_all ds
count_items no_items = omega arith
count_items (item d ds) = omega (arith, some_items d, count_items ds)

-- a list that was read has no more parts than the item has items in it
parts_in : {A : Type 0} (f : Form A) (d : Data) (xs : List A) → each f d ≡ Some xs → length xs ≤ items_in d
parts_in f (list ds) xs is = omega (arith, count-all_of f ds xs is, count_items ds)
parts_in f d xs is = absurd (cc)

-- ---- the functions of a stream

-- the two parts of a list
abbrev HasTwo : {A B Z : Type 0} → (A → B → Z) → Form A → Form B → Data → Z → Type 0
HasTwo {A} {B} made f g d z = (a : Data) × (b : Data) × (x : A) × (y : B) × (d ≡ list (item a (item b no_items))) × (g b ≡ Some y) × (made x y ≡ z)

two_parts : {A B Z : Type 0} (made : A → B → Z) (f : Form A) (g : Form B) (d : Data) (z : Z) → l2 made f g d ≡ Some z → HasTwo made f g d z
two_parts made f g (list no_items) z is = absurd (cc)
two_parts made f g (list (item a no_items)) z is = absurd (cc)
two_parts {A} {B} made f g (list (item a (item b no_items))) z is = by_parts (f a) (g b) refl is
  where
    by_parts : (o : Option A) (p : Option B) → g b ≡ p → (o >>= λ x. option_map (made x) p) ≡ Some z → HasTwo made f g (list (item a (item b no_items))) z
    by_parts None p second here = absurd (cc)
    by_parts (Some x) None second here = absurd (cc)
    by_parts (Some x) (Some y) second here = (a, b, x, y, refl, second, cc)
two_parts made f g (list (item a (item b (item c ds)))) z is = absurd (by_count (count_of (item a (item b (item c ds))) == 2) is)
  where
    by_count : (t : Bool) → ((if t then Some (item a (item b (item c ds))) else None) >>= two made f g) ≡ Some z → ⊥
    by_count true here = cc
    by_count false here = cc
two_parts made f g d z is = absurd (cc)

abbrev made_stream : ℕ → List ℕ → SpooledStream
made_stream stream functions = record { stream = stream; functions = functions }

stream_functions : (d : Data) (s : SpooledStream) → spooled_stream d ≡ Some s → length s.functions ≤ items_in d
stream_functions d s is =
    let (a, b, x, y, whole, second, same) = two_parts made_stream small_id (each small_id) d s is in
    let most = parts_in small_id b y second in
    let size = ap items_in whole in
    let names = ap (λ (r : SpooledStream). length r.functions) same in
    omega (arith, some_items a)

short_functions : (d : Data) (s : SpooledStream) → spooled_stream d ≡ Some s → HasShortBodies d → IsLength (length s.functions)
short_functions d s is short =
    let (a, b, x, y, whole, second, same) = two_parts made_stream small_id (each small_id) d s is in
    let bodies = subst HasShortBodies whole short in
    subst (λ (r : SpooledStream). IsLength (length r.functions)) same (few_parts small_id b y second bodies.1.1.0)

-- ---- the functions of all streams

-- the first and the others
abbrev HasFirst : {A : Type 0} → Form A → Data → DataList → List A → Type 0
HasFirst {A} f d ds xs = (x : A) × (ys : List A) × (f d ≡ Some x) × (all_of f ds ≡ Some ys) × (x ∷ ys ≡ xs)

first_of : {A : Type 0} (f : Form A) (d : Data) (ds : DataList) (xs : List A) → all_of f (item d ds) ≡ Some xs → HasFirst f d ds xs
first_of {A} f d ds xs is = by_first (f d) (all_of f ds) refl refl is
  where
    by_first : (o : Option A) (p : Option (List A)) → f d ≡ o → all_of f ds ≡ p → (o >>= λ x. option_map (λ ys. x ∷ ys) p) ≡ Some xs → HasFirst f d ds xs
    by_first None p one rest here = absurd (cc)
    by_first (Some x) None one rest here = absurd (cc)
    by_first (Some x) (Some ys) one rest here = (x, ys, one, rest, cc)

abbrev functions_of : List SpooledStream → List (List ℕ)
functions_of streams = map (λ s. s.functions) streams

functions_in : (ds : DataList) (streams : List SpooledStream) → all_of spooled_stream ds ≡ Some streams → sum_by length (functions_of streams) ≤ items_of_all ds
functions_in no_items streams is = let none : [] ≡ streams = cc in subst (λ ss. sum_by length (functions_of ss) ≤ 0) none (omega arith)
functions_in (item d ds) streams is =
    let (s, ss, one, rest, same) = first_of spooled_stream d ds streams is in
    let first = stream_functions d s one in
    let others = functions_in ds ss rest in
    subst (λ all. sum_by length (functions_of all) ≤ items_of_all (item d ds)) same (omega (arith, sum_by-cons length s.functions (functions_of ss)))

short_lists : (ds : DataList) (streams : List SpooledStream) → all_of spooled_stream ds ≡ Some streams → HaveShortBodies ds → All (λ functions. IsLength (length functions)) (functions_of streams)
short_lists no_items streams is short = let none : [] ≡ streams = cc in subst (λ ss. All (λ functions. IsLength (length functions)) (functions_of ss)) none (λ k d less. absurd (omega arith))
short_lists (item d ds) streams is short =
    let (s, ss, one, rest, same) = first_of spooled_stream d ds streams is in
    subst (λ all. All (λ functions. IsLength (length functions)) (functions_of all)) same
    (All-cons (λ functions. IsLength (length functions)) s.functions (functions_of ss) (short_functions d s one short.0) (short_lists ds ss rest short.1))

-- the streams that were read have as few functions as their text can list
pub few_functions : (d : Data) (streams : List SpooledStream) → each spooled_stream d ≡ Some streams → HasShortText d → AreFewFunctions (map (λ s. s.functions) streams)
few_functions (list ds) streams is short =
    let bodies = short_bodies (list ds) short in
    let count = few_parts spooled_stream (list ds) streams is bodies in
    let most = functions_in ds streams is in
    let size = spelled_size (list ds) 0 short.0 short.1 in
    (omega (arith, length-map streams (λ s. s.functions)), short_lists ds streams is bodies.1, omega (arith, short.2))
few_functions d streams is short = absurd (cc)
