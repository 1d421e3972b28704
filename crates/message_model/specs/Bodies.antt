-- The forms of bodies, in small words that read as a body is printed (this tool's profile, messages). What a form
-- gives is the value of an item that has it, and None for any other item.
use Rattle.std.specs.Prelude.{ℕ, Bool, true, false, ◌==◌, ◌&&◌, nat_le, if◌then◌else◌, List, [], ◌∷◌, length, Option, Some, None, option_map, option_and_then}
use Rattle.std.specs.List.{list_all}
use Rattle.item_model.specs.Data.{Data, DataList, list, binary, boolean, ascii, i1, i2, i4, i8, u1, u2, u4, u8, no_items, item}
use Rattle.item_model.specs.Ids.{id_of, only, signed_id, unsigned_id}
use Rattle.item_model.specs.Plain.{count_of}

-- the value of an item of this form
abbrev pub Form : Type 0 → Type 0
Form A = Data → Option A

-- a value that meets a test
abbrev pub meeting : {A : Type 0} → (A → Bool) → A → Option A
meeting test x = if test x then Some x else None

-- one value, and then another
infixl 10 ◌>>=◌
abbrev pub ◌>>=◌ : {A B : Type 0} → Option A → (A → Option B) → Option B
o >>= f = option_and_then f o

-- a value of this form, and what is made of it
abbrev pub of : {A B : Type 0} → (A → B) → Form A → Form B
of made f d = option_map made (f d)

-- this value of the form and no other, as the 0 in `B 0`
abbrev pub fixed : ℕ → Form ℕ → Form ℕ
fixed n f d = option_and_then (meeting (λ m. m == n)) (f d)

-- any item
abbrev pub any : Form Data
any d = Some d

-- A: its characters
abbrev pub characters : Form (List ℕ)
characters (ascii text) = Some text
characters d = None

-- bytes that a text holds: at most 80, each 32 to 126
abbrev pub is_text : List ℕ → Bool
is_text bytes = nat_le (length bytes) 80 && list_all (λ b. nat_le 32 b && nat_le b 126) bytes

-- text: an A of such bytes
abbrev pub text : Form (List ℕ)
text d = characters d >>= meeting is_text

-- B of one byte
abbrev pub byte : Form ℕ
byte (binary bytes) = only bytes
byte d = None

-- BOOL of one element
abbrev pub flag : Form Bool
flag (boolean truths) = only truths
flag d = None

-- id: an integer item of one element, 0 to 4,294,967,295
abbrev pub id : Form ℕ
id d = id_of d

-- u1: an id of at most 255
abbrev pub small_id : Form ℕ
small_id d = id d >>= meeting (λ n. nat_le n 255)

-- u1 of 0 or 1
abbrev pub zero_or_one : Form ℕ
zero_or_one d = small_id d >>= meeting (λ n. nat_le n 1)

-- an integer item without elements
abbrev pub is_empty_number : Data → Bool
is_empty_number (i1 []) = true
is_empty_number (i2 []) = true
is_empty_number (i4 []) = true
is_empty_number (i8 []) = true
is_empty_number (u1 []) = true
is_empty_number (u2 []) = true
is_empty_number (u4 []) = true
is_empty_number (u8 []) = true
is_empty_number d = false

-- an id, or none where the item is an integer item without elements
abbrev pub id_or_empty : Form (Option ℕ)
id_or_empty d = if is_empty_number d then Some None else option_map (λ n. Some n) (id d)

-- L: its items
abbrev pub elements : Form DataList
elements (list ds) = Some ds
elements d = None

-- L of so many items
abbrev pub of_count : ℕ → Form DataList
of_count n d = elements d >>= meeting (λ ds. count_of ds == n)

-- the values of two items
abbrev pub two : {A B Z : Type 0} → (A → B → Z) → Form A → Form B → DataList → Option Z
two made f g (item a (item b no_items)) = f a >>= λ x. option_map (made x) (g b)
two made f g ds = None

-- L[a, b]
abbrev pub l2 : {A B Z : Type 0} → (A → B → Z) → Form A → Form B → Form Z
l2 made f g d = of_count 2 d >>= two made f g

-- the values of three items
abbrev pub three : {A B C Z : Type 0} → (A → B → C → Z) → Form A → Form B → Form C → DataList → Option Z
three made f g h (item a (item b (item c no_items))) = f a >>= λ x. g b >>= λ y. option_map (made x y) (h c)
three made f g h ds = None

-- L[a, b, c]
abbrev pub l3 : {A B C Z : Type 0} → (A → B → C → Z) → Form A → Form B → Form C → Form Z
l3 made f g h d = of_count 3 d >>= three made f g h

-- the values of five items
abbrev pub five : {A B C D E Z : Type 0} → (A → B → C → D → E → Z) → Form A → Form B → Form C → Form D → Form E → DataList → Option Z
five made f g h i j (item a (item b (item c (item d (item e no_items))))) =
    f a >>= λ v. g b >>= λ w. h c >>= λ x. i d >>= λ y. option_map (made v w x y) (j e)
five made f g h i j ds = None

-- L[a, b, c, d, e]
abbrev pub l5 : {A B C D E Z : Type 0} → (A → B → C → D → E → Z) → Form A → Form B → Form C → Form D → Form E → Form Z
l5 made f g h i j d = of_count 5 d >>= five made f g h i j

-- L[text, any]: a name and its value
abbrev pub named_value : Form (List ℕ × Data)
named_value = l2 (λ name value. (name, value)) text any

-- the values of some items, each of this form
abbrev pub all_of : {A : Type 0} → Form A → DataList → Option (List A)
all_of f no_items = Some []
all_of f (item d ds) = f d >>= λ x. option_map (λ xs. x ∷ xs) (all_of f ds)

-- L[a*]
abbrev pub each : {A : Type 0} → Form A → Form (List A)
each f d = elements d >>= all_of f

-- as many as one list of ids may have: 1,024
abbrev pub are_few : List ℕ → Bool
are_few ns = nat_le (length ns) 1024

-- L[id*], of at most 1,024 ids
abbrev pub ids : Form (List ℕ)
ids d = each id d >>= meeting are_few

-- L[id, L[id*]]: a report and its variables, or an event and its reports
abbrev pub group : Form (ℕ × List ℕ)
group = l2 (λ n ns. (n, ns)) id ids

-- the ids that some numbers are, where each is one
abbrev pub all_ids : {N : Type 0} → (N → Option ℕ) → List N → Option (List ℕ)
all_ids id_from [] = Some []
all_ids id_from (n ∷ ns) = id_from n >>= λ m. option_map (λ ms. m ∷ ms) (all_ids id_from ns)

-- an integer item: its elements, each an id
abbrev pub numbers : Form (List ℕ)
numbers (i1 zs) = all_ids signed_id zs
numbers (i2 zs) = all_ids signed_id zs
numbers (i4 zs) = all_ids signed_id zs
numbers (i8 zs) = all_ids signed_id zs
numbers (u1 ns) = all_ids unsigned_id ns
numbers (u2 ns) = all_ids unsigned_id ns
numbers (u4 ns) = all_ids unsigned_id ns
numbers (u8 ns) = all_ids unsigned_id ns
numbers d = None

-- one integer item of at most 1,024 elements, each an id, or L[id*]
abbrev pub numbers_or_ids : Form (List ℕ)
numbers_or_ids (list ds) = ids (list ds)
numbers_or_ids d = numbers d >>= meeting are_few
