-- Parts of bodies, read one after another.
use Rattle.std.proofs.Common.{◌≡◌, ◌<◌, ◌+◌, ◌==◌, ℕ, zero, suc, List, [], ◌∷◌, ◌++◌, length, drop, get_or, Option, Some, None, option_map, arith, refl, ap, sym, ◌∙◌, add-one, append_assoc, append-nil}
use Rattle.std.proofs.lemmas.Bool.Decides.{Decides-eqb, nat_tests}
use Rattle.std.proofs.Math.Seq.{drop-length}
use Rattle.item_model.specs.Data.{item}
use Rattle.item_model.specs.Plain.{count_of}
use Rattle.item_model.specs.View.{view, items_of}
use Rattle.item_model.specs.declared.item.Item.{Item}
use Rattle.message_model.specs.Bodies.{Form, all_of, all_ids, meeting}

-- ---- a list of so many items

pub count_of-items_of : (xs : List Item) → count_of (items_of xs) ≡ length xs
count_of-items_of [] = refl
count_of-items_of (x ∷ xs) = omega (arith, count_of-items_of xs)

-- a list of so many items
pub count-met : (n : ℕ) (xs : List Item) → length xs ≡ n → meeting (λ ds. count_of ds == n) (items_of xs) ≡ Some (items_of xs)
count-met n xs e = let same : count_of (items_of xs) ≡ n = omega (arith, count_of-items_of xs) in rw ((Decides-eqb (count_of (items_of xs)) n).1 same)

-- a list of another number of items
pub count-unmet : (n : ℕ) (xs : List Item) → (length xs ≡ n → ⊥) → meeting (λ ds. count_of ds == n) (items_of xs) ≡ None
count-unmet n xs e = grind (arith, nat_tests, count_of-items_of)

-- ---- what was read, and then what the rest gives

abbrev pub behind : {A : Type 0} → List A → Option (List A) → Option (List A)
behind ys rest = option_map (λ zs. ys ++ zs) rest

behind-one : {A : Type 0} (ys : List A) (y : A) (rest : Option (List A)) → behind ys (option_map (λ zs. y ∷ zs) rest) ≡ behind (ys ++ y ∷ []) rest
behind-one ys y None = refl
behind-one ys y (Some zs) = ap (λ all. Some all) (sym (append_assoc ys (y ∷ []) zs))

-- nothing was read
pub behind-nothing : {A : Type 0} (o : Option (List A)) → o ≡ behind [] o
behind-nothing None = refl
behind-nothing (Some zs) = refl

-- ---- the items of a list

items-drop : (xs : List Item) (i : ℕ) (x : Item) → i < length xs → items_of (drop i xs) ≡ item (view (get_or xs i x)) (items_of (drop (suc i) xs))
items-drop [] i x within = absurd (omega arith)
items-drop (y ∷ xs) zero x within = refl
items-drop (y ∷ xs) (suc i) x within = items-drop xs i x (omega arith)

-- one more item is read
pub one_more : {A : Type 0} (f : Form A) (xs : List Item) (i : ℕ) (x : Item) (ys : List A) (y : A) (all : Option (List A)) → i < length xs →
    f (view (get_or xs i x)) ≡ Some y → all ≡ behind ys (all_of f (items_of (drop i xs))) →
    all ≡ behind (ys ++ y ∷ []) (all_of f (items_of (drop (i + 1) xs)))
one_more f xs i x ys y all within read before =
    let here = rw (items-drop xs i x within, read) at before in
    rw add-one (here ∙ behind-one ys y (all_of f (items_of (drop (suc i) xs))))

-- the next item has not the form
pub one_fails : {A : Type 0} (f : Form A) (xs : List Item) (i : ℕ) (x : Item) (ys : List A) (all : Option (List A)) → i < length xs →
    f (view (get_or xs i x)) ≡ None → all ≡ behind ys (all_of f (items_of (drop i xs))) → all ≡ None
one_fails f xs i x ys all within read before = rw (items-drop xs i x within, read) at before

-- no item is left
pub none_left : {A : Type 0} (f : Form A) (xs : List Item) (ys : List A) (all : Option (List A)) →
    all ≡ behind ys (all_of f (items_of (drop (length xs) xs))) → all ≡ Some ys
none_left f xs ys all before =
    let done : all ≡ behind ys (all_of f (items_of [])) = rw (drop-length xs) at before in
    done ∙ ap (λ zs. Some zs) (append-nil ys)

-- ---- the elements of an integer item

numbers-drop : {N : Type 0} (ns : List N) (i : ℕ) (n : N) → i < length ns → drop i ns ≡ get_or ns i n ∷ drop (suc i) ns
numbers-drop [] i n within = absurd (omega arith)
numbers-drop (m ∷ ns) zero n within = refl
numbers-drop (m ∷ ns) (suc i) n within = numbers-drop ns i n (omega arith)

-- the next number is no id
pub number_fails : {N : Type 0} (f : N → Option ℕ) (ns : List N) (i : ℕ) (n : N) (ys : List ℕ) (all : Option (List ℕ)) → i < length ns →
    f (get_or ns i n) ≡ None → all ≡ behind ys (all_ids f (drop i ns)) → all ≡ None
number_fails f ns i n ys all within read before = rw (numbers-drop ns i n within, read) at before

-- one more number is an id
pub number_more : {N : Type 0} (f : N → Option ℕ) (ns : List N) (i : ℕ) (n : N) (ys : List ℕ) (y : ℕ) (all : Option (List ℕ)) → i < length ns →
    f (get_or ns i n) ≡ Some y → all ≡ behind ys (all_ids f (drop i ns)) →
    all ≡ behind (ys ++ y ∷ []) (all_ids f (drop (i + 1) ns))
number_more f ns i n ys y all within read before =
    let here = rw (numbers-drop ns i n within, read) at before in
    rw add-one (here ∙ behind-one ys y (all_ids f (drop (suc i) ns)))

-- no number is left
pub no_number_left : {N : Type 0} (f : N → Option ℕ) (ns : List N) (ys : List ℕ) (all : Option (List ℕ)) →
    all ≡ behind ys (all_ids f (drop (length ns) ns)) → all ≡ Some ys
no_number_left f ns ys all before =
    let done : all ≡ behind ys (all_ids f []) = rw (drop-length ns) at before in
    done ∙ ap (λ zs. Some zs) (append-nil ys)
