-- How many parts were read.
use Rattle.std.proofs.Common.{◌≡◌, ◌==◌, ℕ, suc, Bool, true, false, if◌then◌else◌, List, [], ◌∷◌, length, get_or, Option, Some, None, option_map, option_and_then, arith, refl, ap, sym, subst, ◌∙◌}
use Rattle.std.proofs.lemmas.Bool.Decides.{nat_tests}
use Rattle.item_model.specs.Data.{Data, DataList, list, no_items, item}
use Rattle.item_model.specs.Plain.{count_of}
use Rattle.item_model.specs.View.{view, items_of}
use Rattle.item_model.specs.declared.item.Item.{Item}
use Rattle.item_model.specs.Sendable.{IsLength, HasShortBodies}
use Rattle.message_model.specs.Bodies.{each, of_count, Form, all_of}

count-first : {A : Type 0} (f : Form A) (ds : DataList) (xs : List A) (x : Option A) (rest : Option (List A)) → all_of f ds ≡ rest →
    option_and_then (λ y. option_map (λ ys. y ∷ ys) rest) x ≡ Some xs → ((ys : List A) → all_of f ds ≡ Some ys → length ys ≡ count_of ds) → length xs ≡ suc (count_of ds)
count-first f ds xs None rest same here others = absurd (cc)
count-first f ds xs (Some y) None same here others = absurd (cc)
count-first f ds xs (Some y) (Some ys) same here others = let is : y ∷ ys ≡ xs = cc in ap length (sym is) ∙ ap suc (others ys same)

pub count-all_of : {A : Type 0} (f : Form A) (ds : DataList) (xs : List A) → all_of f ds ≡ Some xs → length xs ≡ count_of ds
count-all_of f no_items xs is = let none : [] ≡ xs = cc in ap length (sym none)
count-all_of f (item d ds) xs is = count-first f ds xs (f d) (all_of f ds) refl is (count-all_of f ds)

-- a list that was read has no more parts than three length bytes can tell
pub few_parts : {A : Type 0} (f : Form A) (d : Data) (xs : List A) → each f d ≡ Some xs → HasShortBodies d → IsLength (length xs)
few_parts f (list ds) xs is short = let count = count-all_of f ds xs is in let most = short.0 in omega arith
few_parts f d xs is short = absurd (cc)

is_list_of : (n : ℕ) (d : Data) (ds : DataList) → of_count n d ≡ Some ds → d ≡ list ds
is_list_of n (list es) ds is = by_count (count_of es == n) is
  where
    by_count : (b : Bool) → (if b then Some es else None) ≡ Some ds → list es ≡ list ds
    by_count true here = let same : es ≡ ds = cc in ap list same
    by_count false here = absurd (cc)
is_list_of n d ds is = absurd (cc)

count_is : (n : ℕ) (d : Data) (ds : DataList) → of_count n d ≡ Some ds → count_of ds ≡ n
count_is n (list es) ds is = by_count (count_of es == n) refl is
  where
    by_count : (b : Bool) → (count_of es == n) ≡ b → (if b then Some es else None) ≡ Some ds → count_of ds ≡ n
    by_count true same here = let is : es ≡ ds = cc in subst (λ xs. count_of xs ≡ n) is (grind (arith, nat_tests, same))
    by_count false same here = absurd (cc)
count_is n d ds is = absurd (cc)

-- the second part of two has short bodies where both have
pub second_short : (d : Data) (xs : List Item) (other : Item) → of_count 2 d ≡ Some (items_of xs) → HasShortBodies d → HasShortBodies (view (get_or xs 1 other))
second_short d [] other is short = absurd (let count = count_is 2 d no_items is in omega arith)
second_short d (a ∷ []) other is short = absurd (let count = count_is 2 d (items_of (a ∷ [])) is in omega arith)
second_short d (a ∷ (b ∷ xs)) other is short = let same = is_list_of 2 d (items_of (a ∷ (b ∷ xs))) is in (subst HasShortBodies same short).1.1.0
