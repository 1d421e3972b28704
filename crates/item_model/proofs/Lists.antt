-- Lists of items, item by item.
use Rattle.std.proofs.Common.{◌≡◌, ◌+◌, ◌*◌, Bool, if◌then◌else◌, Result, OnOk, flat_map, ◌<◌, ◌≤◌, ℕ, zero, suc, List, [], ◌∷◌, ◌++◌, length, take, map, get_or, arith, refl, ap, sym, ◌∙◌, add-one, append-nil, append_assoc}
use Rattle.std.proofs.lemmas.List.Concat.{flat_map_single}
use Rattle.item_model.specs.declared.item.Item.{Item}
use Rattle.item_model.specs.Data.{item, added, first_items}
use Rattle.item_model.specs.Height.{height, highest}
use Rattle.item_model.specs.Plain.{plain_head, truth_bytes, plain, plain_all, count_of}
use Rattle.item_model.specs.Sendable.{HasShortBodies, HaveShortBodies}
use Rattle.item_model.specs.View.{view, items_of}

pub count_of-items_of : (xs : List Item) → count_of (items_of xs) ≡ length xs
count_of-items_of [] = refl
count_of-items_of (x ∷ xs) = omega (arith, count_of-items_of xs)

pub items_of-push : (xs : List Item) (x : Item) → items_of (xs ++ x ∷ []) ≡ added (items_of xs) (view x)
items_of-push [] x = refl
items_of-push (y ∷ xs) x = ap (λ ds. item (view y) ds) (items_of-push xs x)

-- the first of some items are the first of what they say
pub items_of-first : (xs : List Item) (n : ℕ) → items_of (take n xs) ≡ first_items n (items_of xs)
items_of-first xs zero = refl
items_of-first [] (suc n) = refl
items_of-first (x ∷ xs) (suc n) = ap (λ ds. item (view x) ds) (items_of-first xs n)

pub bodies_at : (xs : List Item) (i : ℕ) (d : Item) → HaveShortBodies (items_of xs) → i < length xs → HasShortBodies (view (get_or xs i d))
bodies_at [] i d bodies within = absurd (omega arith)
bodies_at (x ∷ xs) zero d bodies within = bodies.0
bodies_at (x ∷ xs) (suc i) d bodies within = bodies_at xs i d bodies.1 (omega arith)

pub height_at : (xs : List Item) (i : ℕ) (d : Item) → i < length xs → height (view (get_or xs i d)) ≤ highest (items_of xs)
height_at [] i d within = absurd (omega arith)
height_at (x ∷ xs) zero d within = omega arith
height_at (x ∷ xs) (suc i) d within = omega (arith, height_at xs i d (omega arith))

plain_all-take_suc : (xs : List Item) (i : ℕ) (d : Item) → i < length xs → plain_all (items_of (take (suc i) xs)) ≡ plain_all (items_of (take i xs)) ++ plain (view (get_or xs i d))
plain_all-take_suc [] i d within = absurd (omega arith)
plain_all-take_suc (x ∷ xs) zero d within = append-nil (plain (view x))
plain_all-take_suc (x ∷ xs) (suc i) d within =
    ap (λ rest. plain (view x) ++ rest) (plain_all-take_suc xs i d (omega arith)) ∙ sym (append_assoc (plain (view x)) _ _)

pub plain_all-take : (xs : List Item) (i : ℕ) (d : Item) → i < length xs → plain_all (items_of (take (i + 1) xs)) ≡ plain_all (items_of (take i xs)) ++ plain (view (get_or xs i d))
plain_all-take xs i d within = rw add-one (plain_all-take_suc xs i d within)

-- one byte for each truth is what a truth value is spelled as, one after another
pub truths_written : {T E : Type 0} (r : Result T E) (old new : List ℕ) (bs : List Bool) →
    OnOk r (new ≡ old ++ (plain_head 9 (1 * length bs) ++ flat_map (λ b. (if b then 1 else 0) ∷ []) bs)) →
    OnOk r (new ≡ old ++ (plain_head 9 (length bs) ++ truth_bytes bs))
truths_written r old new bs written =
    let one : 1 * length bs ≡ length bs = omega arith in
    let byte : Bool → ℕ = λ b. if b then 1 else 0 in
    let single : flat_map (λ b. byte b ∷ []) bs ≡ map byte bs = flat_map_single byte bs in
    rw (← single) (rw one at written)

-- what was written, and then a piece more
pub piece_written : (old mid new head front piece whole : List ℕ) → mid ≡ old ++ (head ++ front) → new ≡ mid ++ piece → whole ≡ front ++ piece →
    new ≡ old ++ (head ++ whole)
piece_written old mid new head front piece whole before after joined = rw (after, before, joined) (simp append_assoc)

items_of-take_suc : (xs : List Item) (i : ℕ) (d : Item) → i < length xs → items_of (take (suc i) xs) ≡ added (items_of (take i xs)) (view (get_or xs i d))
items_of-take_suc [] i d within = absurd (omega arith)
items_of-take_suc (x ∷ xs) zero d within = refl
items_of-take_suc (x ∷ xs) (suc i) d within = ap (λ ds. item (view x) ds) (items_of-take_suc xs i d (omega arith))

pub items_of-take : (xs : List Item) (i : ℕ) (d : Item) → i < length xs → items_of (take (i + 1) xs) ≡ added (items_of (take i xs)) (view (get_or xs i d))
items_of-take xs i d within = rw add-one (items_of-take_suc xs i d within)
