-- Lists of printed parts.
use Rattle.std.proofs.Common.{◌^◌, ◌≡◌, ◌<◌, ◌+◌, ◌≤◌, ℕ, zero, suc, List, [], ◌∷◌, length, take, map, get_or, arith, refl, ap, add-one}
use Rattle.std.proofs.lemmas.List.{take_all}
use Rattle.item_model.specs.Data.{Data, DataList, list, item, added}
use Rattle.item_model.specs.Plain.{count_of}
use Rattle.item_model.specs.Weight.{IsBounded, AreBounded}
use Rattle.item_model.proofs.Weights.{bounded-list}
use Rattle.message_model.specs.Printed.{items}

printed-take : {X : Type 0} (body : X → Data) (xs : List X) (i : ℕ) (x : X) → i < length xs → items (map body (take (suc i) xs)) ≡ added (items (map body (take i xs))) (body (get_or xs i x))
printed-take body [] i x within = absurd (omega arith)
printed-take body (y ∷ xs) zero x within = refl
printed-take body (y ∷ xs) (suc i) x within = ap (item (body y)) (printed-take body xs i x (omega arith))

-- one more part is printed
pub printed_more : {X : Type 0} (body : X → Data) (xs : List X) (i : ℕ) (x : X) (ds : DataList) → i < length xs → ds ≡ items (map body (take i xs)) →
    added ds (body (get_or xs i x)) ≡ items (map body (take (i + 1) xs))
printed_more body xs i x ds within so_far = rw (so_far, add-one, printed-take body xs i x within) refl

count-printed : {X : Type 0} (body : X → Data) (xs : List X) → count_of (items (map body xs)) ≡ length xs
count-printed body [] = refl
count-printed body (x ∷ xs) = ap suc (count-printed body xs)

-- the bounds of a list of printed parts
pub printed_bounded : {X : Type 0} (body : X → Data) (xs : List X) (n : ℕ) (ds : DataList) → length xs ≤ n → ds ≡ items (map body (take n xs)) → AreBounded 1 110 ds → length xs < 2 ^ 24 → IsBounded 2 1845493654 (list ds)
printed_bounded body xs n ds all is are few =
    let whole : ds ≡ items (map body xs) = rw (take_all n xs all) at is in
    let count = count-printed body xs in
    let same = ap count_of whole in
    bounded-list 1 110 16777215 ds (omega arith) (omega arith) are
