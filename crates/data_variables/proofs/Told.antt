-- Laws of items one after another.
use Rattle.std.proofs.Common.{◌≡◌, ℕ, ◌+◌, ◌<◌, List, [], ◌∷◌, ◌++◌, map, length, take, get_or, refl, ap}
use Rattle.std.proofs.lemmas.List.{take_more, map-append}
use Rattle.item_model.specs.Data.{Data, DataList, item, added}
use Rattle.data_variables.specs.Bodies.{items}

items_added : (ds : List Data) (d : Data) → added (items ds) d ≡ items (ds ++ d ∷ [])
items_added [] d = refl
items_added (e ∷ ds) d = ap (λ (rest : DataList). item e rest) (items_added ds d)

-- what is told of one more
pub told_more : (tell : ℕ → Data) (ids : List ℕ) (i d : ℕ) → i < length ids → added (items (map tell (take i ids))) (tell (get_or ids i d)) ≡ items (map tell (take (i + 1) ids))
told_more tell ids i d l = rw (take_more ids i d l, map-append tell (take i ids) (get_or ids i d ∷ [])) (items_added (map tell (take i ids)) (tell (get_or ids i d)))
