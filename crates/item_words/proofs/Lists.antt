-- The words of lists, item by item.
use Rattle.std.proofs.Common.{◌≡◌, ◌+◌, ◌<◌, ◌≤◌, ℕ, zero, suc, List, [], ◌∷◌, ◌++◌, length, take, drop, get_or, arith, refl, ap, sym, ◌∙◌, add-one, append-nil, append_assoc, codes}
use Rattle.item_model.specs.declared.item.Item.{Item}
use Rattle.item_model.specs.View.{view, items_of}
use Rattle.item_model.specs.Height.{height, highest}
use Rattle.item_words.specs.Words.{words, listed, more_listed}
use Rattle.item_words.specs.Layout.{laid, laid_items, more_laid, new_line}

more_listed-take_suc : (xs : List Item) (i : ℕ) (d : Item) → i < length xs →
    more_listed (items_of (take (suc i) xs)) ≡ more_listed (items_of (take i xs)) ++ (codes ", " ++ words (view (get_or xs i d)))
more_listed-take_suc [] i d within = absurd (omega arith)
more_listed-take_suc (x ∷ xs) zero d within = ap (λ l. codes ", " ++ l) (append-nil (words (view x)))
more_listed-take_suc (x ∷ xs) (suc i) d within =
    ap (λ rest. codes ", " ++ (words (view x) ++ rest)) (more_listed-take_suc xs i d (omega arith))
    ∙ ap (λ rest. codes ", " ++ rest) (sym (append_assoc (words (view x)) _ _))

-- one item more behind others
pub more_listed-take : (xs : List Item) (i : ℕ) (d : Item) → i < length xs →
    more_listed (items_of (take (i + 1) xs)) ≡ more_listed (items_of (take i xs)) ++ (codes ", " ++ words (view (get_or xs i d)))
more_listed-take xs i d within = rw add-one (more_listed-take_suc xs i d within)

more_laid-take_suc : (margin : ℕ) (xs : List Item) (i : ℕ) (d : Item) → i < length xs →
    more_laid margin (items_of (take (suc i) xs)) ≡ more_laid margin (items_of (take i xs)) ++ (codes "," ++ (new_line margin ++ laid margin (view (get_or xs i d))))
more_laid-take_suc margin [] i d within = absurd (omega arith)
more_laid-take_suc margin (x ∷ xs) zero d within = ap (λ l. codes "," ++ (new_line margin ++ l)) (append-nil (laid margin (view x)))
more_laid-take_suc margin (x ∷ xs) (suc i) d within =
    ap (λ rest. codes "," ++ (new_line margin ++ (laid margin (view x) ++ rest))) (more_laid-take_suc margin xs i d (omega arith))
    ∙ ap (λ rest. codes "," ++ (new_line margin ++ rest)) (sym (append_assoc (laid margin (view x)) _ _))
    ∙ ap (λ rest. codes "," ++ rest) (sym (append_assoc (new_line margin) _ _))

-- the same, in lines
pub more_laid-take : (margin : ℕ) (xs : List Item) (i : ℕ) (d : Item) → i < length xs →
    more_laid margin (items_of (take (i + 1) xs)) ≡ more_laid margin (items_of (take i xs)) ++ (codes "," ++ (new_line margin ++ laid margin (view (get_or xs i d))))
more_laid-take margin xs i d within = rw add-one (more_laid-take_suc margin xs i d within)

-- the items behind the first are no higher than all
pub highest-rest : (xs : List Item) → highest (items_of (drop 1 xs)) ≤ highest (items_of xs)
highest-rest [] = omega arith
highest-rest (x ∷ xs) = omega arith

-- the first item, and those behind it
pub listed-first : (xs : List Item) (d : Item) → 0 < length xs →
    listed (items_of xs) ≡ words (view (get_or xs 0 d)) ++ more_listed (items_of (drop 1 xs))
listed-first [] d within = absurd (omega arith)
listed-first (x ∷ xs) d within = refl

-- the same, in lines
pub laid-first : (margin : ℕ) (xs : List Item) (d : Item) → 0 < length xs →
    laid_items margin (items_of xs) ≡ new_line margin ++ (laid margin (view (get_or xs 0 d)) ++ more_laid margin (items_of (drop 1 xs)))
laid-first margin [] d within = absurd (omega arith)
laid-first margin (x ∷ xs) d within = refl

-- what was written, and then a piece more
pub piece_added : (old mid new front piece whole : List ℕ) → mid ≡ old ++ front → new ≡ mid ++ piece → whole ≡ front ++ piece → new ≡ old ++ whole
piece_added old mid new front piece whole before after joined = rw (after, before, joined) (append_assoc old front piece)
