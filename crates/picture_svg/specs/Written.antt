-- How a picture is written, piece by piece.
use Rattle.std.specs.Prelude.{ℕ, ◌≡◌, ◌==◌, Bool, true, false, not, ◌&&◌, ◌||◌, List, [], ◌∷◌, ◌++◌, codes}
use Rattle.picture_svg.specs.Arrows.{arrows_in}

-- a text differs from a word within itself
abbrev pub differs : List ℕ → List ℕ → Bool
differs [] text = false
differs (w ∷ word) [] = false
differs (w ∷ word) (b ∷ text) = not (w == b) || differs word text

-- no arrow begins in a piece, whatever follows it
abbrev pub has_no_arrow : List ℕ → Bool
has_no_arrow [] = true
has_no_arrow (b ∷ text) = (not (b == 60) || differs (codes "path") text) && has_no_arrow text

-- the beginning of the tag of an arrow
abbrev pub tag_of : List ℕ → List ℕ
tag_of name = codes "<path data-arrow=\"" ++ (name ++ codes "\"")

-- what follows a text is read for itself
abbrev pub IsClosed : List ℕ → Type 0
IsClosed text = (rest : List ℕ) → arrows_in (text ++ rest) ≡ arrows_in text ++ arrows_in rest
