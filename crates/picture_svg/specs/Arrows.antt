-- The arrows that a picture shows, as they are read off its text (SVG): each is a tag `path`, and its name is the value of the first
-- attribute of that.
use Rattle.std.specs.Prelude.{ℕ, ◌==◌, Bool, true, false, not, ◌&&◌, ◌||◌, if◌then◌else◌, List, [], ◌∷◌, codes}
use Rattle.std.specs.List.{list_all}

-- a text begins with a word
abbrev pub begins : List ℕ → List ℕ → Bool
begins [] text = true
begins (w ∷ word) [] = false
begins (w ∷ word) (b ∷ text) = (w == b) && begins word text

-- the bytes before the next quote or tag
abbrev pub before_quote : List ℕ → List ℕ
before_quote [] = []
before_quote (b ∷ text) = if (b == 34) || (b == 60) then [] else b ∷ before_quote text

-- the bytes behind the next quote of a tag
abbrev pub behind_quote : List ℕ → List ℕ
behind_quote [] = []
behind_quote (b ∷ text) = if b == 34 then text else (if b == 60 then [] else behind_quote text)

-- the names of the arrows of a text, in their order
abbrev pub arrows_in : List ℕ → List (List ℕ)
arrows_in [] = []
arrows_in (b ∷ text) =
    if (b == 60) && begins (codes "path") text then before_quote (behind_quote text) ∷ arrows_in text else arrows_in text

-- a name can be such a value: there is no quote in it, and no tag begins in it
abbrev pub is_name : List ℕ → Bool
is_name name = list_all (λ b. not (b == 34) && not (b == 60)) name
