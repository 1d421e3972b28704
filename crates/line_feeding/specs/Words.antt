-- Which words are refused as commands of the calls `feed` and `serve`.
use Rattle.std.specs.Prelude.{ℕ, List, [], ◌∷◌, Option}
use Rattle.program_words.specs.Commands.{feed_places, batch_places, serve_places, refused_by}

-- the place at which words are refused by `feed`, which does `feed CONFIG` and `batch SEED CARRIERS CONFIG`
abbrev pub refused_at : List (List ℕ) → Option ℕ
refused_at words = refused_by (feed_places ∷ (batch_places ∷ [])) words

-- the place at which words are refused by `serve`, which does `serve CONFIG`
abbrev pub serve_refused_at : List (List ℕ) → Option ℕ
serve_refused_at words = refused_by (serve_places ∷ []) words
