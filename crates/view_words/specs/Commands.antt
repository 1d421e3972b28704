-- The commands of the program `gem300_view` (this tool's profile, docs/profile/view.md).
use Rattle.std.specs.Prelude.{◌≡◌, ℕ, List, [], ◌∷◌, codes, IsTrue, Option, Some, None}
use Rattle.std.specs.Str.{bytes_eq}
use Rattle.program_words.specs.Commands.{Places, SpellsWith, is_file_word, file_places, misfit_of, later}
use Rattle.view_words.specs.declared.words.ViewWords.{ViewWords}
use Rattle.view_words.specs.declared.words.ViewWords.TheVariants as command

-- the words are this name, and behind it a file, which may be left out
abbrev pub SpellsNamed : List ℕ → List (List ℕ) → Option (List ℕ) → Type 0
SpellsNamed name words None = words ≡ name ∷ []
SpellsNamed name words (Some config) = (words ≡ name ∷ (config ∷ [])) × IsTrue (is_file_word config)

-- the words spell the command: `words`, `words CONFIG`, `pcap`, `pcap CONFIG`, `chart CONFIG` or `states TABLE`
abbrev pub Spells : List (List ℕ) → ViewWords → Type 0
Spells words (command.Words config) = SpellsNamed (codes "words") words config
Spells words (command.Pcap config) = SpellsNamed (codes "pcap") words config
Spells words (command.Chart config) = SpellsWith (codes "chart") words config
Spells words (command.States table) = SpellsWith (codes "states") words table

-- a name alone
abbrev pub name_places : List ℕ → Places
name_places name = (λ word. bytes_eq word name) ∷ []

-- the first word that doesn't fit a name with a file, which may be left out
abbrev pub misfit_named : List ℕ → List (List ℕ) → Option ℕ
misfit_named name words = later (misfit_of 0 (name_places name) words) (misfit_of 0 (file_places name) words)

-- the first word that fits neither `words [CONFIG]` nor `pcap [CONFIG]`
abbrev pub misfit_transcript : List (List ℕ) → Option ℕ
misfit_transcript words = later (misfit_named (codes "words") words) (misfit_named (codes "pcap") words)

-- the first word that fits neither `chart CONFIG` nor `states TABLE`
abbrev pub misfit_picture : List (List ℕ) → Option ℕ
misfit_picture words = later (misfit_of 0 (file_places (codes "chart")) words) (misfit_of 0 (file_places (codes "states")) words)

-- the first word, counted from 0, that fits no command, where the words spell none; a word that is missing counts as it
abbrev pub misfit : List (List ℕ) → Option ℕ
misfit words = later (misfit_transcript words) (misfit_picture words)
