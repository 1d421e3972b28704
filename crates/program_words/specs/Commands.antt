-- The commands of the program (this tool's profile, the program's words).
use Rattle.std.specs.Prelude.{◌≡◌, ℕ, ◌+◌, max, Bool, not, ◌&&◌, is_some, nat_eq, if◌then◌else◌, List, [], ◌∷◌, codes, IsTrue, Option, Some, None}
use Rattle.std.specs.List.{fold, starts_with}
use Rattle.std.specs.Option.{option_or}
use Rattle.std.specs.Str.{bytes_eq}
use Rattle.program_words.specs.declared.words.Words.{Words}
use Rattle.program_words.specs.declared.words.Words.TheVariants as command
use Rattle.program_words.specs.declared.words.WordsFault.{WordsFault}
use Rattle.program_words.specs.declared.words.WordsFault.TheVariants as fault
use Rattle.program_words.specs.Numbers.{number_in}

-- a word that can name a file: it isn't empty and doesn't begin with a minus
abbrev pub is_file_word : List ℕ → Bool
is_file_word word = not (bytes_eq word []) && not (starts_with nat_eq word (codes "-"))

-- the greatest seed
abbrev pub most_seed : ℕ
most_seed = 18446744073709551615

-- the greatest number of carriers
abbrev pub most_carriers : ℕ
most_carriers = 10000

-- the words behind the seed spell the command: `CARRIERS CONFIG`
abbrev pub SpellsBehindSeed : ℕ → List (List ℕ) → Words → Type 0
SpellsBehindSeed seed words (command.Feed config) = ⊥
SpellsBehindSeed seed words (command.Serve config) = ⊥
SpellsBehindSeed seed words (command.Notes file) = ⊥
SpellsBehindSeed seed words (command.Batch s carriers config) =
    (s ≡ seed) × ((c : List ℕ) × (words ≡ c ∷ (config ∷ [])) × (number_in 1 most_carriers c ≡ Some carriers) × IsTrue (is_file_word config))

-- the words are this name, and behind it one that can name a file
abbrev pub SpellsWith : List ℕ → List (List ℕ) → List ℕ → Type 0
SpellsWith name words word = (words ≡ name ∷ (word ∷ [])) × IsTrue (is_file_word word)

-- the words spell the command: `feed CONFIG`, `serve CONFIG`, `batch SEED CARRIERS CONFIG`, or `notes FILE`
abbrev pub Spells : List (List ℕ) → Words → Type 0
Spells words (command.Feed config) = SpellsWith (codes "feed") words config
Spells words (command.Serve config) = SpellsWith (codes "serve") words config
Spells words (command.Notes file) = SpellsWith (codes "notes") words file
Spells words (command.Batch seed carriers config) =
    (s : List ℕ) × (c : List ℕ) × (words ≡ codes "batch" ∷ (s ∷ (c ∷ (config ∷ [])))) × (number_in 0 most_seed s ≡ Some seed)
    × (number_in 1 most_carriers c ≡ Some carriers) × IsTrue (is_file_word config)

-- a command as what each of its places takes
abbrev pub Places : Type 0
Places = List (List ℕ → Bool)

-- a name, and behind it a word that can name a file
abbrev pub file_places : List ℕ → Places
file_places name = (λ word. bytes_eq word name) ∷ (is_file_word ∷ [])

-- `feed CONFIG`
abbrev pub feed_places : Places
feed_places = file_places (codes "feed")

-- `serve CONFIG`
abbrev pub serve_places : Places
serve_places = file_places (codes "serve")

-- a number of at least and at most so much
abbrev pub takes_number : ℕ → ℕ → List ℕ → Bool
takes_number least most word = is_some (number_in least most word)

-- `CARRIERS CONFIG`, behind a seed
abbrev pub places_behind_seed : Places
places_behind_seed = takes_number 1 most_carriers ∷ (is_file_word ∷ [])

-- `SEED CARRIERS CONFIG`, behind `batch`
abbrev pub places_behind_batch : Places
places_behind_batch = takes_number 0 most_seed ∷ places_behind_seed

-- `batch SEED CARRIERS CONFIG`
abbrev pub batch_places : Places
batch_places = (λ word. bytes_eq word (codes "batch")) ∷ places_behind_batch

-- `notes FILE`
abbrev pub notes_places : Places
notes_places = file_places (codes "notes")

-- the commands of the program
abbrev pub commands : List Places
commands = feed_places ∷ (serve_places ∷ (batch_places ∷ (notes_places ∷ [])))

-- the first place, counted on from this one, whose word a command doesn't take: it isn't taken there, is one too many, or is missing
abbrev pub misfit_of : ℕ → Places → List (List ℕ) → Option ℕ
misfit_of place [] [] = None
misfit_of place [] (word ∷ words) = Some place
misfit_of place (takes ∷ places) [] = Some place
misfit_of place (takes ∷ places) (word ∷ words) = if takes word then misfit_of (place + 1) places words else Some place

-- the later of two places, none where one of the commands takes all words
abbrev pub later : Option ℕ → Option ℕ → Option ℕ
later None q = None
later (Some p) None = None
later (Some p) (Some q) = Some (max p q)

-- The first word, counted from 0, that fits none of these commands, where the words spell none: some command takes the words before it,
-- and none goes on with it. A word that is missing counts as the one that doesn't fit.
abbrev pub misfit_among : List Places → List (List ℕ) → Option ℕ
misfit_among all words = fold (λ place command. later place (misfit_of 0 command words)) (Some 0) all

-- the first word that fits no command of the program, where the words spell none
abbrev pub misfit : List (List ℕ) → Option ℕ
misfit words = misfit_among commands words

-- the place at which words are refused by a call that does these commands: where they are no command, the first that fits none; where
-- they are another command, the first that fits none of these (this tool's profile, the program's words)
abbrev pub refused_by : List Places → List (List ℕ) → Option ℕ
refused_by done words = option_or (misfit words) (misfit_among done words)

-- the place that a fault tells
abbrev pub place_of : WordsFault → ℕ
place_of (fault.Place place) = place
