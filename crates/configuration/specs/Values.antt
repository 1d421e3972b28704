-- What a key of the configuration may say, but for the recipes: numbers, texts, truths, words and lists of numbers, as TOML
-- has them (TOML, values; this tool's profile, configuration).
use Rattle.std.specs.Prelude.{ℕ, pos, Bool, false, ◌&&◌, ◌||◌, not, nat_eq, nat_le, if◌then◌else◌, List, [], ◌∷◌, ◌++◌, length, Option, Some, None, option_and_then, option_map}
use Rattle.std.specs.List.{list_all, list_any}
use Rattle.std.specs.Str.{bytes_eq}
use Rattle.toml.specs.Data.{Data, integer, Items, no_items, item, Members, no_members, member, as_str, as_array}
use Rattle.tool_events.specs.declared.config.SpoolStreams.{SpoolStreams}

-- the value, where it passes a test
abbrev pub passing : {A : Type 0} → (A → Bool) → A → Option A
passing test x = if test x then Some x else None

-- the number of a TOML integer that isn't negative
abbrev pub as_natural : Data → Option ℕ
as_natural (integer (pos n)) = Some n
as_natural _ = None

-- the number lies between these, which both count
abbrev pub is_between : ℕ → ℕ → ℕ → Bool
is_between least most n = nat_le least n && nat_le n most

-- a number of at least and at most so much (this tool's profile, configuration)
abbrev pub number_in : ℕ → ℕ → Data → Option ℕ
number_in least most d = option_and_then (passing (is_between least most)) (as_natural d)

-- a text of so many bytes, 1 at least, each 32 to 126 (this tool's profile, configuration)
abbrev pub is_plain : ℕ → List ℕ → Bool
is_plain most text = is_between 1 most (length text) && list_all (is_between 32 126) text

abbrev pub text_of : ℕ → Data → Option (List ℕ)
text_of most d = option_and_then (passing (is_plain most)) (as_str d)

-- what a word stands for among some words
abbrev pub named : {A : Type 0} → List (List ℕ × A) → List ℕ → Option A
named [] word = None
named (w ∷ ws) word = if bytes_eq word w.0 then Some w.1 else named ws word

-- one of some words, as what it stands for
abbrev pub word_of : {A : Type 0} → List (List ℕ × A) → Data → Option A
word_of words d = option_and_then (named words) (as_str d)

-- the number is in the list
abbrev pub has : ℕ → List ℕ → Bool
has n ns = list_any (nat_eq n) ns

-- the numbers of a list, behind those before it: each lies between the two, and none stands twice
abbrev pub numbers_behind : ℕ → ℕ → List ℕ → Items → Option (List ℕ)
numbers_behind least most found no_items = Some found
numbers_behind least most found (item d ds) =
    option_and_then (λ n. if has n found then None else numbers_behind least most (found ++ n ∷ []) ds) (number_in least most d)

-- a list of distinct numbers of at least and at most so much, in its order (this tool's profile, configuration)
abbrev pub numbers_in : ℕ → ℕ → Data → Option (List ℕ)
numbers_in least most d = option_and_then (numbers_behind least most []) (as_array d)

-- the streams among these numbers
abbrev pub streams_in : List ℕ → SpoolStreams
streams_in ns = record { five = has 5 ns; six = has 6 ns }

-- a list of distinct 5 and 6, as the streams that it has (SEMI E30, spooling; this tool's profile, configuration)
abbrev pub streams_of : Data → Option SpoolStreams
streams_of d = option_map streams_in (numbers_in 5 6 d)

-- the values of a list that isn't empty
abbrev pub some_items : Items → Option Items
some_items no_items = None
some_items (item d ds) = Some (item d ds)

abbrev pub filled_list : Data → Option Items
filled_list d = option_and_then some_items (as_array d)

-- a table has a key that isn't among these
abbrev pub has_other : List (List ℕ) → Members → Bool
has_other keys no_members = false
has_other keys (member k d ms) = not (list_any (bytes_eq k) keys) || has_other keys ms
