-- What a text and a name hold.
use Rattle.std.specs.Prelude.{◌≡◌, ℕ, ◌<◌, ◌≤◌, List, length, slice_index}
use Rattle.std.specs.List.{All}
use Rattle.gem_ids.specs.declared.text.TextFault.{TextFault}
use Rattle.gem_ids.specs.declared.text.TextFault.TheVariants.{TooLong, NotPrintable}

-- a byte that prints: the space to the tilde (this tool's profile, texts)
abbrev pub IsPrintable : ℕ → Type 0
IsPrintable byte = (32 ≤ byte) × (byte ≤ 126)

-- bytes that a text can hold: at most 80, each of which prints (this tool's profile, texts)
abbrev pub IsText : List ℕ → Type 0
IsText bytes = (length bytes ≤ 80) × All IsPrintable bytes

-- the first byte that does not print stands here
abbrev pub IsFirstUnprintable : List ℕ → ℕ → Type 0
IsFirstUnprintable bytes place =
    (place < length bytes) × (¬ IsPrintable (slice_index bytes place)) × ((k : ℕ) → k < place → IsPrintable (slice_index bytes k))

-- why these bytes are no text: their number where it is over 80, else the first that does not print (this tool's profile, texts)
abbrev pub IsFaultOf : List ℕ → TextFault → Type 0
IsFaultOf bytes (TooLong count) = (80 < length bytes) × (count ≡ length bytes)
IsFaultOf bytes (NotPrintable place) = (length bytes ≤ 80) × IsFirstUnprintable bytes place
