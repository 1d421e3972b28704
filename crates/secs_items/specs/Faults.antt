-- What is wrong with bytes that spell no item.
use Rattle.std.specs.Prelude.{◌≡◌, ◌≢◌, ◌⊎◌, ℕ, zero, suc, ◌/◌, ◌%◌, ◌<◌, ◌≤◌, List, [], ◌++◌, length, take, drop, slice_index}
use Rattle.item_model.specs.Data.{DataList}
use Rattle.item_model.specs.Format.{width, IsNoCode}
use Rattle.item_model.specs.Plain.{count_of}
use Rattle.item_model.specs.Spelling.{IsHead, SpellAll, AreBelow, Open}
use Rattle.item_model.specs.declared.fault.ItemFault.{ItemFault}
use Rattle.item_model.specs.declared.fault.ItemFault.TheVariants as fault
use Rattle.item_model.specs.declared.format.Format.{Format}
use Rattle.item_model.specs.declared.format.Format.TheVariants as format

-- An item inside so many lists begins behind these bytes: each of the lists has begun,
-- and fewer of its items have gone by than it announces.
abbrev pub Begins : ℕ → List ℕ → Type 0
Begins zero front = front ≡ []
Begins (suc depth) front =
    (outer : List ℕ) × (head : List ℕ) × (before : List ℕ) × (n : ℕ) × (ds : DataList) × Begins depth outer × (depth < 16) × IsHead format.List n head × SpellAll ds (suc depth) before × (count_of ds < n) × (front ≡ outer ++ (head ++ before))

-- the byte at this place is the format byte of an item inside so many lists
abbrev pub BeginsAt : List ℕ → ℕ → ℕ → Type 0
BeginsAt input place depth = Begins depth (take place input) × (place < length input)

-- The fault stands in the input (SEMI E5, item header and item formats, and this tool's profile, how it is read).
abbrev pub Stands : List ℕ → ItemFault → Type 0
-- the input ends before the item does
Stands input (fault.Truncated place) = Open input × (place ≡ length input)
-- a format byte that announces no length bytes
Stands input (fault.BadLengthBytes place) =
    (depth : ℕ) × BeginsAt input place depth × (slice_index input place % 4 ≡ 0)
-- a format byte with a code that no format has
Stands input (fault.BadCode place code) =
    (depth : ℕ) × BeginsAt input place depth × (slice_index input place / 4 ≡ code) × IsNoCode code
-- a header with a length that is no multiple of the width
Stands input (fault.BadWidth place) =
    (depth : ℕ) × (f : Format) × (n : ℕ) × (head : List ℕ) × (behind : List ℕ) × Begins depth (take place input) × IsHead f n head × (n % width f ≢ 0) × (drop place input ≡ head ++ behind)
-- a byte over 127 in the text of an ASCII item, and none before it
Stands input (fault.BadAscii place) =
    (depth : ℕ) × (n : ℕ) × (front : List ℕ) × (head : List ℕ) × (text : List ℕ) × Begins depth front × IsHead format.Ascii n head × AreBelow 128 text × (length text < n) × (take place input ≡ front ++ (head ++ text)) × (place < length input) × (128 ≤ slice_index input place)
-- the format byte of a list inside 16 lists
Stands input (fault.TooDeep place) = BeginsAt input place 16 × (slice_index input place / 4 ≡ 0)
Stands input fault.NoMemory = ⊥

-- the place of a fault, counted from 0
abbrev pub place_of : ItemFault → ℕ
place_of (fault.Truncated place) = place
place_of (fault.BadLengthBytes place) = place
place_of (fault.BadCode place code) = place
place_of (fault.BadWidth place) = place
place_of (fault.BadAscii place) = place
place_of (fault.TooDeep place) = place
place_of fault.NoMemory = 0

-- the rank of a fault among those at one place (this tool's profile, items, how it is read)
abbrev pub rank_of : ItemFault → ℕ
rank_of (fault.Truncated place) = 0
rank_of (fault.BadLengthBytes place) = 1
rank_of (fault.BadCode place code) = 2
rank_of (fault.BadWidth place) = 3
rank_of (fault.BadAscii place) = 4
rank_of (fault.TooDeep place) = 5
rank_of fault.NoMemory = 6

-- a fault comes before another
abbrev pub Precedes : ItemFault → ItemFault → Type 0
Precedes f g = (place_of f < place_of g) ⊎ ((place_of f ≡ place_of g) × (rank_of f < rank_of g))

-- the fault of the least place (this tool's profile, items, how it is read)
abbrev pub IsFirst : List ℕ → ItemFault → Type 0
IsFirst input f = Stands input f × ((g : ItemFault) → Stands input g → Precedes g f → ⊥)
