-- What stands at a place in a half, which ends at `stop`.
use Rattle.std.specs.Prelude.{◌≡◌, ℕ, ◌+◌, ◌<◌, Bool, true, ◌==◌, if◌then◌else◌, List, [], ◌∷◌, length, Option, Some, None}
use Rattle.spool.specs.declared.note.Note.{Note}
use Rattle.outside.specs.Disk.{HasAt}
use Rattle.spool_format.specs.declared.change.Change.{Change}
use Rattle.spool_format.specs.declared.change.Change.TheVariants.{Push, PutBack, Take}
use Rattle.spool_format.specs.Format.{CanStand, may_follow, Record, Stand, changed, replayed, record_bytes, spelled}

-- ---- what stands at a gate: the end of the records, or a change, with whatever byte opens its gate

-- (what is said of the bytes is said under a premise, that the disk tells)
abbrev pub StandsAt : Type 0 → List ℕ → ℕ → Option Change → Type 0
StandsAt told bytes at None = told → HasAt bytes at (0 ∷ [])
StandsAt told bytes at (Some change) = (gate : ℕ) × (0 < gate) × (told → HasAt bytes at (record_bytes (gate, change)))

abbrev pub FitsItem : Option Change → Type 0
FitsItem None = Unit {0}
FitsItem (Some change) = CanStand change

abbrev pub change_size : Change → ℕ
change_size (Push overwrite note) = 20 + length note.text
change_size (PutBack overwrite note) = 20 + length note.text
change_size Take = 2

abbrev pub item_size : Option Change → ℕ
item_size None = 1
item_size (Some change) = change_size change

-- the change that a record of this operation makes, 1 or 2
abbrev pub noted : ℕ → Bool → Note → Change
noted operation overwrite note = if operation == 1 then Push overwrite note else PutBack overwrite note

-- this change stands at an open gate, where this operation stands behind it
abbrev pub StandsBehind : List ℕ → ℕ → ℕ → Change → Type 0
StandsBehind bytes at operation change = (gate : ℕ) → HasAt bytes at (gate ∷ operation ∷ []) → HasAt bytes at (record_bytes (gate, change))

-- ---- records one behind another

-- from one gate to the next: one change is made
pub record IsStep (told : Type 0) (bytes : List ℕ) (at capacity : ℕ) (old new : List Note) (next : ℕ) : Type 0 where
  pub read : Record
  pub opened : 0 < read.0
  pub can : CanStand read.1
  pub may : may_follow read.1 old ≡ true
  pub notes_are : new ≡ changed capacity read.1 old
  pub next_is : next ≡ at + length (record_bytes read)
  pub there : told → HasAt bytes at (record_bytes read)

-- from the start up to a gate: so many records stand there, and they give these notes
pub record IsReadTo (told : Type 0) (bytes : List ℕ) (start capacity : ℕ) (notes : List Note) (at : ℕ) : Type 0 where
  pub records : List Record
  pub stand : Stand capacity [] records
  pub notes_are : notes ≡ replayed capacity [] records
  pub at_is : at ≡ start + length (spelled records)
  pub there : told → HasAt bytes start (spelled records)
