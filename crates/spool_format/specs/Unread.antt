-- The first place at which bytes are not in the format (this tool's profile, durable spool).
use Rattle.std.specs.Prelude.{◌≡◌, ◌⊎◌, ℕ, ◌+◌, ◌<◌, ◌≤◌, ◌-◌, Bool, false, List, [], ◌∷◌, length, take}
use Rattle.spool.specs.declared.note.Kind.{Kind}
use Rattle.spool.specs.declared.note.Note.{Note}
use Rattle.outside.specs.Disk.{HasAt}
use Rattle.spool_format.specs.Runs.{IsMissing}
use Rattle.spool_format.specs.Format.{CanStand, may_follow, Record, Sizes, IsSize, Stand, replayed, flag, kind_byte, head_bytes, half_start, record_bytes, spelled}

-- the first byte that is missing, of so many from a place on
pub record EndsAt (bytes : List ℕ) (stop at size place : ℕ) : Type 0 where
  pub low : at ≤ place
  pub high : place < at + size
  pub missing : IsMissing bytes stop place
  pub first : (k : ℕ) → at ≤ k → k < place → (k < stop) × (k < length bytes)

-- one byte stands there, and it is none of those that P names
pub record IsOther (P : ℕ → Type 0) (bytes : List ℕ) (stop at place : ℕ) : Type 0 where
  pub place_is : place ≡ at
  pub before : at < stop
  pub there : at < length bytes
  pub none : (b : ℕ) → P b → HasAt bytes at (b ∷ []) → ⊥

-- the byte of a kind, of a flag, of an operation
abbrev pub IsKindByte : ℕ → Type 0
IsKindByte b = (kind : Kind) × (b ≡ kind_byte kind)

abbrev pub IsFlagByte : ℕ → Type 0
IsFlagByte b = (is : Bool) × (b ≡ flag is)

-- ---- what is no text of a form: F are the fields of a text, each of which begins at a place of it and has so many bytes

module _ (Form : List ℕ → Type 0) (F : Type 0) (begins : F → ℕ) (size : List ℕ → F → ℕ) (MayBeWrong : F → Type 0) (bytes : List ℕ) (at stop : ℕ) where
  -- the bytes go like a text of the form up to a field, and end in it
  pub record EndsIn (place : ℕ) : Type 0 where
    pub text : List ℕ
    pub form : Form text
    pub field : F
    pub fits : begins field + size text field ≤ length text
    pub there : HasAt bytes at (take (begins field) text)
    pub before : at + begins field ≤ stop
    pub ends : EndsAt bytes stop (at + begins field) (size text field) place

  -- they go like a text of the form up to a field that is whole, and no text of the form has such a one
  pub record IsWrong (place : ℕ) : Type 0 where
    pub text : List ℕ
    pub form : Form text
    pub field : F
    pub may : MayBeWrong field
    pub there : HasAt bytes at (take (begins field) text)
    pub place_is : place ≡ at + begins field
    pub before : at + begins field + size text field ≤ stop
    pub whole : at + begins field + size text field ≤ length bytes
    pub none : (other : List ℕ) → Form other → HasAt bytes at (take (begins field + size text field) other) → ⊥

  -- the place of the first byte that is missing, or of the first field that is wrong
  abbrev pub Leaves : ℕ → Type 0
  Leaves place = EndsIn place ⊎ IsWrong place

-- ---- heads

abbrev pub IsHead : List ℕ → Type 0
IsHead text = (s : Sizes) × (selector : ℕ) × IsSize s × (text ≡ head_bytes s selector)

pub data HeadField : Type 0 where
  AtSelector : HeadField
  AtCapacity : HeadField
  AtHalf : HeadField

abbrev pub head_begins : HeadField → ℕ
head_begins AtSelector = 0
head_begins AtCapacity = 1
head_begins AtHalf = 5

abbrev pub head_size : List ℕ → HeadField → ℕ
head_size text AtSelector = 1
head_size text AtCapacity = 4
head_size text AtHalf = 8

abbrev pub IsSizeField : HeadField → Type 0
IsSizeField AtSelector = ⊥
IsSizeField AtCapacity = Unit {0}
IsSizeField AtHalf = Unit {0}

abbrev pub NoHead : List ℕ → ℕ → Type 0
NoHead bytes place = Leaves IsHead HeadField head_begins head_size IsSizeField bytes 0 13 place

-- ---- records

abbrev pub IsRecord : List ℕ → Type 0
IsRecord text = (r : Record) × (0 < r.0) × CanStand r.1 × (text ≡ record_bytes r)

pub data RecordField : Type 0 where
  AtGate : RecordField
  AtOperation : RecordField
  AtOverwrite : RecordField
  AtNumber : RecordField
  AtKind : RecordField
  AtId : RecordField
  AtLength : RecordField
  AtText : RecordField

abbrev pub record_begins : RecordField → ℕ
record_begins AtGate = 0
record_begins AtOperation = 1
record_begins AtOverwrite = 2
record_begins AtNumber = 3
record_begins AtKind = 11
record_begins AtId = 12
record_begins AtLength = 16
record_begins AtText = 20

abbrev pub record_size : List ℕ → RecordField → ℕ
record_size text AtGate = 1
record_size text AtOperation = 1
record_size text AtOverwrite = 1
record_size text AtNumber = 8
record_size text AtKind = 1
record_size text AtId = 4
record_size text AtLength = 4
record_size text AtText = length text - 20

abbrev pub IsCodedField : RecordField → Type 0
IsCodedField AtGate = ⊥
IsCodedField AtOperation = Unit {0}
IsCodedField AtOverwrite = Unit {0}
IsCodedField AtNumber = ⊥
IsCodedField AtKind = Unit {0}
IsCodedField AtId = ⊥
IsCodedField AtLength = Unit {0}
IsCodedField AtText = ⊥

abbrev pub NoRecord : List ℕ → ℕ → ℕ → ℕ → Type 0
NoRecord bytes at stop place = Leaves IsRecord RecordField record_begins record_size IsCodedField bytes at stop place

-- the operations of records with a note
abbrev pub HasNote : ℕ → Type 0
HasNote operation = (operation ≡ 1) ⊎ (operation ≡ 2)

-- behind the overwrite byte of such a record, where its note begins: no such record stands there
abbrev pub NoNote : List ℕ → ℕ → ℕ → ℕ → Type 0
NoNote bytes at stop place =
    (start gate operation : ℕ) (overwrite : Bool) → at ≡ start + 3 → 0 < gate → HasNote operation → HasAt bytes start (gate ∷ operation ∷ flag overwrite ∷ [])
    → NoRecord bytes start stop place

-- behind the operation of such a record: the same
abbrev pub NoneBehind : List ℕ → ℕ → ℕ → ℕ → ℕ → Type 0
NoneBehind bytes at operation stop place = (gate : ℕ) → 0 < gate → HasAt bytes at (gate ∷ operation ∷ []) → NoRecord bytes at stop place

-- a record stands there whole, whose change may not be made of these notes; its place is its first byte
pub record MayNotFollow (bytes : List ℕ) (at stop : ℕ) (notes : List Note) (place : ℕ) : Type 0 where
  pub read : Record
  pub opened : 0 < read.0
  pub can : CanStand read.1
  pub there : HasAt bytes at (record_bytes read)
  pub within : at + length (record_bytes read) ≤ stop
  pub may_not : may_follow read.1 notes ≡ false
  pub place_is : place ≡ at

-- no record stands there that may follow on those that give these notes
abbrev pub NoChange : List ℕ → ℕ → ℕ → List Note → ℕ → Type 0
NoChange bytes at stop notes place = NoRecord bytes at stop place ⊎ MayNotFollow bytes at stop notes place

-- ---- whole texts

-- records stand from the start of a half on, and behind them none does
pub record NoRecordBehind (bytes : List ℕ) (capacity start stop place : ℕ) : Type 0 where
  pub records : List Record
  pub stand : Stand capacity [] records
  pub there : HasAt bytes start (spelled records)
  pub here : NoChange bytes (start + length (spelled records)) stop (replayed capacity [] records) place

-- the same in the half that the head names
pub record NoHalf (bytes : List ℕ) (place : ℕ) : Type 0 where
  pub s : Sizes
  pub selector : ℕ
  pub size : IsSize s
  pub head : HasAt bytes 0 (head_bytes s selector)
  pub behind : NoRecordBehind bytes s.capacity (half_start s selector) (half_start s selector + s.half) place

-- the bytes from this place on are not in the format
abbrev pub IsUnread : List ℕ → ℕ → Type 0
IsUnread bytes place = NoHead bytes place ⊎ NoHalf bytes place
