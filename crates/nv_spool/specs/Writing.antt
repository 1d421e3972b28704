-- What the calls of a durable spool write, and what a crash leaves meanwhile (this tool's profile, durable spool).
use Rattle.std.specs.Prelude.{◌≡◌, ◌⊎◌, ℕ, ◌+◌, ◌%◌, ◌<◌, true, false, List, [], ◌∷◌, ◌++◌, map}
use Rattle.spool.specs.declared.note.Note.{Note}
use Rattle.spool_format.specs.declared.change.Change.{Change}
use Rattle.spool_format.specs.declared.change.Change.TheVariants.{Push}
use Rattle.spool_format.specs.Format.{Sizes, Record, Shows, StandsFor, CanStand, changed, may_follow}

-- a half as a compaction writes it: one push per note
abbrev pub push_of : Note → Record
push_of note = (1, Push false note)

abbrev pub pushes : List Note → List Record
pushes notes = map push_of notes

-- the selector of the other half
abbrev pub next : ℕ → ℕ
next selector = (selector + 1) % 256

-- with one record more, whatever opens its gate, or without it
abbrev pub WithOrWithout : Sizes → ℕ → List Record → Change → List ℕ → Type 0
WithOrWithout s selector rs change bytes =
    Shows s selector rs bytes ⊎ ((gate : ℕ) × (0 < gate) × Shows s selector (rs ++ (gate, change) ∷ []) bytes)

-- the notes from before a change, or those behind it
abbrev pub BeforeOrAfter : Sizes → List Note → List Note → List ℕ → Type 0
BeforeOrAfter s before after bytes = StandsFor s before bytes ⊎ StandsFor s after bytes

-- the notes after these changes, the first of them first
abbrev pub made : ℕ → List Change → List Note → List Note
made capacity [] notes = notes
made capacity (change ∷ changes) notes = made capacity changes (changed capacity change notes)

-- each of these changes can stand, and may be made of the notes that those before it give
abbrev pub CanMake : ℕ → List Note → List Change → Type 0
CanMake capacity notes [] = Unit {0}
CanMake capacity notes (change ∷ changes) = CanStand change × (may_follow change notes ≡ true) × CanMake capacity (changed capacity change notes) changes

-- the notes after some of these changes, of which none is left out
abbrev pub AfterSome : Sizes → List Note → List Change → List ℕ → Type 0
AfterSome s notes [] bytes = StandsFor s notes bytes
AfterSome s notes (change ∷ changes) bytes = StandsFor s notes bytes ⊎ AfterSome s (changed s.capacity change notes) changes bytes
