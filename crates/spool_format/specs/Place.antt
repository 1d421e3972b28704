-- Where the records stand.
use Rattle.std.specs.Prelude.{ℕ, List}
use Rattle.spool.specs.declared.note.Note.{Note}
use Rattle.spool_format.specs.declared.place.Place.{Place}
use Rattle.spool_format.specs.Format.{Sizes, Settled}

abbrev pub sizes : ℕ → Place → Sizes
sizes capacity place = record { capacity = capacity; half = place.half }

-- between two calls
abbrev pub IsAt : ℕ → Place → List Note → (List ℕ → Type 0) → Type 0
IsAt capacity place notes images = Settled (sizes capacity place) place.selector place.end notes images
