-- Some of a run's changes.
use Rattle.std.proofs.Common.{inl, inr, ℕ, List, [], ◌∷◌, take}
use Rattle.std.specs.Prelude.{zero, suc}
use Rattle.spool.specs.declared.note.Note.{Note}
use Rattle.spool_format.specs.declared.change.Change.{Change}
use Rattle.spool_format.specs.Format.{Sizes, StandsFor, changed}
use Rattle.nv_spool.specs.Writing.{BeforeOrAfter, AfterSome}

-- before all of them
pub after_none : (s : Sizes) (notes : List Note) (changes : List Change) (bytes : List ℕ) → StandsFor s notes bytes → AfterSome s notes changes bytes
after_none s notes [] bytes stands = stands
after_none s notes (change ∷ changes) bytes stands = inl stands

-- some of the first ones are some of one more
pub one_more : (s : Sizes) (notes : List Note) (n : ℕ) (changes : List Change) (bytes : List ℕ) → AfterSome s notes (take n changes) bytes → AfterSome s notes (take (suc n) changes) bytes
one_more s notes zero changes bytes some = after_none s notes (take (suc zero) changes) bytes some
one_more s notes (suc n) [] bytes some = some
one_more s notes (suc n) (change ∷ changes) bytes (inl before) = inl before
one_more s notes (suc n) (change ∷ changes) bytes (inr after) = inr (one_more s (changed s.capacity change notes) n changes bytes after)

-- before one change or after it
pub first_change : (s : Sizes) (notes : List Note) (change : Change) (changes : List Change) (bytes : List ℕ) → BeforeOrAfter s notes (changed s.capacity change notes) bytes → AfterSome s notes (take 1 (change ∷ changes)) bytes
first_change s notes change changes bytes (inl before) = inl before
first_change s notes change changes bytes (inr after) = inr after
