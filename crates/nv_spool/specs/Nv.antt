-- What callers see of a durable spool.
use Rattle.std.specs.Prelude.{Bool, List}
use Rattle.spool.specs.declared.note.Note.{Note}
use Rattle.spool_format.specs.Format.{Sizes}

pub record Nv (D : Type 0) : Type 0 where
  pub disk : D
  -- the notes, from the oldest to the newest
  pub notes : List Note
  pub sizes : Sizes
  -- the disk failed in an earlier call
  pub is_closed : Bool
