-- Records with the room that is kept for them.
use Rattle.std.specs.Prelude.{ℕ, List}

-- the records, in the order in which they came, and how many there is room for
pub record Stock (R : Type 0) : Type 0 where
  pub kept : List R
  pub room : ℕ
