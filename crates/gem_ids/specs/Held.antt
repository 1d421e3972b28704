-- How a text lies in its eighty bytes.
use Rattle.std.specs.Prelude.{◌≡◌, ℕ, ◌-◌, ◌≤◌, List, ◌++◌, length, take, drop, replicate}
use Rattle.std.specs.List.{All}
use Rattle.std.proofs.Common.{arith}
use Rattle.std.proofs.lemmas.List.{take-append-drop, length-take-le}
use Rattle.gem_ids.specs.Texts.{IsPrintable}

-- the first bytes are a text, and zeros stand behind it
pub record HoldsText (bytes : List ℕ) (len : ℕ) : Type 0 where
  pub fits : len ≤ 80
  pub size : length bytes ≡ 80
  pub printable : All IsPrintable (take len bytes)
  pub zeros : drop len bytes ≡ replicate (80 - len) 0

-- the text is as long as the number says
pub held_length : (bytes : List ℕ) (len : ℕ) → HoldsText bytes len → length (take len bytes) ≡ len
held_length bytes len h = length-take-le len bytes (omega arith)

-- the text and the zeros behind it are all of the bytes
pub held_whole : (bytes : List ℕ) (len : ℕ) → HoldsText bytes len → take len bytes ++ replicate (80 - length (take len bytes)) 0 ≡ bytes
held_whole bytes len h = rw (held_length bytes len h) (rw (← h.zeros) (take-append-drop len bytes))
