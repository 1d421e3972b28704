-- What the links of a door tell, and the door itself.
use Rattle.std.specs.Prelude.{◌≡◌, ℕ, zero, suc, ◌+◌, ◌-◌, ◌^◌, min, ⊤, Bool, List, ◌++◌, Option, Some, None}

-- what the two ends of a link tell
pub record LinkTold : Type 0 where
  -- the bytes that are left to be read, where the end tells them
  pub left : Option (List ℕ)
  -- how often a read failed
  pub read_faults : ℕ
  -- how often a read of a buffer that isn't empty was answered 0
  pub ends : ℕ
  -- the bytes that were written, where the end tells them
  pub held : Option (List ℕ)
  -- how often a write failed
  pub write_faults : ℕ
  -- how often a write of a piece that isn't empty was answered 0
  pub refusals : ℕ
  -- whether it was shut
  pub is_shut : Bool

-- what a link tells: its way in by the first three, its way out by the others
abbrev pub link_told : {I O : Type 0} → (I → Option (List ℕ)) → (I → ℕ) → (I → ℕ) → (O → Option (List ℕ)) → (O → ℕ) → (O → ℕ) → (O → Bool) → I × O → LinkTold
link_told left read_faults ends held write_faults refusals is_shut link = record {
  left = left link.0;
  read_faults = read_faults link.0;
  ends = ends link.0;
  held = held link.1;
  write_faults = write_faults link.1;
  refusals = refusals link.1;
  is_shut = is_shut link.1;
}

-- what a door tells: the links that are left to be given, those that were handed back and the port at which it listens, where it
-- tells them, and its counts
pub record DoorTold (L : Type 0) : Type 0 where
  pub left : Option (List L)
  pub backs : Option (List L)
  pub port : Option ℕ
  pub faults : ℕ
  pub links : ℕ
  pub waits : ℕ
  pub closings : ℕ

-- what this door tells
abbrev pub door_told : {X L : Type 0} → (X → Option (List L)) → (X → Option (List L)) → (X → Option ℕ) → (X → ℕ) → (X → ℕ) → (X → ℕ) → (X → ℕ) → X → DoorTold L
door_told left backs port faults links waits closings door = record {
  left = left door;
  backs = backs door;
  port = port door;
  faults = faults door;
  links = links door;
  waits = waits door;
  closings = closings door;
}

-- these were the first of what was left, in their order, where that was told
abbrev pub AllGiven : {L : Type 0} → List L → Option (List L) → Option (List L) → Type 0
AllGiven links None new = ⊤
AllGiven {L} links (Some old) new = (rest : List L) × (old ≡ links ++ rest) × (new ≡ Some rest)

-- these now stand behind all that was there, in their order, where that is told afterwards
abbrev pub AllBack : {L : Type 0} → List L → Option (List L) → Option (List L) → Type 0
AllBack links old None = ⊤
AllBack {L} links old (Some new) = (before : List L) × (old ≡ Some before) × (new ≡ before ++ links)

-- the count after so many links more: where there are any, it stands still at the greatest number that it holds
abbrev pub raised : ℕ → ℕ → ℕ
raised count zero = count
raised count (suc more) = min (count + suc more) (2 ^ 64 - 1)
