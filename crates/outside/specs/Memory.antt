-- What sources, sinks, doors and clocks in memory are, without how they lie there.
use Rattle.std.specs.Prelude.{ℕ, List, Option, Bool, false, ◌&&◌, nat_lt, ◌==◌, Result, Ok, Err}
use Rattle.gem_ids.specs.declared.moment.Moment.{Moment}

-- a source in memory (this tool's profile, sources and sinks in memory)
pub record Reading : Type 0 where
  -- the bytes that are left
  pub left : List ℕ
  -- how many bytes a read gives at most
  pub most : ℕ
  -- which reads fail, the first being 1
  pub fails : List ℕ
  -- how many reads there were
  pub reads : ℕ
  -- how many of them failed
  pub faults : ℕ
  -- how many of them were answered 0 for a buffer that isn't empty
  pub ends : ℕ

-- a sink in memory (this tool's profile, sources and sinks in memory)
pub record Writing : Type 0 where
  -- the bytes that were taken
  pub held : List ℕ
  -- how many bytes the sink takes at all
  pub limit : ℕ
  -- how many bytes it has memory for
  pub room : ℕ
  -- which writes fail, the first being 1
  pub fails : List ℕ
  -- how many writes there were
  pub writes : ℕ
  -- how many of them failed
  pub faults : ℕ
  -- how many of them were answered 0 for a piece that isn't empty
  pub refusals : ℕ

-- a door in memory (this tool's profile, links and doors in memory)
pub record Meeting (L : Type 0) : Type 0 where
  -- the links that are left to be given
  pub left : List L
  -- whether the answer behind the last one is Closed
  pub is_closing : Bool
  -- the port at which it was asked to listen last
  pub port : Option ℕ
  -- the links that were handed back and for which there was room
  pub backs : List L
  -- for how many there is room at all
  pub room : ℕ
  -- whether there was room for each that was handed back
  pub is_kept : Bool
  -- which calls fail, the first being 1
  pub fails : List ℕ
  -- how many calls there were
  pub calls : ℕ
  -- how many of them failed
  pub faults : ℕ
  -- how many links were given
  pub links : ℕ
  -- how often the answer was NotYet
  pub waits : ℕ
  -- how often the answer was Closed
  pub closings : ℕ

-- a clock in memory (this tool's profile, clocks and gates)
pub record Ticking : Type 0 where
  -- the moments that it gives
  pub moments : List Moment
  -- how often it was read
  pub reads : ℕ
  -- whether that is no more than the count holds
  pub is_counted : Bool

-- a call for so many bytes was answered 0, though they are not none
abbrev pub is_zero_of : {E : Type 0} → ℕ → Result ℕ E → Bool
is_zero_of asked (Ok n) = n == 0 && nat_lt 0 asked
is_zero_of asked (Err _) = false
