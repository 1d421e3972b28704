-- What all actors did in their seats.
use Rattle.std.specs.Prelude.{◌≡◌, ◌≢◌, ℕ, Option, List, [], ◌∷◌, map}
use Rattle.gem_ids.specs.declared.moment.Moment.{Moment}
use Rattle.history_parts.specs.CoreView.{CoreView}
use Rattle.tool_lock.specs.declared.kept.Kept.{Ghosts}
use Rattle.shared_tool.specs.declared.posted.Posted.{Posted}
use Rattle.shared_tool.specs.declared.shared.Shared.{Shared}
use Rattle.actors.specs.declared.end.ActorEnd.{ActorEnd}
use Rattle.actors.specs.declared.end.ActorEnd.TheVariants as end
use Rattle.source_lines.specs.Reads.{SourceTold}
use Rattle.actors.specs.Times.{TimeDid}
use Rattle.host_actor.specs.declared.bytes.SessionBytes.{SessionBytes}
use Rattle.host_actor.specs.Links.{LinkTold, DoorTold}
use Rattle.tool_crew.specs.declared.seat.Seat.{Seat}
use Rattle.tool_crew.specs.declared.ends.Ends.{Ends}
use Rattle.tool_crew.specs.Doings.{Operated}
use Rattle.tool_crew.specs.Seating.{Stays, posts_in, HostWorked, AllWorked}

-- what the world outside tells: the door, the script, and the moments that the clock gave
pub record Outside (L : Type 0) : Type 0 where
  pub door : DoorTold L
  pub script : SourceTold
  pub moments : Option (List Moment)

-- what this door, this script and this clock tell
abbrev pub outside : {L : Type 0} → DoorTold L → SourceTold → Option (List Moment) → Outside L
outside door script moments = record { door = door; script = script; moments = moments }

-- The actors did what they do, each in its seat: the host actor in those of reader and writer, the operator, the clock, and the
-- modules, the first of which has number 1. How the host actor ended stands in the reader's seat.
pub record SeatsDid {V : Type 0} {K : Ghosts V Posted CoreView} {L : Type 0} (told : L → LinkTold) (t : Shared V Posted CoreView) (out out' : Outside L) (bytes bytes' : List SessionBytes) (count : ℕ) (r w o k r' w' o' k' : Seat V Posted CoreView K) (ms ms' : List (Seat V Posted CoreView K)) : Type 0 where
  pub hosted : HostWorked told t out.door out'.door r r' w w' bytes bytes'
  pub operator_same : Stays t o.chair o'.chair
  pub operated : Operated out.script out'.script (posts_in o.chair) (posts_in o'.chair) count o'.end
  pub clock_same : Stays t k.chair k'.chair
  pub timed : TimeDid out.moments out'.moments (posts_in k.chair) (posts_in k'.chair) k'.end
  pub worked : AllWorked t 1 ms ms'
  -- at no other end did a read of the script fail
  pub script_unfailed : o'.end ≢ end.ReadFault → out'.script.faults ≡ out.script.faults

abbrev pub CrewDid : {V : Type 0} {K : Ghosts V Posted CoreView} {L : Type 0} → (L → LinkTold) → Shared V Posted CoreView → Outside L → Outside L → List SessionBytes → List SessionBytes → ℕ
    → List (Seat V Posted CoreView K) → List (Seat V Posted CoreView K) → Type 0
CrewDid told t out out' bytes bytes' count (r ∷ w ∷ o ∷ k ∷ ms) (r' ∷ w' ∷ o' ∷ k' ∷ ms') = SeatsDid told t out out' bytes bytes' count r w o k r' w' o' k' ms ms'
CrewDid told t out out' bytes bytes' count _ _ = ⊥

-- the first end that isn't Quit, or else Quit
abbrev pub first_end : List ActorEnd → ActorEnd
first_end [] = end.Quit
first_end (end.Quit ∷ ends) = first_end ends
first_end (e ∷ ends) = e

-- how the actors in these seats ended
abbrev pub AreEnds : {V : Type 0} {K : Ghosts V Posted CoreView} → List (Seat V Posted CoreView K) → Ends → Type 0
AreEnds {V} {K} (r ∷ w ∷ o ∷ k ∷ ms) ends = (ends.host ≡ r.end) × (ends.operator ≡ o.end) × (ends.clock ≡ k.end) × (ends.modules ≡ first_end (map (λ (s : Seat V Posted CoreView K). s.end) ms))
AreEnds _ ends = ⊥
