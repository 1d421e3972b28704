-- Chairs in their seats.
use Rattle.std.specs.Prelude.{◌≡◌, ◌≢◌, ℕ, suc, ⊤, Option, Some, None, List, [], ◌∷◌}
use Rattle.tool_events.specs.declared.entry.Post.{Post}
use Rattle.history_parts.specs.CoreView.{CoreView}
use Rattle.tool_lock.specs.declared.kept.Kept.{Ghosts}
use Rattle.tool_lock.specs.declared.pass.Pass.{Pass}
use Rattle.tool_lock.specs.Passes.{pass_number, mine}
use Rattle.shared_tool.specs.declared.posted.Posted.{Posted}
use Rattle.shared_tool.specs.declared.shared.Shared.{Shared}
use Rattle.shared_tool.specs.Chairs.{IsChairOf}
use Rattle.shared_tool.specs.Seats.{posts_of}
use Rattle.tool_crew.specs.declared.seat.Seat.{Seat}
use Rattle.actors.specs.declared.end.ActorEnd.TheVariants as end
use Rattle.host_actor.specs.declared.bytes.SessionBytes.{SessionBytes}
use Rattle.host_actor.specs.Links.{LinkTold, DoorTold}
use Rattle.tool_crew.specs.Doings.{Hosted, Worked}

module _ {V : Type 0} {K : Ghosts V Posted CoreView} where
  -- a chair of this tool is there
  abbrev pub IsOf : Shared V Posted CoreView → Option (Pass V Posted CoreView K) → Type 0
  IsOf t None = ⊥
  IsOf t (Some chair) = IsChairOf t chair

  -- its number
  abbrev pub number_in : Option (Pass V Posted CoreView K) → ℕ
  number_in None = 0
  number_in (Some chair) = pass_number chair

  -- what was posted from it
  abbrev pub posts_in : Option (Pass V Posted CoreView K) → List Post
  posts_in None = []
  posts_in (Some chair) = posts_of (mine chair)

  -- it is a chair of this tool, of the same number
  abbrev pub Stays : Shared V Posted CoreView → Option (Pass V Posted CoreView K) → Option (Pass V Posted CoreView K) → Type 0
  Stays t old new = IsOf t new × (number_in new ≡ number_in old)

  -- each seat has a chair of this tool
  abbrev pub AllOf : Shared V Posted CoreView → List (Seat V Posted CoreView K) → Type 0
  AllOf t [] = ⊤
  AllOf t (s ∷ seats) = IsOf t s.chair × AllOf t seats

-- The host actor did its work in the seats of reader and writer, and gave their chairs back; how it ended stands in the reader's. At no
-- other end than Door did the door fail.
pub record HostWorked {V : Type 0} {K : Ghosts V Posted CoreView} {L : Type 0} (told : L → LinkTold) (t : Shared V Posted CoreView) (door door' : DoorTold L) (r r' w w' : Seat V Posted CoreView K) (bytes bytes' : List SessionBytes) : Type 0 where
  pub reader : Stays t r.chair r'.chair
  pub writer : Stays t w.chair w'.chair
  pub did : Hosted told door door' (posts_in r.chair) (posts_in r'.chair) (posts_in w.chair) (posts_in w'.chair) bytes bytes' r'.end
  pub unfailed : r'.end ≢ end.Door → door'.faults ≡ door.faults

-- each module did its work, the first of which has this number
abbrev pub AllWorked : {V : Type 0} {K : Ghosts V Posted CoreView} → Shared V Posted CoreView → ℕ → List (Seat V Posted CoreView K) → List (Seat V Posted CoreView K) → Type 0
AllWorked t m [] [] = ⊤
AllWorked t m (s ∷ old) (r ∷ new) = Stays t s.chair r.chair × Worked m (posts_in s.chair) (posts_in r.chair) r.end × AllWorked t (suc m) old new
AllWorked t m [] (r ∷ new) = ⊥
AllWorked t m (s ∷ old) [] = ⊥
