-- What the history of a run has of each actor (this tool's profile, serving).
use Rattle.std.specs.Prelude.{◌≡◌, ◌≢◌, ℕ, ◌+◌, ◌≤◌, suc, ⊤, List, [], ◌∷◌, length}
use Rattle.tool_events.specs.declared.config.Config.{Config}
use Rattle.tool_events.specs.declared.entry.Entry.{Entry}
use Rattle.tool_events.specs.declared.entry.Post.{Post}
use Rattle.tool_lock.specs.Turned.{own}
use Rattle.gem_model.specs.State.{State, opening}
use Rattle.gem_model.specs.Sizes.{bytes_of}
use Rattle.history_laws.specs.Recorded.{Recorded}
use Rattle.shared_tool.specs.Posts.{posted_in}
use Rattle.shared_tool.specs.Seats.{posts_of}
use Rattle.actors.specs.declared.end.ActorEnd.{ActorEnd}
use Rattle.actors.specs.declared.end.ActorEnd.TheVariants as end
use Rattle.actors.specs.Times.{TimeDid}
use Rattle.host_actor.specs.declared.bytes.SessionBytes.{SessionBytes}
use Rattle.host_actor.specs.Links.{LinkTold}
use Rattle.tool_crew.specs.declared.ends.Ends.{Ends}
use Rattle.tool_crew.specs.Crews.{Outside, first_end}
use Rattle.tool_crew.specs.Doings.{Hosted, Operated, Worked}

-- what a seat posted in a history, in order, each with its answer
abbrev pub posts_at : ℕ → Config → List Entry → List Post
posts_at seat c history = posts_of (own (λ e. e.seat) seat (posted_in c history))

-- how many modules the tool has
abbrev pub modules_of : Config → ℕ
modules_of c = length (opening c).floor.modules

-- each module did its work, the first of which has this number, and ended so
abbrev pub AllModules : Config → List Entry → ℕ → List ActorEnd → Type 0
AllModules c history m [] = ⊤
AllModules c history m (e ∷ ends) = Worked m [] (posts_at (3 + m) c history) e × AllModules c history (suc m) ends

-- so did all modules, and this is the first of their ends that isn't Quit
pub record ModulesDid (c : Config) (history : List Entry) (e : ActorEnd) : Type 0 where
  pub ends : List ActorEnd
  pub all : length ends ≡ modules_of c
  pub worked : AllModules c history 1 ends
  pub first : e ≡ first_end ends

-- What a run of all actors left, for every order of their turns. The seats are 0 of the reader, 1 of the writer, 2 of the operator, 3 of
-- the clock, and 3 + m of module m, the first module being 1.
pub record RunDid {L : Type 0} (told : L → LinkTold) (out out' : Outside L) (c : Config) (history : List Entry) (sessions : List SessionBytes) (script_bytes : ℕ) (ends : Ends) : Type 0 where
  -- All that is recorded holds of the history: it is a run of the tables from the first state, its notes are those that were
  -- reported, each with one fate and sent in order, and so on.
  pub state : State
  pub recorded : Recorded c history state
  -- It is within the limits.
  pub entries_fit : length history ≤ c.max_entries
  pub bytes_fit : bytes_of history ≤ c.max_bytes
  -- What each actor posted is what the history has of its seat, and no entry has another seat.
  pub host : Hosted told out.door out'.door [] (posts_at 0 c history) [] (posts_at 1 c history) [] sessions ends.host
  pub operator : Operated out.script out'.script [] (posts_at 2 c history) script_bytes ends.operator
  pub clock : TimeDid out.moments out'.moments [] (posts_at 3 c history) ends.clock
  pub modules : ModulesDid c history ends.modules
  pub others : (seat : ℕ) → 4 + modules_of c ≤ seat → posts_at seat c history ≡ []
  -- At no other end did the door fail, or a read of the script.
  pub door_unfailed : ends.host ≢ end.Door → out'.door.faults ≡ out.door.faults
  pub script_unfailed : ends.operator ≢ end.ReadFault → out'.script.faults ≡ out.script.faults
