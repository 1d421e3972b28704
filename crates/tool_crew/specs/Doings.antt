-- What each actor did at a chair of its own. How often its posts were refused there, as Full and for want of memory, is not told
-- (this tool's profile, serving).
use Rattle.std.specs.Prelude.{◌≡◌, ℕ, List, [], Option, Some, None}
use Rattle.gem_ids.specs.declared.moment.Moment.{Moment}
use Rattle.tool_events.specs.declared.entry.Post.{Post}
use Rattle.sim_modules.specs.Acting.{Acting, begun}
use Rattle.actors.specs.declared.end.ActorEnd.{ActorEnd}
use Rattle.actors.specs.Operates.{OperatorDid}
use Rattle.source_lines.specs.Reads.{SourceTold}
use Rattle.actors.specs.Modules.{ModuleDid}
use Rattle.actors.specs.Times.{TimeDid}
use Rattle.host_actor.specs.declared.bytes.SessionBytes.{SessionBytes}
use Rattle.host_actor.specs.Links.{LinkTold, DoorTold}
use Rattle.host_actor.specs.Hosting.{HostDid}

-- the host actor, at the chairs of reader and writer: its door, the posts of both, and the bytes of its sessions, each before and after
pub record Hosted {L : Type 0} (told : L → LinkTold) (door door' : DoorTold L) (posts posts' writes writes' : List Post) (bytes bytes' : List SessionBytes) (e : ActorEnd) : Type 0 where
  pub fulls : ℕ
  pub wants : ℕ
  pub did : HostDid told door door' fulls wants posts posts' writes writes' bytes bytes' e

-- the operator: its script and its posts, each before and after, and how many bytes of the script were read
abbrev pub Operated : SourceTold → SourceTold → List Post → List Post → ℕ → ActorEnd → Type 0
Operated script script' posts posts' count e =
    (fulls : ℕ) × (fulls' : ℕ) × (wants : ℕ) × (wants' : ℕ) × OperatorDid script.left script'.left
    (record { fulls = fulls; wants = wants; faults = script.faults; ends = script.ends })
    (record { fulls = fulls'; wants = wants'; faults = script'.faults; ends = script'.ends })
    posts posts' count e

-- the module of this number, which answers each command by Done: its posts, before and after
abbrev pub Worked : ℕ → List Post → List Post → ActorEnd → Type 0
Worked m posts posts' e = (after : Acting) × ModuleDid (begun (record { 0 = m }) []) after posts posts' e

-- the clock behind its first look, by how that ended it, if it did: it goes on, or posts and reads nothing more
abbrev pub TimeWent : Option ActorEnd → Option (List Moment) → Option (List Moment) → List Post → List Post → ActorEnd → Type 0
TimeWent None given given' posts posts' e = TimeDid given given' posts posts' e
TimeWent (Some ended) given given' posts posts' e = (given' ≡ given) × (posts' ≡ posts) × (e ≡ ended)
