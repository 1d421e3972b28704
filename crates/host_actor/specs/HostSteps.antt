-- What the steps of the host actor did (this tool's profile, serving).
use Rattle.std.specs.Prelude.{◌≡◌, ◌≢◌, ◌⊎◌, ℕ, ◌-◌, ◌^◌, ◌<◌, ◌≤◌, ⊤, true, List, [], ◌∷◌, ◌++◌, length, map, Some, Result, Ok, Err}
use Rattle.outside.specs.Counts.{Counted, one_more}
use Rattle.outside.specs.Told.{Given, Grew}
use Rattle.tool_events.specs.declared.entry.Post.{Post}
use Rattle.tool_events.specs.declared.event.Event.TheVariants as event
use Rattle.tool_events.specs.declared.answer.Answer.TheVariants as answer
use Rattle.actors.specs.declared.end.ActorEnd.{ActorEnd}
use Rattle.actors.specs.declared.end.ActorEnd.TheVariants as end
use Rattle.host_actor.specs.declared.bytes.SessionBytes.{SessionBytes}
use Rattle.host_actor.specs.Links.{LinkTold, DoorTold, AllGiven, AllBack, raised}
use Rattle.host_actor.specs.Sessions.{Session, AreSessions, GoesOn, AllGoOn, end_behind, post_of, all_reads, all_writes, all_bytes}
use Rattle.host_actor.specs.Hosting.{LastLink, NoLink, Unmade, Broke, last_given, last_back, last_session, EndsRun, HostEnds}

-- ---- what it posted itself

-- the end of the run was posted, if that was taken: the counts are those of the desk afterwards, of Full and of NoMemory
pub record RunEnded (fulls wants : ℕ) (posts posts' : List Post) : Type 0 where
  pub behind : List Post
  pub grew : posts' ≡ posts ++ behind
  pub ends : EndsRun fulls wants behind

-- it was asked whether the run has ended: it has not, or that ends the host actor
abbrev pub Listened : ℕ → ℕ → List Post → List Post → Result (Unit {0}) ActorEnd → Type 0
Listened fulls wants posts posts' (Ok done) = posts' ≡ posts
Listened fulls wants posts posts' (Err end.Quit) = posts' ≡ posts ++ post_of event.Listen answer.Ended ∷ []
Listened fulls wants posts posts' (Err end.Full) = (posts' ≡ posts) × (0 < fulls)
Listened fulls wants posts posts' (Err end.NoMemory) = (posts' ≡ posts) × (0 < wants)
Listened fulls wants posts posts' (Err _) = ⊥

-- that the door gives no more links ends the host actor so
abbrev pub ClosedEnds : ℕ → ℕ → List Post → List Post → ActorEnd → Type 0
ClosedEnds fulls wants posts posts' end.Door = RunEnded fulls wants posts posts'
ClosedEnds fulls wants posts posts' e = Listened fulls wants posts posts' (Err e)

-- it was told that a link came up: a session of this number began, or that ends the host actor
abbrev pub LinkedUp : ℕ → ℕ → List Post → List Post → Result ℕ ActorEnd → Type 0
LinkedUp fulls wants posts posts' (Ok session) = posts' ≡ posts ++ post_of event.LinkUp (answer.Session session) ∷ []
LinkedUp fulls wants posts posts' (Err end.Quit) = posts' ≡ posts ++ post_of event.LinkUp answer.Ended ∷ []
LinkedUp fulls wants posts posts' (Err end.Full) = (posts' ≡ posts) × (0 < fulls)
LinkedUp fulls wants posts posts' (Err end.NoMemory) = (posts' ≡ posts) × (0 < wants)
LinkedUp fulls wants posts posts' (Err _) = ⊥

-- ---- what it did with a link

-- the door gave this link in its last call
pub record Gave {L : Type 0} (link : L) (door door' : DoorTold L) : Type 0 where
  pub left : Given (Some link) door.left door'.left
  pub backs : door'.backs ≡ door.backs
  pub port : door'.port ≡ door.port
  pub faults : door'.faults ≡ door.faults
  pub links : Counted true door.links door'.links
  pub waits : door'.waits ≡ door.waits
  pub closings : door'.closings ≡ door.closings

-- the door took this link back in its last call
pub record TookBack {L : Type 0} (link : L) (door door' : DoorTold L) : Type 0 where
  pub backs : Grew door.backs door'.backs link
  pub left : door'.left ≡ door.left
  pub port : door'.port ≡ door.port
  pub faults : door'.faults ≡ door.faults
  pub links : door'.links ≡ door.links
  pub waits : door'.waits ≡ door.waits
  pub closings : door'.closings ≡ door.closings

-- what comes behind a session whose reader and writer ended so: it goes on, or ends
abbrev pub SessionEnds : ActorEnd → ActorEnd → Result (Unit {0}) ActorEnd → Type 0
SessionEnds reader writer (Ok done) = (reader ≡ end.Quit) × (writer ≡ end.Quit)
SessionEnds reader writer (Err e) = (e ≡ end_behind reader writer) × (e ≢ end.Quit)

-- ---- what it did in one turn

-- the count stayed, or it rose by one
abbrev pub Moved : ℕ → ℕ → Type 0
Moved before after = (after ≡ before) ⊎ (after ≡ one_more before)

-- it goes on behind no link, and behind one whose session went on
abbrev pub MayGoOn : {L : Type 0} → LastLink L → Type 0
MayGoOn NoLink = ⊤
MayGoOn (Unmade link) = ⊥
MayGoOn (Broke s) = GoesOn s

-- how a turn ended: it goes on, or ends
abbrev pub TurnEnds : {L : Type 0} → DoorTold L → DoorTold L → ℕ → ℕ → LastLink L → List Post → Result (Unit {0}) ActorEnd → Type 0
TurnEnds door door' fulls wants last behind (Ok done) =
    MayGoOn last × (behind ≡ []) × (door'.faults ≡ door.faults) × (door'.closings ≡ door.closings)
TurnEnds door door' fulls wants last behind (Err e) = HostEnds e door door' fulls wants last behind

-- In one turn the door was asked once. What came of it stands here as in the whole (`HostDid`), with the link that came up, if one did.
pub record TurnDid {L : Type 0} (told : L → LinkTold) (door door' : DoorTold L) (fulls wants : ℕ) (posts posts' writes writes' : List Post) (bytes bytes' : List SessionBytes) (result : Result (Unit {0}) ActorEnd) : Type 0 where
  pub last : LastLink L
  pub behind : List Post
  pub sessions : AreSessions told (last_session last)
  pub given : AllGiven (last_given last) door.left door'.left
  pub back : AllBack (last_back last) door.backs door'.backs
  pub port : door'.port ≡ door.port
  pub links : door'.links ≡ raised door.links (length (last_given last))
  pub waits : Moved door.waits door'.waits
  pub grew : posts' ≡ posts ++ (all_reads (last_session last) ++ behind)
  pub wrote : writes' ≡ writes ++ all_writes (last_session last)
  pub noted : bytes' ≡ bytes ++ all_bytes (last_session last)
  pub ends : TurnEnds door door' fulls wants last behind result

-- ---- what it did so far

-- the count never fell, or it stands at the greatest number that it holds
abbrev pub Climbed : ℕ → ℕ → Type 0
Climbed before after = (before ≤ after) ⊎ (after ≡ 2 ^ 64 - 1)

-- So far it went on behind each session.
pub record WentSoFar {L : Type 0} (told : L → LinkTold) (door door' : DoorTold L) (posts posts' writes writes' : List Post) (bytes bytes' : List SessionBytes) : Type 0 where
  pub went : List (Session L)
  pub sessions : AreSessions told went
  pub went_on : AllGoOn went
  pub given : AllGiven (map (λ (s : Session L). s.given) went) door.left door'.left
  pub back : AllBack (map (λ (s : Session L). s.back) went) door.backs door'.backs
  pub port : door'.port ≡ door.port
  pub links : door'.links ≡ raised door.links (length went)
  pub faults : door'.faults ≡ door.faults
  pub waits : Climbed door.waits door'.waits
  pub closings : door'.closings ≡ door.closings
  pub grew : posts' ≡ posts ++ all_reads went
  pub wrote : writes' ≡ writes ++ all_writes went
  pub noted : bytes' ≡ bytes ++ all_bytes went
