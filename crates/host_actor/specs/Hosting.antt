-- What the host actor did, from the first link to its end (this tool's profile, serving).
use Rattle.std.specs.Prelude.{◌≡◌, ◌≢◌, ◌⊎◌, ℕ, ◌+◌, ◌<◌, List, [], ◌∷◌, ◌++◌, length, map}
use Rattle.outside.specs.Counts.{Rose}
use Rattle.tool_events.specs.declared.entry.Post.{Post}
use Rattle.tool_events.specs.declared.event.Event.TheVariants as event
use Rattle.tool_events.specs.declared.answer.Answer.TheVariants as answer
use Rattle.actors.specs.declared.end.ActorEnd.{ActorEnd}
use Rattle.actors.specs.declared.end.ActorEnd.TheVariants as end
use Rattle.actors.specs.Ends.{QuitPosted}
use Rattle.host_actor.specs.declared.bytes.SessionBytes.{SessionBytes}
use Rattle.host_actor.specs.Links.{LinkTold, DoorTold, AllGiven, AllBack, raised}
use Rattle.host_actor.specs.Sessions.{Session, AreSessions, AllGoOn, end_behind, post_of, all_reads, all_writes, all_bytes}

-- what came behind the sessions behind which it went on: no link, a link with which no session began, or one session more, behind
-- which it ended
pub data LastLink (L : Type 0) : Type 0 where
  NoLink : LastLink L
  Unmade : L → LastLink L
  Broke : Session L → LastLink L

-- the link that was given last, and as it was handed back
abbrev pub last_given : {L : Type 0} → LastLink L → List L
last_given NoLink = []
last_given (Unmade link) = link ∷ []
last_given (Broke s) = s.given ∷ []

abbrev pub last_back : {L : Type 0} → LastLink L → List L
last_back NoLink = []
last_back (Unmade link) = link ∷ []
last_back (Broke s) = s.back ∷ []

-- the session that came last
abbrev pub last_session : {L : Type 0} → LastLink L → List (Session L)
last_session NoLink = []
last_session (Unmade link) = []
last_session (Broke s) = s ∷ []

-- a post of the reader's desk was refused ever: how often one was answered Full, and how often NoMemory
abbrev pub WasRefused : ℕ → ℕ → Type 0
WasRefused fulls wants = (0 < fulls) ⊎ (0 < wants)

-- it ended the run, unless that was refused
abbrev pub EndsRun : ℕ → ℕ → List Post → Type 0
EndsRun fulls wants behind = QuitPosted behind ⊎ ((behind ≡ []) × WasRefused fulls wants)

-- no link came up, or none with which a session began
abbrev pub NoneBroke : {L : Type 0} → LastLink L → Type 0
NoneBroke last = last_session last ≡ []

-- the last session ended the host actor so
abbrev pub BrokeWith : {L : Type 0} → LastLink L → List Post → ActorEnd → Type 0
BrokeWith (Broke s) behind e = (behind ≡ []) × (e ≡ end_behind s.reader s.writer) × (e ≢ end.Quit)
BrokeWith NoLink behind e = ⊥
BrokeWith (Unmade link) behind e = ⊥

-- How it ended. Quit: that a link came up, or the look at the run behind NotYet and Closed, was answered Ended. Door: the door failed,
-- or it was closed while the run had not ended; it ends the run. Full and NoMemory: such a post was refused so, or the last
-- session ended it; or it had no memory of its own, and ends the run. What is told of the desk is the reader's.
abbrev pub HostEnds : {L : Type 0} → ActorEnd → DoorTold L → DoorTold L → ℕ → ℕ → LastLink L → List Post → Type 0
HostEnds {L} end.Quit door door' fulls wants last behind =
    ((link : L) × (last ≡ Unmade link) × (behind ≡ post_of event.LinkUp answer.Ended ∷ []))
    ⊎ ((last ≡ NoLink) × (behind ≡ post_of event.Listen answer.Ended ∷ []) × (Rose door.waits door'.waits ⊎ Rose door.closings door'.closings))
HostEnds end.Door door door' fulls wants last behind =
    (last ≡ NoLink) × (Rose door.faults door'.faults ⊎ Rose door.closings door'.closings) × EndsRun fulls wants behind
HostEnds end.Full door door' fulls wants last behind =
    (NoneBroke last × (behind ≡ []) × (0 < fulls)) ⊎ BrokeWith last behind end.Full
HostEnds end.NoMemory door door' fulls wants last behind =
    (NoneBroke last × (behind ≡ []) × (0 < wants)) ⊎ BrokeWith last behind end.NoMemory ⊎ ((last ≡ NoLink) × EndsRun fulls wants behind)
HostEnds end.ReadFault door door' fulls wants last behind = ⊥
HostEnds (end.Line number place) door door' fulls wants last behind = ⊥

-- Its sessions are those of the links that the door gave, one after another, and each link was handed back behind its session. At the
-- reader's desk stand that each link came up and what its reader posted, and behind them at most one post more; at the writer's desk
-- stands what the writers posted. The bytes of each session were noted. The counts are those of the reader's desk in the end: how
-- often a post was answered Full, and NoMemory.
pub record HostDid {L : Type 0} (told : L → LinkTold) (door door' : DoorTold L) (fulls wants : ℕ) (posts posts' writes writes' : List Post) (bytes bytes' : List SessionBytes) (e : ActorEnd) : Type 0 where
  pub went : List (Session L)
  pub last : LastLink L
  pub behind : List Post
  pub sessions : AreSessions told (went ++ last_session last)
  pub went_on : AllGoOn went
  pub given : AllGiven (map (λ (s : Session L). s.given) went ++ last_given last) door.left door'.left
  pub back : AllBack (map (λ (s : Session L). s.back) went ++ last_back last) door.backs door'.backs
  pub port : door'.port ≡ door.port
  pub links : door'.links ≡ raised door.links (length went + length (last_given last))
  pub grew : posts' ≡ posts ++ (all_reads (went ++ last_session last) ++ behind)
  pub wrote : writes' ≡ writes ++ all_writes (went ++ last_session last)
  pub noted : bytes' ≡ bytes ++ all_bytes (went ++ last_session last)
  pub ends : HostEnds e door door' fulls wants last behind
