-- A session of the host: a link, what was posted at two desks, and how its reader and its writer ended (this tool's profile, serving).
use Rattle.std.specs.Prelude.{◌≡◌, ℕ, ⊤, true, List, [], ◌∷◌, ◌++◌, map}
use Rattle.outside.specs.Counts.{Failed}
use Rattle.tool_events.specs.declared.entry.Post.{Post}
use Rattle.tool_events.specs.declared.event.Event.{Event}
use Rattle.tool_events.specs.declared.event.Event.TheVariants as event
use Rattle.tool_events.specs.declared.answer.Answer.{Answer}
use Rattle.tool_events.specs.declared.answer.Answer.TheVariants as answer
use Rattle.actors.specs.declared.end.ActorEnd.{ActorEnd}
use Rattle.actors.specs.declared.end.ActorEnd.TheVariants as end
use Rattle.actors.specs.Reads.{ReaderCounts, ReaderDid}
use Rattle.actors.specs.Writes.{WriterDid}
use Rattle.host_actor.specs.declared.bytes.SessionBytes.{SessionBytes}
use Rattle.host_actor.specs.Links.{LinkTold}

-- an event that the host actor posted, with its answer: it reads no clock
abbrev pub post_of : Event → Answer → Post
post_of e a = record { at = record { 0 = 0 }; event = e; answer = a }

-- A session: its number; its link as the door gave it and as it was handed back; what its reader posted and its writer; how many
-- bytes each read or wrote; and how both ended.
pub record Session (L : Type 0) : Type 0 where
  pub number : ℕ
  pub given : L
  pub back : L
  pub reads : List Post
  pub writes : List Post
  pub read : ℕ
  pub written : ℕ
  pub reader : ActorEnd
  pub writer : ActorEnd

-- Its reader and its writer did what they do on this link, and at the end it was shut. The counts are those of its reader's desk
-- and of its way in, before and after.
pub record IsSession {L : Type 0} (told : L → LinkTold) (s : Session L) : Type 0 where
  pub before : ReaderCounts
  pub after : ReaderCounts
  pub begins : (before.faults ≡ (told s.given).read_faults) × (before.ends ≡ (told s.given).ends)
  pub ends : (after.faults ≡ (told s.back).read_faults) × (after.ends ≡ (told s.back).ends)
  pub read : ReaderDid s.number (told s.given).left (told s.back).left before after [] s.reads s.read s.reader
  pub wrote : WriterDid s.number (Failed (told s.given).write_faults (told s.back).write_faults (told s.given).refusals (told s.back).refusals)
      (told s.given).held (told s.back).held [] s.writes s.written s.writer
  pub shut : (told s.back).is_shut ≡ true

-- each of them is one
abbrev pub AreSessions : {L : Type 0} → (L → LinkTold) → List (Session L) → Type 0
AreSessions told [] = ⊤
AreSessions told (s ∷ sessions) = IsSession told s × AreSessions told sessions

-- the host actor goes on behind a session where both of its actors ended with Quit
abbrev pub GoesOn : {L : Type 0} → Session L → Type 0
GoesOn s = (s.reader ≡ end.Quit) × (s.writer ≡ end.Quit)

abbrev pub AllGoOn : {L : Type 0} → List (Session L) → Type 0
AllGoOn [] = ⊤
AllGoOn (s ∷ sessions) = GoesOn s × AllGoOn sessions

-- and else it ends as its reader did, or where that is with Quit, as its writer did
abbrev pub end_behind : ActorEnd → ActorEnd → ActorEnd
end_behind end.Quit writer = writer
end_behind reader writer = reader

-- what was posted at the reader's desk in these sessions: that the link came up, and what the reader posted
abbrev pub all_reads : {L : Type 0} → List (Session L) → List Post
all_reads [] = []
all_reads (s ∷ sessions) = post_of event.LinkUp (answer.Session s.number) ∷ (s.reads ++ all_reads sessions)

-- what was posted at the writer's desk in these sessions
abbrev pub all_writes : {L : Type 0} → List (Session L) → List Post
all_writes [] = []
all_writes (s ∷ sessions) = s.writes ++ all_writes sessions

-- the bytes of these sessions
abbrev pub all_bytes : {L : Type 0} → List (Session L) → List SessionBytes
all_bytes {L} sessions = map (λ (s : Session L). record { session = s.number; read = s.read; written = s.written }) sessions
