-- What the steps of the reader of a session did (this tool's profile, serving).
use Rattle.std.specs.Prelude.{◌≡◌, ◌⊎◌, ℕ, ◌-◌, ◌^◌, min, ⊤, true, List, [], ◌∷◌, ◌++◌, length, map, Option, Result, Ok, Err}
use Rattle.outside.specs.Counts.{one_more}
use Rattle.outside.specs.Told.{Taken}
use Rattle.hsms_frame.specs.declared.frame.Arrival.{Arrival}
use Rattle.hsms_frame.specs.Cut.{Kept, IsCutOf, arrivals_of, behind_of, is_short}
use Rattle.tool_events.specs.Sizes.{text_bytes}
use Rattle.tool_events.specs.declared.entry.Post.{Post}
use Rattle.tool_events.specs.declared.event.Event.{Event}
use Rattle.tool_events.specs.declared.event.Event.TheVariants as event
use Rattle.tool_events.specs.declared.event.SessionCause.{SessionCause}
use Rattle.tool_events.specs.declared.event.SessionCause.TheVariants as cause
use Rattle.actors.specs.Ends.{ArePosted, LastEnded, NoneEnded, NoneBehindEnded, QuitPosted}
use Rattle.actors.specs.Reads.{ReaderCounts, LinkEnds}
use Rattle.actors.specs.declared.end.ActorEnd.{ActorEnd}
use Rattle.actors.specs.declared.end.ActorEnd.TheVariants as end
use Rattle.actors.specs.declared.reader.ReadStop.{ReadStop}
use Rattle.actors.specs.declared.reader.ReadStop.TheVariants as stop

-- these messages of the session, as events
abbrev pub host_events : ℕ → List Arrival → List Event
host_events session arrivals = map (λ arrival. event.Host session arrival) arrivals

-- How posting messages ended, by what the last one was answered; the counts of Full and NoMemory, each before and after.
-- The rest were not posted.
abbrev pub MessagesEnd : ℕ → ℕ → ℕ → ℕ → List Arrival → List Post → Result (Unit {0}) ReadStop → Type 0
MessagesEnd fulls fulls' wants wants' rest hosts (Ok done) =
    (rest ≡ []) × NoneEnded hosts × (fulls' ≡ fulls) × (wants' ≡ wants)
MessagesEnd fulls fulls' wants wants' rest hosts (Err (stop.Down why)) =
    (rest ≡ []) × NoneEnded hosts × (fulls' ≡ fulls) × (wants' ≡ wants)
MessagesEnd fulls fulls' wants wants' rest hosts (Err stop.Ended) = LastEnded hosts × NoneBehindEnded hosts
MessagesEnd fulls fulls' wants wants' rest hosts (Err stop.Full) =
    NoneEnded hosts × (fulls' ≡ one_more fulls) × (wants' ≡ wants)
MessagesEnd fulls fulls' wants wants' rest hosts (Err stop.NoMemory) = NoneEnded hosts × (wants' ≡ one_more wants)
MessagesEnd fulls fulls' wants wants' rest hosts (Err stop.Uncut) =
    NoneEnded hosts × (fulls' ≡ fulls) × (wants' ≡ wants)

-- Messages of the session were posted in their order, a front of these.
pub record MessagesPosted (session : ℕ) (arrivals : List Arrival) (fulls fulls' wants wants' : ℕ) (posts posts' : List Post) (how : Result (Unit {0}) ReadStop) : Type 0 where
  pub given : List Arrival
  pub rest : List Arrival
  pub arrived : arrivals ≡ given ++ rest
  pub hosts : List Post
  pub grew : posts' ≡ posts ++ hosts
  pub are_hosts : ArePosted (host_events session given) hosts
  pub ends : MessagesEnd fulls fulls' wants wants' rest hosts how

-- the cutter has cut the stream into its arrivals, and keeps what is behind them
abbrev pub IsCut : List ℕ → Kept → Type 0
IsCut stream kept = (kept.max ≡ text_bytes) × IsCutOf stream (arrivals_of text_bytes stream) kept

-- what is known of the stream behind a piece: it is cut, or the session ends for a length below 10
abbrev pub StreamStands : List ℕ → Kept → Result (Unit {0}) ReadStop → Type 0
StreamStands stream kept (Ok done) = IsCut stream kept
StreamStands stream kept (Err (stop.Down why)) = (why ≡ cause.ShortLength) × (is_short (behind_of stream) ≡ true)
StreamStands stream kept (Err stop.Ended) = ⊤
StreamStands stream kept (Err stop.Full) = ⊤
StreamStands stream kept (Err stop.NoMemory) = ⊤
StreamStands stream kept (Err stop.Uncut) = ⊤

-- the next bytes behind a stream were cut, and what they make whole was posted
pub record PieceTaken (session : ℕ) (stream bytes : List ℕ) (kept : Kept) (fulls fulls' wants wants' : ℕ) (posts posts' : List Post) (how : Result (Unit {0}) ReadStop) : Type 0 where
  pub arrivals : List Arrival
  pub more : arrivals_of text_bytes (stream ++ bytes) ≡ arrivals_of text_bytes stream ++ arrivals
  pub posted : MessagesPosted session arrivals fulls fulls' wants wants' posts posts' how
  pub stands : StreamStands (stream ++ bytes) kept how

-- what is known of the link where the reader stopped
abbrev pub LinkStops : List ℕ → Option (List ℕ) → ReaderCounts → ReaderCounts → ReadStop → Type 0
LinkStops bytes left before after (stop.Down why) = LinkEnds why bytes left before after
LinkStops bytes left before after stop.Ended = ⊤
LinkStops bytes left before after stop.Full = ⊤
LinkStops bytes left before after stop.NoMemory = ⊤
LinkStops bytes left before after stop.Uncut = ⊤

-- the link was read, and what arrived was posted, until the reader stopped
pub record MessagesRead (session : ℕ) (left left' : Option (List ℕ)) (before after : ReaderCounts) (posts posts' : List Post) (count : ℕ) (why : ReadStop) : Type 0 where
  pub bytes : List ℕ
  pub read : Taken left left' bytes
  pub counted : count ≡ min (length bytes) (2 ^ 64 - 1)
  pub posted : MessagesPosted session (arrivals_of text_bytes bytes) before.fulls after.fulls before.wants after.wants posts posts' (Err why)
  pub link : LinkStops bytes left before after why

-- the end of the run was posted, or its post was answered Full or NoMemory
abbrev pub QuitEnds : ℕ → ℕ → ℕ → ℕ → List Post → Type 0
QuitEnds fulls fulls' wants wants' behind =
    (QuitPosted behind × (fulls' ≡ fulls))
    ⊎ ((behind ≡ []) × (fulls' ≡ one_more fulls))
    ⊎ ((behind ≡ []) × (fulls' ≡ fulls) × (wants' ≡ one_more wants))

-- the end of the run was posted, if it was taken
pub record QuitTried (fulls fulls' wants wants' : ℕ) (posts posts' : List Post) : Type 0 where
  pub behind : List Post
  pub grew : posts' ≡ posts ++ behind
  pub ends : QuitEnds fulls fulls' wants wants' behind

-- the session's end was posted, or its post was answered Full or NoMemory
abbrev pub DownEnds : ℕ → SessionCause → ℕ → ℕ → List Post → ActorEnd → Type 0
DownEnds session why fulls fulls' behind e =
    ((e ≡ end.Quit) × ArePosted (event.LinkDown session why ∷ []) behind)
    ⊎ ((behind ≡ []) × (e ≡ end.Full) × (fulls' ≡ one_more fulls))
    ⊎ ((behind ≡ []) × (e ≡ end.NoMemory))

-- the session's end was posted, if it was taken
pub record DownTried (session : ℕ) (why : SessionCause) (fulls fulls' : ℕ) (posts posts' : List Post) (e : ActorEnd) : Type 0 where
  pub behind : List Post
  pub grew : posts' ≡ posts ++ behind
  pub ends : DownEnds session why fulls fulls' behind e

-- what the reader posted behind its last message, by why it stopped, and how it ended
abbrev pub StopEnds : ℕ → ReadStop → ℕ → ℕ → ℕ → ℕ → List Post → ActorEnd → Type 0
StopEnds session (stop.Down why) fulls fulls' wants wants' behind e = DownEnds session why fulls fulls' behind e
StopEnds session stop.Ended fulls fulls' wants wants' behind e = (behind ≡ []) × (e ≡ end.Quit)
StopEnds session stop.Full fulls fulls' wants wants' behind e = (e ≡ end.Full) × QuitEnds fulls fulls' wants wants' behind
StopEnds session stop.NoMemory fulls fulls' wants wants' behind e = (behind ≡ []) × (e ≡ end.NoMemory) × (wants' ≡ wants)
StopEnds session stop.Uncut fulls fulls' wants wants' behind e = (e ≡ end.NoMemory) × QuitEnds fulls fulls' wants wants' behind

-- it was posted
pub record StopTold (session : ℕ) (why : ReadStop) (fulls fulls' wants wants' : ℕ) (posts posts' : List Post) (e : ActorEnd) : Type 0 where
  pub behind : List Post
  pub grew : posts' ≡ posts ++ behind
  pub ends : StopEnds session why fulls fulls' wants wants' behind e
