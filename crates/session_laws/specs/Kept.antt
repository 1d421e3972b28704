-- What the history of a run has of each session of the host (this tool's profile, sessions and serving).
use Rattle.std.specs.Prelude.{◌≡◌, ◌≢◌, ◌⊎◌, ℕ, suc, ◌+◌, ◌==◌, ◌-◌, ◌^◌, ◌≤◌, min, ⊤, true, if◌then◌else◌, List, [], ◌∷◌, ◌++◌, length, map}
use Rattle.std.specs.List.{flat_map}
use Rattle.outside.specs.Counts.{Failed}
use Rattle.outside.specs.Told.{Taken, Written}
use Rattle.hsms_frame.specs.declared.frame.Arrival.{Arrival}
use Rattle.hsms_frame.specs.Cut.{arrivals_of}
use Rattle.tool_events.specs.Sizes.{text_bytes}
use Rattle.tool_events.specs.declared.config.Config.{Config}
use Rattle.tool_events.specs.declared.entry.Entry.{Entry}
use Rattle.tool_events.specs.declared.event.Event.{Event}
use Rattle.tool_events.specs.declared.event.Event.TheVariants as event
use Rattle.gem_model.specs.State.{opening}
use Rattle.gem_model.specs.Sessions.{session_out}
use Rattle.actors.specs.declared.end.ActorEnd.TheVariants as end
use Rattle.actors.specs.Ends.{LastEnded}
use Rattle.host_actor.specs.declared.bytes.SessionBytes.{SessionBytes}
use Rattle.host_actor.specs.Links.{LinkTold, DoorTold, AllGiven, AllBack, raised}
use Rattle.host_actor.specs.Sessions.{Session, all_bytes}

-- the message of this session that an event is
abbrev pub arrival_of : ℕ → Event → List Arrival
arrival_of k (event.Host session arrival) = if session == k then arrival ∷ [] else []
arrival_of k _ = []

-- the messages that a history has of this session, in order
abbrev pub session_in : List Entry → ℕ → List Arrival
session_in history k = flat_map (λ (e : Entry). arrival_of k e.event) history

-- The history has of a session of this number what its link told. The bytes that were read are cut to messages, of which a front
-- came, and all of them unless one was answered Ended or the reader ended otherwise than with Quit. The bytes that were written are
-- a front of the frames that went out, and all of them unless the link failed. Both are counted.
pub record KeptSession {L : Type 0} (told : L → LinkTold) (c : Config) (history : List Entry) (k : ℕ) (s : Session L) : Type 0 where
  pub numbered : s.number ≡ k
  pub bytes : List ℕ
  pub read : Taken (told s.given).left (told s.back).left bytes
  pub rest : List Arrival
  pub arrived : arrivals_of text_bytes bytes ≡ session_in history k ++ rest
  pub all_came : (rest ≡ []) ⊎ LastEnded s.reads ⊎ (s.reader ≢ end.Quit)
  pub read_count : s.read ≡ min (length bytes) (2 ^ 64 - 1)
  pub written : List ℕ
  pub lost : List ℕ
  pub went_out : session_out (opening c) history k ≡ written ++ lost
  pub wrote : Written (told s.given).held (told s.back).held written
  pub all_out : (lost ≡ []) ⊎ Failed (told s.given).write_faults (told s.back).write_faults (told s.given).refusals (told s.back).refusals
  pub written_count : s.written ≡ min (length written) (2 ^ 64 - 1)
  pub shut : (told s.back).is_shut ≡ true

-- so it has of each of these sessions, the first of which has this number
abbrev pub EachKept : {L : Type 0} → (L → LinkTold) → Config → List Entry → ℕ → List (Session L) → Type 0
EachKept told c history k [] = ⊤
EachKept told c history k (s ∷ sessions) = KeptSession told c history k s × EachKept told c history (suc k) sessions

-- The sessions of a run, in order. The first has number 1, and the history has of each what its link told. Their links were those that
-- the door gave, one after another, and each was handed back behind its session; behind them came at most one link more, with which
-- no session began, and which was handed back too. The bytes of each session were noted.
pub record SessionsKept {L : Type 0} (told : L → LinkTold) (c : Config) (history : List Entry) (door door' : DoorTold L) (noted : List SessionBytes) : Type 0 where
  pub all : List (Session L)
  pub unmade : List L
  pub few : length unmade ≤ 1
  pub kept : EachKept told c history 1 all
  pub given : AllGiven (map (λ (s : Session L). s.given) all ++ unmade) door.left door'.left
  pub back : AllBack (map (λ (s : Session L). s.back) all ++ unmade) door.backs door'.backs
  pub links : door'.links ≡ raised door.links (length all + length unmade)
  pub are_noted : noted ≡ all_bytes all
