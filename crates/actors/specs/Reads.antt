-- What the reader of a session did (this tool's profile, serving).
use Rattle.std.specs.Prelude.{◌≡◌, ◌⊎◌, ℕ, ◌-◌, ◌^◌, min, true, List, [], ◌∷◌, ◌++◌, length, map, Option}
use Rattle.outside.specs.Counts.{Rose}
use Rattle.outside.specs.Told.{Taken, Whole}
use Rattle.hsms_frame.specs.declared.frame.Arrival.{Arrival}
use Rattle.hsms_frame.specs.Cut.{arrivals_of, behind_of, is_short}
use Rattle.tool_events.specs.Sizes.{text_bytes}
use Rattle.tool_events.specs.declared.entry.Post.{Post}
use Rattle.tool_events.specs.declared.event.Event.TheVariants as event
use Rattle.tool_events.specs.declared.event.SessionCause.{SessionCause}
use Rattle.tool_events.specs.declared.event.SessionCause.TheVariants as cause
use Rattle.actors.specs.Ends.{ArePosted, LastEnded, NoneBehindEnded, IsRefused, QuitPosted, QuitPostedOr, RoseTwice}
use Rattle.actors.specs.declared.end.ActorEnd.{ActorEnd}
use Rattle.actors.specs.declared.end.ActorEnd.TheVariants as end

-- what a desk and the way in of a link tell beside posts and bytes: how often posts were answered Full and NoMemory, and how
-- often reads failed and were answered 0
pub record ReaderCounts : Type 0 where
  pub fulls : ℕ
  pub wants : ℕ
  pub faults : ℕ
  pub ends : ℕ

-- the counts of a desk and of the way in of a link
abbrev pub reader_counts : {D L : Type 0} → (D → ℕ) → (D → ℕ) → (L → ℕ) → (L → ℕ) → D → L → ReaderCounts
reader_counts fulls wants faults ends desk link =
    record { fulls = fulls desk; wants = wants desk; faults = faults link; ends = ends link }

-- why the reader saw the session end: the peer closed the link, behind all bytes; a read failed; or a length below 10 came
abbrev pub LinkEnds : SessionCause → List ℕ → Option (List ℕ) → ReaderCounts → ReaderCounts → Type 0
LinkEnds cause.PeerEnd bytes left before after = Whole left bytes × Rose before.ends after.ends
LinkEnds cause.ReadFault bytes left before after = Rose before.faults after.faults
LinkEnds cause.ShortLength bytes left before after = is_short (behind_of bytes) ≡ true
LinkEnds _ bytes left before after = ⊥

-- the reader ended where it told that a read failed, or where a post was refused
abbrev pub FaultTold : ℕ → List Post → ActorEnd → Type 0
FaultTold session posts e =
    ((e ≡ end.Quit) × (before : List Post) × (p : Post) × (posts ≡ before ++ p ∷ []) × (p.event ≡ event.LinkDown session cause.ReadFault))
    ⊎ IsRefused e

-- How it ended: the link ended, after all that arrived, which it told, unless that was refused; or a message was answered
-- Ended; or one was answered Full, behind which it ends the run, unless that was refused too; or one was answered NoMemory;
-- or it had no memory of its own, behind which it ends the run too.
abbrev pub ReaderEnds : ℕ → List ℕ → Option (List ℕ) → ReaderCounts → ReaderCounts → List Arrival → List Post → List Post → ActorEnd → Type 0
ReaderEnds session bytes left before after rest hosts behind e =
    ((why : SessionCause) × (rest ≡ []) × LinkEnds why bytes left before after
    × (((e ≡ end.Quit) × ArePosted (event.LinkDown session why ∷ []) behind) ⊎ ((behind ≡ []) × IsRefused e)))
    ⊎ ((behind ≡ []) × (e ≡ end.Quit) × LastEnded hosts)
    ⊎ ((e ≡ end.Full) × (QuitPosted behind ⊎ ((behind ≡ []) × (RoseTwice before.fulls after.fulls ⊎ Rose before.wants after.wants))))
    ⊎ ((e ≡ end.NoMemory) × QuitPostedOr before.fulls after.fulls before.wants after.wants behind)

-- Its new posts are the messages that arrived, in their order: all that the bytes make whole, unless one of them was answered
-- Ended or refused, or memory ran out (SEMI E37, message format).
pub record ReaderDid (session : ℕ) (left left' : Option (List ℕ)) (before after : ReaderCounts) (posts posts' : List Post) (count : ℕ) (e : ActorEnd) : Type 0 where
  pub bytes : List ℕ
  pub read : Taken left left' bytes
  pub counted : count ≡ min (length bytes) (2 ^ 64 - 1)
  pub given : List Arrival
  pub rest : List Arrival
  pub arrived : arrivals_of text_bytes bytes ≡ given ++ rest
  pub hosts : List Post
  pub behind : List Post
  pub grew : posts' ≡ posts ++ hosts ++ behind
  pub are_hosts : ArePosted (map (λ arrival. event.Host session arrival) given) hosts
  pub no_more : NoneBehindEnded (hosts ++ behind)
  pub ends : ReaderEnds session bytes left before after rest hosts behind e
