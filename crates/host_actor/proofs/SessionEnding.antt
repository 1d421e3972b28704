-- How a session ends, and what comes behind it.
use Rattle.std.proofs.Common.{◌≡◌, ◌≢◌, ◌⊎◌, inl, inr, ℕ, ◌<◌, List, [], Option, Result, Ok, Err, refl, sym, subst}
use Rattle.outside.specs.Counts.{Rose}
use Rattle.hsms_frame.specs.declared.frame.Arrival.{Arrival}
use Rattle.tool_events.specs.declared.entry.Post.{Post}
use Rattle.actors.specs.declared.end.ActorEnd.{ActorEnd}
use Rattle.actors.specs.declared.end.ActorEnd.TheVariants as end
use Rattle.actors.specs.Ends.{IsRefused}
use Rattle.actors.specs.Reads.{ReaderCounts, ReaderEnds}
use Rattle.actors.specs.Writes.{WriterEnds}
use Rattle.host_actor.specs.Links.{LinkTold, DoorTold}
use Rattle.host_actor.specs.Sessions.{Session, IsSession, end_behind}
use Rattle.host_actor.specs.Hosting.{Broke, HostEnds}
use Rattle.host_actor.specs.HostSteps.{SessionEnds, TurnEnds}
use Rattle.host_actor.proofs.Counting.{rose-some}

-- it ended with Quit, or a post was refused
abbrev pub QuitOrRefused : ActorEnd → Type 0
QuitOrRefused e = (e ≡ end.Quit) ⊎ IsRefused e

told-or-refused : (e : ActorEnd) (A B : Type 0) → ((e ≡ end.Quit) × A) ⊎ (B × IsRefused e) → QuitOrRefused e
told-or-refused e A B (inl quits) = inl quits.0
told-or-refused e A B (inr refused) = inr refused.1

reader-ends : (session : ℕ) (bytes : List ℕ) (left : Option (List ℕ)) (before after : ReaderCounts) (rest : List Arrival) (hosts behind : List Post) (e : ActorEnd)
    → ReaderEnds session bytes left before after rest hosts behind e → QuitOrRefused e
reader-ends session bytes left before after rest hosts behind e (inl down) = told-or-refused e _ _ down.3
reader-ends session bytes left before after rest hosts behind e (inr (inl ended)) = inl ended.1
reader-ends session bytes left before after rest hosts behind e (inr (inr (inl full))) = inr (inl full.0)
reader-ends session bytes left before after rest hosts behind e (inr (inr (inr want))) = inr (inr want.0)

quits-or-refused : (e : ActorEnd) (A : Type 0) → ((e ≡ end.Quit) × A) ⊎ IsRefused e → QuitOrRefused e
quits-or-refused e A (inl quits) = inl quits.0
quits-or-refused e A (inr refused) = inr refused

writer-ends : (session : ℕ) (F : Type 0) (takes downs : List Post) (lost : List ℕ) (e : ActorEnd)
    → WriterEnds session F takes downs lost e → QuitOrRefused e
writer-ends session F takes downs lost e (inl whole) = quits-or-refused e _ whole.2
writer-ends session F takes downs lost e (inr failed) = told-or-refused e _ _ failed.1

behind-ends : (reader writer : ActorEnd) → QuitOrRefused reader → QuitOrRefused writer → QuitOrRefused (end_behind reader writer)
behind-ends end.Quit writer r w = w
behind-ends end.Full writer r w = r
behind-ends end.NoMemory writer r w = r
behind-ends end.ReadFault writer r w = r
behind-ends (end.Line number place) writer r w = r
behind-ends end.Door writer r w = r

-- which of both it was that ended with Full
pub behind-full : (reader writer : ActorEnd) → end.Full ≡ end_behind reader writer → (reader ≡ end.Full) ⊎ (writer ≡ end.Full)
behind-full end.Quit writer is = inr (sym is)
behind-full end.Full writer is = inl refl
behind-full end.NoMemory writer is = inl (sym is)
behind-full end.ReadFault writer is = inl (sym is)
behind-full (end.Line number place) writer is = inl (sym is)
behind-full end.Door writer is = inl (sym is)

full-of-two : (reader writer : ActorEnd) (fulls fulls' full full' : ℕ) → (reader ≡ end.Full → Rose fulls fulls') → (writer ≡ end.Full → Rose full full')
    → (reader ≡ end.Full) ⊎ (writer ≡ end.Full) → (0 < fulls') ⊎ (0 < full')
full-of-two reader writer f f' w w' rf wf (inl is) = inl (rose-some f f' (rf is))
full-of-two reader writer f f' w w' rf wf (inr is) = inr (rose-some w w' (wf is))

-- a post of one of both was answered Full
pub session-full : (reader writer : ActorEnd) (result : Result (Unit {0}) ActorEnd) (fulls fulls' full full' : ℕ) → SessionEnds reader writer result
    → (reader ≡ end.Full → Rose fulls fulls') → (writer ≡ end.Full → Rose full full') → result ≡ Err end.Full → (0 < fulls') ⊎ (0 < full')
session-full reader writer result f f' w w' ends rf wf is =
    let full : SessionEnds reader writer (Err end.Full) = subst (λ (x : Result (Unit {0}) ActorEnd). SessionEnds reader writer x) is ends in
    full-of-two reader writer f f' w w' rf wf (behind-full reader writer full.0)

-- behind a reader that ended otherwise than with Quit, it ends as that did
pub behind-other : (reader writer : ActorEnd) → reader ≢ end.Quit → reader ≡ end_behind reader writer
behind-other end.Quit writer other = absurd (other refl)
behind-other end.Full writer other = refl
behind-other end.NoMemory writer other = refl
behind-other end.ReadFault writer other = refl
behind-other (end.Line number place) writer other = refl
behind-other end.Door writer other = refl

other-end : (e : ActorEnd) → QuitOrRefused e → e ≢ end.Quit → e ≢ end.Full → e ≢ end.NoMemory → ⊥
other-end e (inl quits) q f m = q quits
other-end e (inr (inl full)) q f m = f full
other-end e (inr (inr want)) q f m = m want

module _ {L : Type 0} (told : L → LinkTold) where
  session-ends : (s : Session L) → IsSession told s → QuitOrRefused (end_behind s.reader s.writer)
  session-ends s is = behind-ends s.reader s.writer
      (reader-ends s.number is.read.bytes (told s.given).left is.before is.after is.read.rest is.read.hosts is.read.behind s.reader is.read.ends)
      (writer-ends s.number _ is.wrote.takes is.wrote.downs is.wrote.lost s.writer is.wrote.ends)

  broke-ends : (s : Session L) (door door' : DoorTold L) (fulls wants : ℕ) (e : ActorEnd) → QuitOrRefused e → e ≡ end_behind s.reader s.writer → e ≢ end.Quit
      → HostEnds e door door' fulls wants (Broke s) []
  broke-ends s door door' f w end.Quit ends is other = absurd (other refl)
  broke-ends s door door' f w end.Full ends is other = inr (refl, is, other)
  broke-ends s door door' f w end.NoMemory ends is other = inr (inl (refl, is, other))
  broke-ends s door door' f w end.ReadFault ends is other =
      other-end end.ReadFault ends other (λ (same : end.ReadFault ≡ end.Full). cc) (λ (same : end.ReadFault ≡ end.NoMemory). cc)
  broke-ends s door door' f w (end.Line number place) ends is other =
      other-end (end.Line number place) ends other (λ (same : end.Line number place ≡ end.Full). cc) (λ (same : end.Line number place ≡ end.NoMemory). cc)
  broke-ends s door door' f w end.Door ends is other =
      absurd (other-end end.Door ends other (λ (same : end.Door ≡ end.Full). cc) (λ (same : end.Door ≡ end.NoMemory). cc))

  -- how a turn ended behind its session
  pub session-turn : (s : Session L) (door door' : DoorTold L) (fulls wants : ℕ) (result : Result (Unit {0}) ActorEnd) → IsSession told s
      → door'.faults ≡ door.faults → door'.closings ≡ door.closings → SessionEnds s.reader s.writer result → TurnEnds door door' fulls wants (Broke s) [] result
  session-turn s door door' f w (Ok done) is faults closings goes = ((goes.0, goes.1), refl, faults, closings)
  session-turn s door door' f w (Err e) is faults closings ends =
      broke-ends s door door' f w e (subst (λ (x : ActorEnd). QuitOrRefused x) (sym ends.0) (session-ends s is)) ends.0 ends.1
