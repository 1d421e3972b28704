-- What the reader posts behind its last message, and so what it did.
use Rattle.std.proofs.Common.{◌≡◌, ◌⊎◌, inl, inr, ℕ, ◌+◌, ◌-◌, ◌^◌, ◌≤◌, List, [], ◌∷◌, ◌++◌, length, Option, Err, refl, sym, ap, ◌∙◌, subst, append-nil, arith}
use Rattle.std.proofs.lemmas.Bool.{cases_lt}
use Rattle.outside.specs.Counts.{Rose, one_more}
use Rattle.hsms_frame.specs.declared.frame.Arrival.{Arrival}
use Rattle.tool_events.specs.declared.entry.Post.{Post}
use Rattle.tool_events.specs.declared.event.Event.{Event}
use Rattle.tool_events.specs.declared.event.Event.TheVariants as event
use Rattle.tool_events.specs.declared.event.OperCmd.TheVariants as oper
use Rattle.tool_events.specs.declared.event.SessionCause.{SessionCause}
use Rattle.tool_events.specs.declared.event.SessionCause.TheVariants as cause
use Rattle.actors.specs.Ends.{ArePosted, NoneEnded, NoneBehindEnded, IsRefused, QuitPosted, QuitPostedOr, RoseTwice}
use Rattle.actors.specs.Reads.{ReaderCounts, LinkEnds, ReaderEnds, ReaderDid}
use Rattle.actors.specs.ReaderSteps.{MessagesEnd, LinkStops, MessagesRead, QuitEnds, DownEnds, StopEnds, StopTold}
use Rattle.actors.specs.declared.end.ActorEnd.{ActorEnd}
use Rattle.actors.specs.declared.end.ActorEnd.TheVariants as end
use Rattle.actors.specs.declared.reader.ReadStop.{ReadStop}
use Rattle.actors.specs.declared.reader.ReadStop.TheVariants as stop

-- ---- counts

rose_one : (a b : ℕ) → b ≡ one_more a → Rose a b
rose_one a b is = elim (cases_lt a (2 ^ 64 - 1)) [
  | inl lt ↦ inl (omega arith)
  | inr le ↦ inr (omega arith)
]

rose_twice : (a b c : ℕ) → b ≡ one_more a → c ≡ one_more b → RoseTwice a c
rose_twice a b c first second = elim (cases_lt (a + 1) (2 ^ 64 - 1)) [
  | inl lt ↦ inl (omega arith)
  | inr le ↦ inr (omega arith)
]

-- ---- at most one post behind the last message

one_posted : (e : Event) (ps : List Post) → ArePosted (e ∷ []) ps → length ps ≤ 1
one_posted e [] a = absurd a
one_posted e (p ∷ []) a = omega arith
one_posted e (p ∷ q ∷ ps) a = absurd a.2

quit_one : (fulls fulls' wants wants' : ℕ) (behind : List Post) → QuitEnds fulls fulls' wants wants' behind → length behind ≤ 1
quit_one f f' w w' behind (inl (posted, same)) = one_posted (event.Oper oper.Quit) behind posted
quit_one f f' w w' behind (inr (inl (none, more))) = omega (arith, ap length none)
quit_one f f' w w' behind (inr (inr (none, same, more))) = omega (arith, ap length none)

down_one : (session : ℕ) (why : SessionCause) (fulls fulls' : ℕ) (behind : List Post) (e : ActorEnd) → DownEnds session why fulls fulls' behind e → length behind ≤ 1
down_one session why f f' behind e (inl (quits, posted)) = one_posted (event.LinkDown session why) behind posted
down_one session why f f' behind e (inr (inl (none, full, more))) = omega (arith, ap length none)
down_one session why f f' behind e (inr (inr (none, no_memory))) = omega (arith, ap length none)

behind_none : (hosts behind : List Post) → NoneEnded hosts → length behind ≤ 1 → NoneBehindEnded (hosts ++ behind)
behind_none hosts behind none one = record { before = hosts; last = behind; joined = refl; none = none; one = one }

no_more : (session : ℕ) (why : ReadStop) (fulls₀ fulls fulls' wants₀ wants wants' : ℕ) (rest : List Arrival) (hosts behind : List Post) (e : ActorEnd)
    → MessagesEnd fulls₀ fulls wants₀ wants rest hosts (Err why) → StopEnds session why fulls fulls' wants wants' behind e → NoneBehindEnded (hosts ++ behind)
no_more session (stop.Down why) f₀ f f' w₀ w w' rest hosts behind e m s = behind_none hosts behind m.1 (down_one session why f f' behind e s)
no_more session stop.Ended f₀ f f' w₀ w w' rest hosts behind e m s =
    subst (λ (b : List Post). NoneBehindEnded (hosts ++ b)) (sym s.0) (subst (λ (ps : List Post). NoneBehindEnded ps) (sym (append-nil hosts)) m.1)
no_more session stop.Full f₀ f f' w₀ w w' rest hosts behind e m s = behind_none hosts behind m.0 (quit_one f f' w w' behind s.1)
no_more session stop.NoMemory f₀ f f' w₀ w w' rest hosts behind e m s = behind_none hosts behind m.0 (omega (arith, ap length s.0))
no_more session stop.Uncut f₀ f f' w₀ w w' rest hosts behind e m s = behind_none hosts behind m.0 (quit_one f f' w w' behind s.1)

-- ---- how it ended

-- what is known of the link stays, whatever the desk answers
link_same : (why : SessionCause) (bytes : List ℕ) (left : Option (List ℕ)) (before : ReaderCounts) (fulls fulls' wants wants' faults ends : ℕ)
    → LinkEnds why bytes left before (record { fulls = fulls; wants = wants; faults = faults; ends = ends })
    → LinkEnds why bytes left before (record { fulls = fulls'; wants = wants'; faults = faults; ends = ends })
link_same cause.ReadFault bytes left before f f' w w' faults ends known = known
link_same cause.WriteFault bytes left before f f' w w' faults ends known = known
link_same cause.PeerEnd bytes left before f f' w w' faults ends known = known
link_same cause.ShortLength bytes left before f f' w w' faults ends known = known
link_same cause.Separated bytes left before f f' w w' faults ends known = known
link_same cause.T6 bytes left before f f' w w' faults ends known = known
link_same cause.T7 bytes left before f f' w w' faults ends known = known
link_same cause.Quit bytes left before f f' w w' faults ends known = known
link_same cause.Stopped bytes left before f f' w w' faults ends known = known

down_told : (session : ℕ) (why : SessionCause) (fulls fulls' : ℕ) (behind : List Post) (e : ActorEnd) → DownEnds session why fulls fulls' behind e
    → ((e ≡ end.Quit) × ArePosted (event.LinkDown session why ∷ []) behind) ⊎ ((behind ≡ []) × IsRefused e)
down_told session why f f' behind e (inl told) = inl told
down_told session why f f' behind e (inr (inl (none, full, more))) = inr (none, inl full)
down_told session why f f' behind e (inr (inr (none, no_memory))) = inr (none, inr no_memory)

full_behind : (fulls₀ fulls fulls' wants₀ wants wants' : ℕ) (behind : List Post) → fulls ≡ one_more fulls₀ → wants ≡ wants₀ → QuitEnds fulls fulls' wants wants' behind
    → QuitPosted behind ⊎ ((behind ≡ []) × (RoseTwice fulls₀ fulls' ⊎ Rose wants₀ wants'))
full_behind f₀ f f' w₀ w w' behind first ws (inl (posted, same)) = inl posted
full_behind f₀ f f' w₀ w w' behind first ws (inr (inl (none, second))) = inr (none, inl (rose_twice f₀ f f' first second))
full_behind f₀ f f' w₀ w w' behind first ws (inr (inr (none, same, more))) = inr (none, inr (rose_one w₀ w' (more ∙ ap one_more ws)))

quit_or : (fulls₀ fulls fulls' wants₀ wants wants' : ℕ) (behind : List Post) → fulls ≡ fulls₀ → wants ≡ wants₀ → QuitEnds fulls fulls' wants wants' behind
    → QuitPostedOr fulls₀ fulls' wants₀ wants' behind
quit_or f₀ f f' w₀ w w' behind fs ws (inl (posted, same)) = inl posted
quit_or f₀ f f' w₀ w w' behind fs ws (inr (inl (none, more))) = inr (none, inl (rose_one f₀ f' (more ∙ ap one_more fs)))
quit_or f₀ f f' w₀ w w' behind fs ws (inr (inr (none, same, more))) = inr (none, inr (rose_one w₀ w' (more ∙ ap one_more ws)))

module _ (session : ℕ) (left : Option (List ℕ)) (before : ReaderCounts) (fulls fulls' wants wants' faults ends : ℕ) (bytes : List ℕ) (rest : List Arrival) (hosts behind : List Post) (e : ActorEnd) where
  reader_ends : (why : ReadStop) → MessagesEnd before.fulls fulls before.wants wants rest hosts (Err why)
      → LinkStops bytes left before (record { fulls = fulls; wants = wants; faults = faults; ends = ends }) why → StopEnds session why fulls fulls' wants wants' behind e
      → ReaderEnds session bytes left before (record { fulls = fulls'; wants = wants'; faults = faults; ends = ends }) rest hosts behind e
  reader_ends (stop.Down why) m link s = inl (why, m.0, link_same why bytes left before fulls fulls' wants wants' faults ends link, down_told session why fulls fulls' behind e s)
  reader_ends stop.Ended m link s = inr (inl (s.0, s.1, m.0))
  reader_ends stop.Full m link s = inr (inr (inl (s.0, full_behind before.fulls fulls fulls' before.wants wants wants' behind m.1 m.2 s.1)))
  reader_ends stop.NoMemory m link s = inr (inr (inr (s.1, inr (s.0, inr (rose_one before.wants wants' (s.2 ∙ m.1))))))
  reader_ends stop.Uncut m link s = inr (inr (inr (s.0, quit_or before.fulls fulls fulls' before.wants wants wants' behind m.1 m.2 s.1)))

pub reader_did : (session : ℕ) (left left' : Option (List ℕ)) (before : ReaderCounts) (fulls fulls' wants wants' faults ends : ℕ) (posts posts₁ posts' : List Post) (count : ℕ) (why : ReadStop) (e : ActorEnd)
    → MessagesRead session left left' before (record { fulls = fulls; wants = wants; faults = faults; ends = ends }) posts posts₁ count why → StopTold session why fulls fulls' wants wants' posts₁ posts' e
    → ReaderDid session left left' before (record { fulls = fulls'; wants = wants'; faults = faults; ends = ends }) posts posts' count e
reader_did session left left' before f f' w w' faults ends posts posts₁ posts' count why e m t = record {
  bytes = m.bytes;
  read = m.read;
  counted = m.counted;
  given = m.posted.given;
  rest = m.posted.rest;
  arrived = m.posted.arrived;
  hosts = m.posted.hosts;
  behind = t.behind;
  grew = t.grew ∙ ap (λ (l : List Post). l ++ t.behind) m.posted.grew;
  are_hosts = m.posted.are_hosts;
  no_more = no_more session why before.fulls f f' before.wants w w' m.posted.rest m.posted.hosts t.behind e m.posted.ends t.ends;
  ends = reader_ends session left before f f' w w' faults ends m.bytes m.posted.rest m.posted.hosts t.behind e why m.posted.ends m.link t.ends;
}
