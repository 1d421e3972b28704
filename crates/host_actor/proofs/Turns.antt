-- One turn of the host actor, by what the door answered.
use Rattle.std.proofs.Common.{◌≡◌, inl, inr, ℕ, List, [], ◌∷◌, ◌++◌, Option, true, Result, Ok, Err, refl, sym, ap, subst, ◌∙◌, append-nil, append_assoc}
use Rattle.outside.specs.Counts.{Failed, Rose}
use Rattle.tool_events.specs.declared.entry.Post.{Post}
use Rattle.tool_events.specs.declared.event.Event.TheVariants as event
use Rattle.tool_events.specs.declared.answer.Answer.TheVariants as answer
use Rattle.actors.specs.declared.end.ActorEnd.{ActorEnd}
use Rattle.actors.specs.declared.end.ActorEnd.TheVariants as end
use Rattle.actors.specs.Reads.{ReaderCounts, ReaderDid}
use Rattle.actors.specs.Writes.{WriterDid}
use Rattle.host_actor.specs.declared.bytes.SessionBytes.{SessionBytes}
use Rattle.host_actor.specs.Links.{LinkTold, DoorTold, AllGiven, AllBack, raised}
use Rattle.host_actor.specs.Sessions.{Session, IsSession, post_of}
use Rattle.host_actor.specs.Hosting.{NoLink, Unmade, Broke, HostEnds}
use Rattle.host_actor.specs.HostSteps.{ClosedEnds, Gave, LinkedUp, Listened, Moved, RunEnded, SessionEnds, TookBack, TurnDid, TurnEnds}
use Rattle.host_actor.proofs.DoorLists.{given-as, given-one, back-as, back-one}
use Rattle.host_actor.proofs.SessionEnding.{session-turn}

-- ---- no link came up

-- the door's list of links, of those that it took back, its port and its count of links are as before
pub record NoneCame {L : Type 0} (door door' : DoorTold L) : Type 0 where
  pub left : door'.left ≡ door.left
  pub backs : door'.backs ≡ door.backs
  pub port : door'.port ≡ door.port
  pub links : door'.links ≡ door.links

module _ {L : Type 0} (told : L → LinkTold) (door door' : DoorTold L) (fulls wants : ℕ) (posts posts' writes : List Post) (bytes bytes' : List SessionBytes) (none : NoneCame door door') (waits : Moved door.waits door'.waits) (noted : bytes' ≡ bytes) where
  none-turn : (behind : List Post) (result : Result (Unit {0}) ActorEnd) → posts' ≡ posts ++ behind
      → TurnEnds door door' fulls wants NoLink behind result → TurnDid told door door' fulls wants posts posts' writes writes bytes bytes' result
  none-turn behind result grew ends = record {
    last = NoLink;
    behind = behind;
    sessions = tt;
    given = given-as door.left door'.left none.left;
    back = back-as door.backs door'.backs none.backs;
    port = none.port;
    links = none.links;
    waits = waits;
    grew = grew;
    wrote = sym (append-nil writes);
    noted = noted ∙ sym (append-nil bytes);
    ends = ends;
  }

  -- it had no room for the bytes of one session more
  pub no-room : (e : ActorEnd) → e ≡ end.NoMemory → RunEnded fulls wants posts posts' → TurnDid told door door' fulls wants posts posts' writes writes bytes bytes' (Err e)
  no-room e is ended = none-turn ended.behind (Err e) ended.grew
      (subst (λ (x : ActorEnd). HostEnds x door door' fulls wants NoLink ended.behind) (sym is) (inr (inr (refl, ended.ends))))

  -- the door failed
  pub door-failed : (e : ActorEnd) → e ≡ end.Door → Rose door.faults door'.faults → RunEnded fulls wants posts posts' → TurnDid told door door' fulls wants posts posts' writes writes bytes bytes' (Err e)
  door-failed e is rose ended = none-turn ended.behind (Err e) ended.grew
      (subst (λ (x : ActorEnd). HostEnds x door door' fulls wants NoLink ended.behind) (sym is) (refl, inl rose, ended.ends))

  -- no link has come up yet
  pub not-yet : (result : Result (Unit {0}) ActorEnd) → door'.faults ≡ door.faults → door'.closings ≡ door.closings → Rose door.waits door'.waits
      → Listened fulls wants posts posts' result → TurnDid told door door' fulls wants posts posts' writes writes bytes bytes' result
  not-yet (Ok done) faults closings rose same = none-turn [] (Ok done) (same ∙ sym (append-nil posts)) (tt, refl, faults, closings)
  not-yet (Err end.Quit) faults closings rose ended = none-turn (post_of event.Listen answer.Ended ∷ []) (Err end.Quit) ended (inr (refl, refl, inl rose))
  not-yet (Err end.Full) faults closings rose full = none-turn [] (Err end.Full) (full.0 ∙ sym (append-nil posts)) (inl (refl, refl, full.1))
  not-yet (Err end.NoMemory) faults closings rose want = none-turn [] (Err end.NoMemory) (want.0 ∙ sym (append-nil posts)) (inl (refl, refl, want.1))
  not-yet (Err end.ReadFault) faults closings rose never = absurd never
  not-yet (Err (end.Line number place)) faults closings rose never = absurd never
  not-yet (Err end.Door) faults closings rose never = absurd never

  -- none will come up
  pub closed : (e : ActorEnd) → Rose door.closings door'.closings → ClosedEnds fulls wants posts posts' e → TurnDid told door door' fulls wants posts posts' writes writes bytes bytes' (Err e)
  closed end.Quit rose ended = none-turn (post_of event.Listen answer.Ended ∷ []) (Err end.Quit) ended (inr (refl, refl, inr rose))
  closed end.Full rose full = none-turn [] (Err end.Full) (full.0 ∙ sym (append-nil posts)) (inl (refl, refl, full.1))
  closed end.NoMemory rose want = none-turn [] (Err end.NoMemory) (want.0 ∙ sym (append-nil posts)) (inl (refl, refl, want.1))
  closed end.ReadFault rose never = absurd never
  closed (end.Line number place) rose never = absurd never
  closed end.Door rose ended = none-turn ended.behind (Err end.Door) ended.grew (refl, inr rose, ended.ends)

-- ---- a link came up

-- the door gave one link and took back one: for the turn it is as these say
record Passed {L : Type 0} (link back : L) (door door' : DoorTold L) : Type 0 where
  given : AllGiven (link ∷ []) door.left door'.left
  taken : AllBack (back ∷ []) door.backs door'.backs
  port : door'.port ≡ door.port
  links : door'.links ≡ raised door.links 1
  waits : Moved door.waits door'.waits
  faults : door'.faults ≡ door.faults
  closings : door'.closings ≡ door.closings

passed : {L : Type 0} (link back : L) (door mid door' : DoorTold L) → Gave link door mid → TookBack back mid door' → Passed link back door door'
passed {L} link back door mid door' gave took = record {
  given = subst (λ (l : Option (List L)). AllGiven (link ∷ []) door.left l) (sym took.left) (given-one link door.left mid.left gave.left);
  taken = subst (λ (l : Option (List L)). AllBack (back ∷ []) l door'.backs) gave.backs (back-one back mid.backs door'.backs took.backs);
  port = took.port ∙ gave.port;
  links = took.links ∙ gave.links;
  waits = inl (took.waits ∙ gave.waits);
  faults = took.faults ∙ gave.faults;
  closings = took.closings ∙ gave.closings;
}

-- a link with which no session began
unmade : {L : Type 0} (told : L → LinkTold) (door door' : DoorTold L) (fulls wants : ℕ) (posts posts' writes : List Post) (bytes : List SessionBytes) (link : L) (behind : List Post) (e : ActorEnd)
    → Passed link link door door' → posts' ≡ posts ++ behind → HostEnds e door door' fulls wants (Unmade link) behind
    → TurnDid told door door' fulls wants posts posts' writes writes bytes bytes (Err e)
unmade told door door' fulls wants posts posts' writes bytes link behind e p grew ends = record {
  last = Unmade link;
  behind = behind;
  sessions = tt;
  given = p.given;
  back = p.taken;
  port = p.port;
  links = p.links;
  waits = p.waits;
  grew = grew;
  wrote = sym (append-nil writes);
  noted = sym (append-nil bytes);
  ends = ends;
}

unmade-by : {L : Type 0} (told : L → LinkTold) (door door' : DoorTold L) (fulls wants : ℕ) (posts posts' writes : List Post) (bytes : List SessionBytes) (link : L) (e : ActorEnd)
    → Passed link link door door' → LinkedUp fulls wants posts posts' (Err e) → TurnDid told door door' fulls wants posts posts' writes writes bytes bytes (Err e)
unmade-by told door door' f w posts posts' writes bytes link end.Quit p ended =
    unmade told door door' f w posts posts' writes bytes link (post_of event.LinkUp answer.Ended ∷ []) end.Quit p ended (inl (link, refl, refl))
unmade-by told door door' f w posts posts' writes bytes link end.Full p full =
    unmade told door door' f w posts posts' writes bytes link [] end.Full p (full.0 ∙ sym (append-nil posts)) (inl (refl, refl, full.1))
unmade-by told door door' f w posts posts' writes bytes link end.NoMemory p want =
    unmade told door door' f w posts posts' writes bytes link [] end.NoMemory p (want.0 ∙ sym (append-nil posts)) (inl (refl, refl, want.1))
unmade-by told door door' f w posts posts' writes bytes link end.ReadFault p never = absurd never
unmade-by told door door' f w posts posts' writes bytes link (end.Line number place) p never = absurd never
unmade-by told door door' f w posts posts' writes bytes link end.Door p never = absurd never

pub unmade-turn : {L : Type 0} (told : L → LinkTold) (door mid door' : DoorTold L) (fulls wants : ℕ) (posts posts' writes : List Post) (bytes : List SessionBytes) (link : L) (e : ActorEnd)
    → Gave link door mid → TookBack link mid door' → LinkedUp fulls wants posts posts' (Err e) → TurnDid told door door' fulls wants posts posts' writes writes bytes bytes (Err e)
unmade-turn told door mid door' f w posts posts' writes bytes link e gave took up =
    unmade-by told door door' f w posts posts' writes bytes link e (passed link link door mid door' gave took) up

-- ---- a session ran

posts-of-session : (posts posts₁ posts' hosts behind : List Post) (up : Post) → posts₁ ≡ posts ++ up ∷ [] → posts' ≡ posts₁ ++ hosts ++ behind
    → posts' ≡ posts ++ ((up ∷ ((hosts ++ behind) ++ [])) ++ [])
posts-of-session posts posts₁ posts' hosts behind up first second =
    let reads : List Post = hosts ++ behind in
    let trail : (reads ++ []) ++ [] ≡ reads = append-nil (reads ++ []) ∙ append-nil reads in
    second ∙ (append_assoc posts₁ hosts behind ∙ (ap (λ (l : List Post). l ++ reads) first
    ∙ (append_assoc posts (up ∷ []) reads ∙ ap (λ (l : List Post). posts ++ up ∷ l) (sym trail))))

writes-of-session : (writes writes' takes downs : List Post) → writes' ≡ writes ++ takes ++ downs → writes' ≡ writes ++ ((takes ++ downs) ++ [])
writes-of-session writes writes' takes downs grew =
    grew ∙ (append_assoc writes takes downs ∙ ap (λ (l : List Post). writes ++ l) (sym (append-nil (takes ++ downs))))

module _ {L : Type 0} (told : L → LinkTold) (number : ℕ) (given back : L) (before after : ReaderCounts) (posts posts' writes writes' : List Post) (read written : ℕ) (reader writer : ActorEnd) (F : Type 0) (r : ReaderDid number (told given).left (told back).left before after posts posts' read reader) (w : WriterDid number F (told given).held (told back).held writes writes' written writer) where
  -- what both did is a session
  abbrev session-of : Session L
  session-of = record {
    number = number;
    given = given;
    back = back;
    reads = r.hosts ++ r.behind;
    writes = w.takes ++ w.downs;
    read = read;
    written = written;
    reader = reader;
    writer = writer;
  }

  reads-alone : ReaderDid number (told given).left (told back).left before after [] (r.hosts ++ r.behind) read reader
  reads-alone = record {
    bytes = r.bytes;
    read = r.read;
    counted = r.counted;
    given = r.given;
    rest = r.rest;
    arrived = r.arrived;
    hosts = r.hosts;
    behind = r.behind;
    grew = refl;
    are_hosts = r.are_hosts;
    no_more = r.no_more;
    ends = r.ends;
  }

  writes-alone : WriterDid number F (told given).held (told back).held [] (w.takes ++ w.downs) written writer
  writes-alone = record {
    takes = w.takes;
    downs = w.downs;
    grew = refl;
    are_takes = w.are_takes;
    written = w.written;
    lost = w.lost;
    frames = w.frames;
    wrote = w.wrote;
    counted = w.counted;
    no_more = w.no_more;
    ends = w.ends;
  }

pub session-ran : {L : Type 0} (told : L → LinkTold) (door mid door' : DoorTold L) (fulls wants : ℕ) (posts posts₁ posts' writes writes' : List Post) (bytes bytes' : List SessionBytes)
    (number : ℕ) (given back : L) (before after : ReaderCounts) (read written : ℕ) (reader writer : ActorEnd) (result : Result (Unit {0}) ActorEnd)
    → Gave given door mid → TookBack back mid door'
    → posts₁ ≡ posts ++ post_of event.LinkUp (answer.Session number) ∷ []
    → (before.faults ≡ (told given).read_faults) × (before.ends ≡ (told given).ends)
    → (after.faults ≡ (told back).read_faults) × (after.ends ≡ (told back).ends)
    → ReaderDid number (told given).left (told back).left before after posts₁ posts' read reader
    → WriterDid number (Failed (told given).write_faults (told back).write_faults (told given).refusals (told back).refusals) (told given).held (told back).held writes writes' written writer
    → (told back).is_shut ≡ true
    → bytes' ≡ bytes ++ record { session = number; read = read; written = written } ∷ []
    → SessionEnds reader writer result → TurnDid told door door' fulls wants posts posts' writes writes' bytes bytes' result
session-ran {L} told door mid door' f w posts posts₁ posts' writes writes' bytes bytes' number given back before after read written reader writer result gave took up begins ends r t shut noted goes =
    let F : Type 0 = Failed (told given).write_faults (told back).write_faults (told given).refusals (told back).refusals in
    let s : Session L = session-of told number given back before after posts₁ posts' writes writes' read written reader writer F r t in
    let p : Passed given back door door' = passed given back door mid door' gave took in
    let is : IsSession told s = record {
      before = before;
      after = after;
      begins = begins;
      ends = ends;
      read = reads-alone told number given back before after posts₁ posts' writes writes' read written reader writer F r t;
      wrote = writes-alone told number given back before after posts₁ posts' writes writes' read written reader writer F r t;
      shut = shut;
    } in
    record {
      last = Broke s;
      behind = [];
      sessions = (is, tt);
      given = p.given;
      back = p.taken;
      port = p.port;
      links = p.links;
      waits = p.waits;
      grew = posts-of-session posts posts₁ posts' r.hosts r.behind (post_of event.LinkUp (answer.Session number)) up r.grew;
      wrote = writes-of-session writes writes' t.takes t.downs t.grew;
      noted = noted;
      ends = session-turn told s door door' f w result is p.faults p.closings goes;
    }

-- the bytes that were noted before are the same
pub turn-as : {L : Type 0} (told : L → LinkTold) (door door' : DoorTold L) (fulls wants : ℕ) (posts posts' writes writes' : List Post) (bytes bytes₁ bytes' : List SessionBytes) (result : Result (Unit {0}) ActorEnd)
    → bytes₁ ≡ bytes → TurnDid told door door' fulls wants posts posts' writes writes' bytes₁ bytes' result → TurnDid told door door' fulls wants posts posts' writes writes' bytes bytes' result
turn-as told door door' f w posts posts' writes writes' bytes bytes₁ bytes' result same t =
    subst (λ (b : List SessionBytes). TurnDid told door door' f w posts posts' writes writes' b bytes' result) same t
