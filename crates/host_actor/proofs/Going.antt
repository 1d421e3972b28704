-- Turns of the host actor, one behind another.
use Rattle.std.proofs.Common.{◌≡◌, ◌⊎◌, inl, inr, ℕ, ◌+◌, List, [], ◌++◌, length, map, Result, Ok, Err, refl, sym, ap, subst, ◌∙◌, append-nil, append_assoc, length-append}
use Rattle.outside.specs.Counts.{Rose}
use Rattle.tool_events.specs.declared.entry.Post.{Post}
use Rattle.actors.specs.declared.end.ActorEnd.{ActorEnd}
use Rattle.actors.specs.declared.end.ActorEnd.TheVariants as end
use Rattle.host_actor.specs.declared.bytes.SessionBytes.{SessionBytes}
use Rattle.host_actor.specs.Links.{LinkTold, DoorTold, AllGiven, AllBack, raised}
use Rattle.host_actor.specs.Sessions.{Session, AllGoOn, all_reads, all_writes, all_bytes}
use Rattle.host_actor.specs.Hosting.{LastLink, NoLink, Unmade, Broke, last_given, last_back, last_session, HostEnds, HostDid}
use Rattle.host_actor.specs.HostSteps.{Climbed, MayGoOn, Moved, TurnDid, WentSoFar}
use Rattle.host_actor.proofs.Counting.{raised-more, climbed-none, climbed-more, rose-since, rose-as}
use Rattle.host_actor.proofs.DoorLists.{given-as, given-more, back-as, back-more}
use Rattle.host_actor.proofs.SessionLists.{are-more, go-more, reads-more, writes-more, bytes-more, givens-more, backs-more}

-- what is behind a list, and then behind that
grown : {A : Type 0} (xs ys zs more rest : List A) → ys ≡ xs ++ more → zs ≡ ys ++ rest → zs ≡ xs ++ (more ++ rest)
grown {A} xs ys zs more rest first second = second ∙ (ap (λ (l : List A). l ++ rest) first ∙ append_assoc xs more rest)

-- ---- the session of a turn behind which it goes on

module _ {L : Type 0} where
  turn-goes : (last : LastLink L) → MayGoOn last → AllGoOn (last_session last)
  turn-goes NoLink may = tt
  turn-goes (Unmade link) may = absurd may
  turn-goes (Broke s) may = (may, tt)

  turn-givens : (last : LastLink L) → MayGoOn last → map (λ (s : Session L). s.given) (last_session last) ≡ last_given last
  turn-givens NoLink may = refl
  turn-givens (Unmade link) may = absurd may
  turn-givens (Broke s) may = refl

  turn-backs : (last : LastLink L) → MayGoOn last → map (λ (s : Session L). s.back) (last_session last) ≡ last_back last
  turn-backs NoLink may = refl
  turn-backs (Unmade link) may = absurd may
  turn-backs (Broke s) may = refl

  turn-length : (last : LastLink L) → MayGoOn last → length (last_given last) ≡ length (last_session last)
  turn-length NoLink may = refl
  turn-length (Unmade link) may = absurd may
  turn-length (Broke s) may = refl

-- ---- how a turn ended, told of the door as it was before all turns

looked-since : (waits waits₁ waits' closings closings₁ closings' : ℕ) → Climbed waits waits₁ → Moved waits₁ waits' → closings₁ ≡ closings
    → Rose waits₁ waits' ⊎ Rose closings₁ closings' → Rose waits waits' ⊎ Rose closings closings'
looked-since w w₁ w' c c₁ c' climbed moved same (inl rose) = inl (rose-since w w₁ w' climbed moved rose)
looked-since w w₁ w' c c₁ c' climbed moved same (inr rose) = inr (rose-as c c₁ c' same rose)

failed-since : (faults faults₁ faults' closings closings₁ closings' : ℕ) → faults₁ ≡ faults → closings₁ ≡ closings
    → Rose faults₁ faults' ⊎ Rose closings₁ closings' → Rose faults faults' ⊎ Rose closings closings'
failed-since f f₁ f' c c₁ c' fs cs (inl rose) = inl (rose-as f f₁ f' fs rose)
failed-since f f₁ f' c c₁ c' fs cs (inr rose) = inr (rose-as c c₁ c' cs rose)

ends-since : {L : Type 0} (e : ActorEnd) (door mid door' : DoorTold L) (fulls wants : ℕ) (last : LastLink L) (behind : List Post)
    → mid.faults ≡ door.faults → mid.closings ≡ door.closings → Climbed door.waits mid.waits → Moved mid.waits door'.waits
    → HostEnds e mid door' fulls wants last behind → HostEnds e door door' fulls wants last behind
ends-since end.Quit door mid door' f w last behind fs cs climbed moved (inl up) = inl up
ends-since end.Quit door mid door' f w last behind fs cs climbed moved (inr looked) =
    inr (looked.0, looked.1, looked-since door.waits mid.waits door'.waits door.closings mid.closings door'.closings climbed moved cs looked.2)
ends-since end.Door door mid door' f w last behind fs cs climbed moved failed =
    (failed.0, failed-since door.faults mid.faults door'.faults door.closings mid.closings door'.closings fs cs failed.1, failed.2)
ends-since end.Full door mid door' f w last behind fs cs climbed moved ends = ends
ends-since end.NoMemory door mid door' f w last behind fs cs climbed moved ends = ends
ends-since end.ReadFault door mid door' f w last behind fs cs climbed moved ends = ends
ends-since (end.Line number place) door mid door' f w last behind fs cs climbed moved ends = ends

-- ---- turns

pub went-none : {L : Type 0} (told : L → LinkTold) (door : DoorTold L) (posts writes : List Post) (bytes : List SessionBytes) → WentSoFar told door door posts posts writes writes bytes bytes
went-none told door posts writes bytes = record {
  went = [];
  sessions = tt;
  went_on = tt;
  given = given-as door.left door.left refl;
  back = back-as door.backs door.backs refl;
  port = refl;
  links = refl;
  faults = refl;
  waits = climbed-none door.waits;
  closings = refl;
  grew = sym (append-nil posts);
  wrote = sym (append-nil writes);
  noted = sym (append-nil bytes);
}

module _ {L : Type 0} (told : L → LinkTold) (door mid door' : DoorTold L) (fulls wants : ℕ) (posts posts₁ posts' writes writes₁ writes' : List Post) (bytes bytes₁ bytes' : List SessionBytes) (result : Result (Unit {0}) ActorEnd) (w : WentSoFar told door mid posts posts₁ writes writes₁ bytes bytes₁) (t : TurnDid told mid door' fulls wants posts₁ posts' writes₁ writes' bytes₁ bytes' result) where
  links-since : door'.links ≡ raised door.links (length w.went + length (last_given t.last))
  links-since =
      t.links ∙ (ap (λ (k : ℕ). raised k (length (last_given t.last))) w.links ∙ raised-more door.links (length w.went) (length (last_given t.last)))

  reads-since : posts' ≡ posts ++ (all_reads (w.went ++ last_session t.last) ++ t.behind)
  reads-since =
      grown posts posts₁ posts' (all_reads w.went) (all_reads (last_session t.last) ++ t.behind) w.grew t.grew
      ∙ ap (λ (l : List Post). posts ++ l)
      (sym (append_assoc (all_reads w.went) (all_reads (last_session t.last)) t.behind)
      ∙ ap (λ (l : List Post). l ++ t.behind) (sym (reads-more w.went (last_session t.last))))

  writes-since : writes' ≡ writes ++ all_writes (w.went ++ last_session t.last)
  writes-since =
      grown writes writes₁ writes' (all_writes w.went) (all_writes (last_session t.last)) w.wrote t.wrote
      ∙ ap (λ (l : List Post). writes ++ l) (sym (writes-more w.went (last_session t.last)))

  bytes-since : bytes' ≡ bytes ++ all_bytes (w.went ++ last_session t.last)
  bytes-since =
      grown bytes bytes₁ bytes' (all_bytes w.went) (all_bytes (last_session t.last)) w.noted t.noted
      ∙ ap (λ (l : List SessionBytes). bytes ++ l) (sym (bytes-more w.went (last_session t.last)))

  given-since : AllGiven (map (λ (s : Session L). s.given) w.went ++ last_given t.last) door.left door'.left
  given-since = given-more (map (λ (s : Session L). s.given) w.went) (last_given t.last) door.left mid.left door'.left w.given t.given

  back-since : AllBack (map (λ (s : Session L). s.back) w.went ++ last_back t.last) door.backs door'.backs
  back-since = back-more (map (λ (s : Session L). s.back) w.went) (last_back t.last) door.backs mid.backs door'.backs w.back t.back

-- it goes on behind one turn more
pub went-more : {L : Type 0} (told : L → LinkTold) (door mid door' : DoorTold L) (fulls wants : ℕ) (posts posts₁ posts' writes writes₁ writes' : List Post) (bytes bytes₁ bytes' : List SessionBytes)
    → WentSoFar told door mid posts posts₁ writes writes₁ bytes bytes₁ → TurnDid told mid door' fulls wants posts₁ posts' writes₁ writes' bytes₁ bytes' (Ok tt)
    → WentSoFar told door door' posts posts' writes writes' bytes bytes'
went-more {L} told door mid door' f k posts posts₁ posts' writes writes₁ writes' bytes bytes₁ bytes' w t =
    let more : List (Session L) = last_session t.last in
    let may : MayGoOn t.last = t.ends.0 in
    let all : List (Session L) = w.went ++ more in
    let givens : map (λ (s : Session L). s.given) all ≡ map (λ (s : Session L). s.given) w.went ++ last_given t.last =
    givens-more w.went more ∙ ap (λ (l : List L). map (λ (s : Session L). s.given) w.went ++ l) (turn-givens t.last may) in
    let backs : map (λ (s : Session L). s.back) all ≡ map (λ (s : Session L). s.back) w.went ++ last_back t.last =
    backs-more w.went more ∙ ap (λ (l : List L). map (λ (s : Session L). s.back) w.went ++ l) (turn-backs t.last may) in
    let size : length w.went + length (last_given t.last) ≡ length all =
    ap (λ (n : ℕ). length w.went + n) (turn-length t.last may) ∙ sym (length-append w.went more) in
    record {
      went = all;
      sessions = are-more told w.went more w.sessions t.sessions;
      went_on = go-more w.went more w.went_on (turn-goes t.last may);
      given = subst (λ (l : List L). AllGiven l door.left door'.left) (sym givens)
          (given-since told door mid door' f k posts posts₁ posts' writes writes₁ writes' bytes bytes₁ bytes' (Ok tt) w t);
      back = subst (λ (l : List L). AllBack l door.backs door'.backs) (sym backs)
          (back-since told door mid door' f k posts posts₁ posts' writes writes₁ writes' bytes bytes₁ bytes' (Ok tt) w t);
      port = t.port ∙ w.port;
      links = links-since told door mid door' f k posts posts₁ posts' writes writes₁ writes' bytes bytes₁ bytes' (Ok tt) w t ∙ ap (λ (n : ℕ). raised door.links n) size;
      faults = t.ends.2 ∙ w.faults;
      waits = climbed-more door.waits mid.waits door'.waits w.waits t.waits;
      closings = t.ends.3 ∙ w.closings;
      grew = reads-since told door mid door' f k posts posts₁ posts' writes writes₁ writes' bytes bytes₁ bytes' (Ok tt) w t
          ∙ (ap (λ (b : List Post). posts ++ (all_reads all ++ b)) t.ends.1 ∙ ap (λ (l : List Post). posts ++ l) (append-nil (all_reads all)));
      wrote = writes-since told door mid door' f k posts posts₁ posts' writes writes₁ writes' bytes bytes₁ bytes' (Ok tt) w t;
      noted = bytes-since told door mid door' f k posts posts₁ posts' writes writes₁ writes' bytes bytes₁ bytes' (Ok tt) w t;
    }

-- it ended in one turn more
pub host-ended : {L : Type 0} (told : L → LinkTold) (door mid door' : DoorTold L) (fulls wants : ℕ) (posts posts₁ posts' writes writes₁ writes' : List Post) (bytes bytes₁ bytes' : List SessionBytes) (e : ActorEnd)
    → WentSoFar told door mid posts posts₁ writes writes₁ bytes bytes₁ → TurnDid told mid door' fulls wants posts₁ posts' writes₁ writes' bytes₁ bytes' (Err e)
    → HostDid told door door' fulls wants posts posts' writes writes' bytes bytes' e
host-ended told door mid door' f k posts posts₁ posts' writes writes₁ writes' bytes bytes₁ bytes' e w t = record {
  went = w.went;
  last = t.last;
  behind = t.behind;
  sessions = are-more told w.went (last_session t.last) w.sessions t.sessions;
  went_on = w.went_on;
  given = given-since told door mid door' f k posts posts₁ posts' writes writes₁ writes' bytes bytes₁ bytes' (Err e) w t;
  back = back-since told door mid door' f k posts posts₁ posts' writes writes₁ writes' bytes bytes₁ bytes' (Err e) w t;
  port = t.port ∙ w.port;
  links = links-since told door mid door' f k posts posts₁ posts' writes writes₁ writes' bytes bytes₁ bytes' (Err e) w t;
  grew = reads-since told door mid door' f k posts posts₁ posts' writes writes₁ writes' bytes bytes₁ bytes' (Err e) w t;
  wrote = writes-since told door mid door' f k posts posts₁ posts' writes writes₁ writes' bytes bytes₁ bytes' (Err e) w t;
  noted = bytes-since told door mid door' f k posts posts₁ posts' writes writes₁ writes' bytes bytes₁ bytes' (Err e) w t;
  ends = ends-since e door mid door' f k t.last t.behind w.faults w.closings w.waits t.waits t.ends;
}
