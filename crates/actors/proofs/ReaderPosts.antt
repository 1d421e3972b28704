-- Messages that are posted one after another.
use Rattle.std.proofs.Common.{◌≡◌, ◌≢◌, inl, inr, ℕ, List, [], ◌∷◌, ◌++◌, Result, Ok, Err, IfOk, OnErr, IsTrue, refl, sym, ap, ◌∙◌, subst, append-nil, append_assoc, true≢false, arith}
use Rattle.std.proofs.lemmas.List.{map-append}
use Rattle.outside.specs.Counts.{one_more}
use Rattle.hsms_frame.specs.declared.frame.Arrival.{Arrival}
use Rattle.tool_events.specs.Answering.{may_wait}
use Rattle.tool_events.specs.Posts.{Rises, is_full, is_want}
use Rattle.tool_events.specs.declared.answer.Answer.{Answer}
use Rattle.tool_events.specs.declared.answer.Answer.TheVariants as answer
use Rattle.tool_events.specs.declared.answer.PostFault.{PostFault}
use Rattle.tool_events.specs.declared.answer.PostFault.TheVariants as fault
use Rattle.tool_events.specs.declared.entry.Post.{Post}
use Rattle.tool_events.specs.declared.event.Event.{Event}
use Rattle.tool_events.specs.declared.event.Event.TheVariants as event
use Rattle.tool_events.specs.declared.event.OperCmd.TheVariants as oper
use Rattle.tool_events.specs.declared.event.SessionCause.{SessionCause}
use Rattle.actors.specs.Ends.{ArePosted, LastEnded, NoneEnded, NoneBehindEnded}
use Rattle.actors.specs.ReaderSteps.{host_events, MessagesEnd, MessagesPosted, QuitTried}
use Rattle.actors.specs.declared.reader.ReadStop.{ReadStop}
use Rattle.actors.specs.declared.reader.ReadStop.TheVariants as stop

-- ---- posts behind posts

are_more : (es fs : List Event) (ps qs : List Post) → ArePosted es ps → ArePosted fs qs → ArePosted (es ++ fs) (ps ++ qs)
are_more [] fs [] qs a b = b
are_more [] fs (p ∷ ps) qs a b = absurd a
are_more (e ∷ es) fs [] qs a b = absurd a
are_more (e ∷ es) fs (p ∷ ps) qs a b = (a.0, a.1, are_more es fs ps qs a.2 b)

pub none_more : (ps qs : List Post) → NoneEnded ps → NoneEnded qs → NoneEnded (ps ++ qs)
none_more [] qs a b = b
none_more (p ∷ ps) qs a b = (a.0, none_more ps qs a.1 b)

last_more : (ps qs : List Post) → LastEnded qs → LastEnded (ps ++ qs)
last_more ps qs l = (ps ++ l.0, l.1, ap (λ (x : List Post). ps ++ x) l.2 ∙ sym (append_assoc ps l.0 (l.1 ∷ [])), l.3)

behind_more : (ps qs : List Post) → NoneEnded ps → NoneBehindEnded qs → NoneBehindEnded (ps ++ qs)
behind_more ps qs none b = record {
  before = ps ++ b.before;
  last = b.last;
  joined = ap (λ (x : List Post). ps ++ x) b.joined ∙ sym (append_assoc ps b.before b.last);
  none = none_more ps b.before none b.none;
  one = b.one;
}

-- one post behind others none of which was answered Ended
pub one_behind : (ps : List Post) (p : Post) → NoneEnded ps → NoneBehindEnded (ps ++ p ∷ [])
one_behind ps p none = record { before = ps; last = p ∷ []; joined = refl; none = none; one = omega arith }

-- ---- messages behind messages

end_more : (fulls fulls₁ fulls' wants wants₁ wants' : ℕ) (rest : List Arrival) (ps qs : List Post) (how : Result (Unit {0}) ReadStop) → NoneEnded ps → fulls₁ ≡ fulls → wants₁ ≡ wants
    → MessagesEnd fulls₁ fulls' wants₁ wants' rest qs how → MessagesEnd fulls fulls' wants wants' rest (ps ++ qs) how
end_more f f₁ f' w w₁ w' rest ps qs (Ok done) none fs ws e = (e.0, none_more ps qs none e.1, e.2 ∙ fs, e.3 ∙ ws)
end_more f f₁ f' w w₁ w' rest ps qs (Err (stop.Down why)) none fs ws e = (e.0, none_more ps qs none e.1, e.2 ∙ fs, e.3 ∙ ws)
end_more f f₁ f' w w₁ w' rest ps qs (Err stop.Ended) none fs ws e = (last_more ps qs e.0, behind_more ps qs none e.1)
end_more f f₁ f' w w₁ w' rest ps qs (Err stop.Full) none fs ws e = (none_more ps qs none e.0, e.1 ∙ ap one_more fs, e.2 ∙ ws)
end_more f f₁ f' w w₁ w' rest ps qs (Err stop.NoMemory) none fs ws e = (none_more ps qs none e.0, e.1 ∙ ap one_more ws)
end_more f f₁ f' w w₁ w' rest ps qs (Err stop.Uncut) none fs ws e = (none_more ps qs none e.0, e.1 ∙ fs, e.2 ∙ ws)

-- where the reader stopped at a message, it does not matter which ones were not posted
end_before : (fulls fulls' wants wants' : ℕ) (rest other : List Arrival) (hosts : List Post) (why : ReadStop) → ((cause : SessionCause) → why ≢ stop.Down cause)
    → MessagesEnd fulls fulls' wants wants' rest hosts (Err why) → MessagesEnd fulls fulls' wants wants' other hosts (Err why)
end_before f f' w w' rest other hosts (stop.Down cause) no_down e = absurd (no_down cause refl)
end_before f f' w w' rest other hosts stop.Ended no_down e = e
end_before f f' w w' rest other hosts stop.Full no_down e = e
end_before f f' w w' rest other hosts stop.NoMemory no_down e = e
end_before f f' w w' rest other hosts stop.Uncut no_down e = e

pub posted_none : (session fulls wants : ℕ) (posts : List Post) → MessagesPosted session [] fulls fulls wants wants posts posts (Ok tt)
posted_none session fulls wants posts = record {
  given = [];
  rest = [];
  arrived = refl;
  hosts = [];
  grew = sym (append-nil posts);
  are_hosts = tt;
  ends = (refl, tt, refl, refl);
}

-- these, all of them, and then those
pub posted_more : (session : ℕ) (xs ys : List Arrival) (fulls fulls₁ fulls' wants wants₁ wants' : ℕ) (posts posts₁ posts' : List Post) (how : Result (Unit {0}) ReadStop)
    → MessagesPosted session xs fulls fulls₁ wants wants₁ posts posts₁ (Ok tt) → MessagesPosted session ys fulls₁ fulls' wants₁ wants' posts₁ posts' how
    → MessagesPosted session (xs ++ ys) fulls fulls' wants wants' posts posts' how
posted_more session xs ys f f₁ f' w w₁ w' posts posts₁ posts' how a b =
    let all : xs ≡ a.given = a.arrived ∙ ap (λ (l : List Arrival). a.given ++ l) a.ends.0 ∙ append-nil a.given in record {
      given = a.given ++ b.given;
      rest = b.rest;
      arrived = ap (λ (l : List Arrival). l ++ ys) all ∙ ap (λ (l : List Arrival). a.given ++ l) b.arrived ∙ sym (append_assoc a.given b.given b.rest);
      hosts = a.hosts ++ b.hosts;
      grew = b.grew ∙ ap (λ (l : List Post). l ++ b.hosts) a.grew ∙ append_assoc posts a.hosts b.hosts;
      are_hosts = subst (λ (es : List Event). ArePosted es (a.hosts ++ b.hosts)) (sym (map-append (λ (x : Arrival). event.Host session x) a.given b.given)) (are_more (host_events session a.given) (host_events session b.given) a.hosts b.hosts a.are_hosts b.are_hosts);
      ends = end_more f f₁ f' w w₁ w' b.rest a.hosts b.hosts how a.ends.1 a.ends.2 a.ends.3 b.ends;
    }

-- of all messages these were posted, and then the next ones
pub posted_on : (session : ℕ) (all xs ys : List Arrival) (fulls fulls₁ fulls' wants wants₁ wants' : ℕ) (posts posts₁ posts' : List Post) (how : Result (Unit {0}) ReadStop) → all ≡ xs ++ ys
    → MessagesPosted session xs fulls fulls₁ wants wants₁ posts posts₁ (Ok tt) → MessagesPosted session ys fulls₁ fulls' wants₁ wants' posts₁ posts' how
    → MessagesPosted session all fulls fulls' wants wants' posts posts' how
posted_on session all xs ys f f₁ f' w w₁ w' posts posts₁ posts' how is a b =
    subst (λ (l : List Arrival). MessagesPosted session l f f' w w' posts posts' how) (sym is) (posted_more session xs ys f f₁ f' w w₁ w' posts posts₁ posts' how a b)

-- ---- one message, by its answer

module _ (session fulls fulls' wants wants' : ℕ) (posts posts' : List Post) (x : Arrival) (a : Answer) (grew : posts' ≡ posts ++ record { at = record { 0 = 0 }; event = event.Host session x; answer = a } ∷ []) where
  pub posted_done : a ≡ answer.Done → fulls' ≡ fulls → wants' ≡ wants → MessagesPosted session (x ∷ []) fulls fulls' wants wants' posts posts' (Ok tt)
  posted_done done fs ws = record {
    given = x ∷ [];
    rest = [];
    arrived = refl;
    hosts = record { at = record { 0 = 0 }; event = event.Host session x; answer = a } ∷ [];
    grew = grew;
    are_hosts = (refl, refl, tt);
    ends = (refl, (λ (is : a ≡ answer.Ended). absurd (cc (done, is)), tt), fs, ws);
  }

  pub posted_ended : a ≡ answer.Ended → MessagesPosted session (x ∷ []) fulls fulls' wants wants' posts posts' (Err stop.Ended)
  posted_ended ended = record {
    given = x ∷ [];
    rest = [];
    arrived = refl;
    hosts = record { at = record { 0 = 0 }; event = event.Host session x; answer = a } ∷ [];
    grew = grew;
    are_hosts = (refl, refl, tt);
    ends = (([], record { at = record { 0 = 0 }; event = event.Host session x; answer = a }, refl, ended), one_behind [] (record { at = record { 0 = 0 }; event = event.Host session x; answer = a }) tt);
  }

module _ (session fulls fulls' wants wants' : ℕ) (posts posts' : List Post) (xs : List Arrival) (same : posts' ≡ posts) where
  pub posted_full : fulls' ≡ one_more fulls → wants' ≡ wants → MessagesPosted session xs fulls fulls' wants wants' posts posts' (Err stop.Full)
  posted_full fs ws = record {
    given = [];
    rest = xs;
    arrived = refl;
    hosts = [];
    grew = same ∙ sym (append-nil posts);
    are_hosts = tt;
    ends = (tt, fs, ws);
  }

  pub posted_no_memory : wants' ≡ one_more wants → MessagesPosted session xs fulls fulls' wants wants' posts posts' (Err stop.NoMemory)
  posted_no_memory ws = record {
    given = [];
    rest = xs;
    arrived = refl;
    hosts = [];
    grew = same ∙ sym (append-nil posts);
    are_hosts = tt;
    ends = (tt, ws);
  }

pub posted_uncut : (session fulls wants : ℕ) (posts : List Post) (xs : List Arrival) → MessagesPosted session xs fulls fulls wants wants posts posts (Err stop.Uncut)
posted_uncut session fulls wants posts xs = record {
  given = [];
  rest = xs;
  arrived = refl;
  hosts = [];
  grew = sym (append-nil posts);
  are_hosts = tt;
  ends = (tt, refl, refl);
}

-- the reader stopped at one of these, and so it does where more follow
pub posted_before : (session : ℕ) (xs more : List Arrival) (fulls fulls' wants wants' : ℕ) (posts posts' : List Post) (why : ReadStop) → ((cause : SessionCause) → why ≢ stop.Down cause)
    → MessagesPosted session xs fulls fulls' wants wants' posts posts' (Err why) → MessagesPosted session (xs ++ more) fulls fulls' wants wants' posts posts' (Err why)
posted_before session xs more f f' w w' posts posts' why no_down a = record {
  given = a.given;
  rest = a.rest ++ more;
  arrived = ap (λ (l : List Arrival). l ++ more) a.arrived ∙ append_assoc a.given a.rest more;
  hosts = a.hosts;
  grew = a.grew;
  are_hosts = a.are_hosts;
  ends = end_before f f' w w' a.rest (a.rest ++ more) a.hosts why no_down a.ends;
}

-- all were posted, and then the session ended for another cause
pub posted_down : (session : ℕ) (xs : List Arrival) (fulls fulls' wants wants' : ℕ) (posts posts' : List Post) (why : SessionCause)
    → MessagesPosted session xs fulls fulls' wants wants' posts posts' (Ok tt) → MessagesPosted session xs fulls fulls' wants wants' posts posts' (Err (stop.Down why))
posted_down session xs f f' w w' posts posts' why a =
    record { given = a.given; rest = a.rest; arrived = a.arrived; hosts = a.hosts; grew = a.grew; are_hosts = a.are_hosts; ends = a.ends }

-- ---- the end of the run

pub quit_tried : (r : Result Answer PostFault) (fulls fulls' wants wants' : ℕ) (posts posts' : List Post) → (r ≡ Err fault.Again → IsTrue (may_wait (event.Oper oper.Quit)))
    → IfOk r (λ a. posts' ≡ posts ++ record { at = record { 0 = 0 }; event = event.Oper oper.Quit; answer = a } ∷ []) → OnErr r (posts' ≡ posts)
    → Rises (is_full r) fulls fulls' → Rises (is_want r) wants wants' → QuitTried fulls fulls' wants wants' posts posts'
quit_tried (Ok a) f f' w w' posts posts' waits recorded unrecorded fs ws =
    record { behind = record { at = record { 0 = 0 }; event = event.Oper oper.Quit; answer = a } ∷ []; grew = recorded; ends = inl ((refl, refl, tt), fs) }
quit_tried (Err fault.Again) f f' w w' posts posts' waits recorded unrecorded fs ws = absurd (true≢false (sym (waits refl)))
quit_tried (Err (fault.Full entries)) f f' w w' posts posts' waits recorded unrecorded fs ws =
    record { behind = []; grew = unrecorded ∙ sym (append-nil posts); ends = inr (inl (refl, fs)) }
quit_tried (Err fault.NoMemory) f f' w w' posts posts' waits recorded unrecorded fs ws =
    record { behind = []; grew = unrecorded ∙ sym (append-nil posts); ends = inr (inr (refl, fs, ws)) }
