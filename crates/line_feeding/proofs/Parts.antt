-- One part of feed after another, where the next depends on the state; and the messages of a session.
use Rattle.std.proofs.Common.{◌≡◌, ℕ, Bool, true, false, List, [], ◌∷◌, Result, Ok, Err, ap, subst, if◌then◌else◌}
use Rattle.hsms_frame.specs.declared.frame.Arrival.{Arrival}
use Rattle.gem_model.specs.State.{State, is_session_up}
use Rattle.gem_model.specs.Feed.{Given, nothing, message, messages, and_then}
use Rattle.history_parts.specs.CoreView.{CoreView}
use Rattle.line_feeding.specs.declared.halt.Halt.{Halt}
use Rattle.line_feeding.specs.Going.{Goes, SinkView}
use Rattle.line_feeding.proofs.Going.{Goes-then, Goes-halts, Goes-nothing}

-- the session that the messages are of is over
pub Goes-messages-over : (a : CoreView) (out : SinkView) (session : ℕ) (arrival : Arrival) (arrivals : List Arrival) (short : Bool) → is_session_up a.state session ≡ false → Goes a a out out (messages a.state session (arrival ∷ arrivals) short) (Ok tt)
Goes-messages-over a out session arrival arrivals short over =
    let over_is : messages a.state session (arrival ∷ arrivals) short ≡ nothing a.state = ap (λ (b : Bool). if b then and_then (message a.state session arrival) (λ h. messages h session arrivals short) else nothing a.state) over in
    rw over_is (Goes-nothing a out)

messages-up : (g : State) (session : ℕ) (arrival : Arrival) (arrivals : List Arrival) (short : Bool) → is_session_up g session ≡ true → messages g session (arrival ∷ arrivals) short ≡ and_then (message g session arrival) (λ h. messages h session arrivals short)
messages-up g session arrival arrivals short up = ap (λ (b : Bool). if b then and_then (message g session arrival) (λ h. messages h session arrivals short) else nothing g) up

pub Goes-and_then : (a b c : CoreView) (o1 o2 o3 : SinkView) (first : Given) (more : State → Given) (result : Result (Unit {0}) Halt) → Goes a b o1 o2 first (Ok tt) → Goes b c o2 o3 (more b.state) result → Goes a c o1 o3 (and_then first more) result
Goes-and_then a b c o1 o2 o3 first more result h i =
    (Goes-then a b c o1 o2 o3 first (more first.state) result h (subst (λ (s : State). Goes b c o2 o3 (more s) result) h.went.1 i))

pub Goes-and_then-halts : (a b : CoreView) (o1 o2 : SinkView) (first : Given) (more : State → Given) (why : Halt) → Goes a b o1 o2 first (Err why) → Goes a b o1 o2 (and_then first more) (Err why)
Goes-and_then-halts a b o1 o2 first more why h = Goes-halts a b o1 o2 first (more first.state) why h

pub Goes-messages-next : (a b c : CoreView) (o1 o2 o3 : SinkView) (session : ℕ) (arrival : Arrival) (arrivals : List Arrival) (short : Bool) (result : Result (Unit {0}) Halt) → is_session_up a.state session ≡ true → Goes a b o1 o2 (message a.state session arrival) (Ok tt) → Goes b c o2 o3 (messages b.state session arrivals short) result → Goes a c o1 o3 (messages a.state session (arrival ∷ arrivals) short) result
Goes-messages-next a b c o1 o2 o3 session arrival arrivals short result up h i =
    rw (messages-up a.state session arrival arrivals short up) (Goes-and_then a b c o1 o2 o3 (message a.state session arrival) (λ h. messages h session arrivals short) result h i)

pub Goes-messages-halts : (a b : CoreView) (o1 o2 : SinkView) (session : ℕ) (arrival : Arrival) (arrivals : List Arrival) (short : Bool) (why : Halt) → is_session_up a.state session ≡ true → Goes a b o1 o2 (message a.state session arrival) (Err why) → Goes a b o1 o2 (messages a.state session (arrival ∷ arrivals) short) (Err why)
Goes-messages-halts a b o1 o2 session arrival arrivals short why up h =
    rw (messages-up a.state session arrival arrivals short up) (Goes-and_then-halts a b o1 o2 (message a.state session arrival) (λ h. messages h session arrivals short) why h)
