-- The counts of the bytes that came.
use Rattle.std.proofs.Common.{◌≡◌, ℕ, ◌+◌, inl, Bool, true, false, ◌==◌, if◌then◌else◌, List, length, Result, Ok, Err, refl, sym, ◌∙◌, ap, arith}
use Rattle.std.proofs.lemmas.Bool.{eqb-true}
use Rattle.gem_model.specs.State.{is_up, is_session_up}
use Rattle.gem_ids.specs.declared.moment.Moment.{Moment}
use Rattle.gem_ids.specs.declared.numbers.PortNo.{PortNo}
use Rattle.tool_events.specs.declared.event.OperCmd.{OperCmd}
use Rattle.tool_events.specs.declared.event.Signal.{Signal}
use Rattle.line_grammar.specs.declared.line.Line.{Line}
use Rattle.line_grammar.specs.declared.line.Line.TheVariants as line
use Rattle.gem_model.specs.Feed.{Reading}
use Rattle.gem_model.specs.Sizes.{counted}
use Rattle.gem_model.specs.SessionBytes.{line_bytes_in}
use Rattle.history_parts.specs.Counts.{count_of}
use Rattle.history_parts.specs.CoreView.{CoreView}
use Rattle.line_feeding.specs.declared.halt.Halt.{Halt}
use Rattle.line_feeding.specs.declared.halt.Halt.TheVariants as halt
use Rattle.line_feeding.specs.Reads.{AddsLine, CountsLine}

-- the line is counted, however it ended
pub counts_any : (r : Reading) (line : Line) (counts counts' : List ℕ) (core core' : CoreView) (result : Result (Unit {0}) Halt) → AddsLine r line counts counts' → CountsLine r line counts counts' core core' result
counts_any r line counts counts' core core' (Ok done) adds = adds
counts_any r line counts counts' core core' (Err halt.Write) adds = adds
counts_any r line counts counts' core core' (Err halt.NoMemory) adds = inl adds
counts_any r line counts counts' core core' (Err (halt.Line place)) adds = adds
counts_any r line counts counts' core core' (Err halt.Full) adds = adds
counts_any r line counts counts' core core' (Err halt.Quit) adds = adds

-- a line that gives no bytes leaves the counts
adds_none : (r : Reading) (line : Line) (counts : List ℕ) → ((session : ℕ) → line_bytes_in r line session ≡ 0) → AddsLine r line counts counts
adds_none r line counts none = λ before are session.
    let nothing : before session + line_bytes_in r line session ≡ before session = omega (arith, none session) in
    are session ∙ ap counted (sym nothing)

pub counts_skip : (r : Reading) (counts : List ℕ) (core core' : CoreView) (result : Result (Unit {0}) Halt) → CountsLine r line.Skip counts counts core core' result
counts_skip r counts core core' result = counts_any r line.Skip counts counts core core' result (adds_none r line.Skip counts (λ session. refl))

pub counts_up : (r : Reading) (counts : List ℕ) (core core' : CoreView) (result : Result (Unit {0}) Halt) → CountsLine r line.Up counts counts core core' result
counts_up r counts core core' result = counts_any r line.Up counts counts core core' result (adds_none r line.Up counts (λ session. refl))

pub counts_down : (r : Reading) (counts : List ℕ) (core core' : CoreView) (result : Result (Unit {0}) Halt) → CountsLine r line.Down counts counts core core' result
counts_down r counts core core' result = counts_any r line.Down counts counts core core' result (adds_none r line.Down counts (λ session. refl))

pub counts_time : (r : Reading) (at : Moment) (counts : List ℕ) (core core' : CoreView) (result : Result (Unit {0}) Halt) → CountsLine r (line.Moment at) counts counts core core' result
counts_time r at counts core core' result = counts_any r (line.Moment at) counts counts core core' result (adds_none r (line.Moment at) counts (λ session. refl))

pub counts_oper : (r : Reading) (command : OperCmd) (counts : List ℕ) (core core' : CoreView) (result : Result (Unit {0}) Halt) → CountsLine r (line.Oper command) counts counts core core' result
counts_oper r command counts core core' result = counts_any r (line.Oper command) counts counts core core' result (adds_none r (line.Oper command) counts (λ session. refl))

pub counts_signal : (r : Reading) (signal : Signal) (counts : List ℕ) (core core' : CoreView) (result : Result (Unit {0}) Halt) → CountsLine r (line.Signal signal) counts counts core core' result
counts_signal r signal counts core core' result = counts_any r (line.Signal signal) counts counts core core' result (adds_none r (line.Signal signal) counts (λ session. refl))

pub counts_watch : (r : Reading) (port : PortNo) (counts : List ℕ) (core core' : CoreView) (result : Result (Unit {0}) Halt) → CountsLine r (line.Watch port) counts counts core core' result
counts_watch r port counts core core' result = counts_any r (line.Watch port) counts counts core core' result (adds_none r (line.Watch port) counts (λ session. refl))

-- without a session no bytes are counted
pub counts_dropped : (r : Reading) (bytes counts : List ℕ) (core core' : CoreView) (result : Result (Unit {0}) Halt) → is_up r.state ≡ false → CountsLine r (line.Bytes bytes) counts counts core core' result
counts_dropped r bytes counts core core' result down =
    counts_any r (line.Bytes bytes) counts counts core core' result
    (adds_none r (line.Bytes bytes) counts (λ session. grind (arith, down)))

-- the session that is up is the one that is counted
pub adds_bytes : (r : Reading) (bytes counts counts' : List ℕ) (session : ℕ) → is_session_up r.state session ≡ true → ((k : ℕ) → count_of counts' k ≡ if k == session then counted (count_of counts k + length bytes) else count_of counts k) → AddsLine r (line.Bytes bytes) counts counts'
adds_bytes r bytes counts counts' session up added = λ before are k. one k (k == session) refl (before k) (are k)
  where
    other_session : (k : ℕ) → (k == session) ≡ false → line_bytes_in r (line.Bytes bytes) k ≡ 0
    other_session k other = grind (arith, up, other)

    one : (k : ℕ) (same : Bool) → (k == session) ≡ same → (n : ℕ) → count_of counts k ≡ counted n → count_of counts' k ≡ counted (n + line_bytes_in r (line.Bytes bytes) k)
    one k true same n is =
        let k_is : k ≡ session = eqb-true k session same in
        let given : line_bytes_in r (line.Bytes bytes) k ≡ length bytes = ap (λ (s : ℕ). line_bytes_in r (line.Bytes bytes) s) k_is ∙ ap (λ (b : Bool). if b then length bytes else 0) up in
        let new : count_of counts' k ≡ counted (count_of counts k + length bytes) = added k ∙ ap (λ (b : Bool). if b then counted (count_of counts k + length bytes) else count_of counts k) same in
        omega (arith, new, is, given)
    one k false other n is =
        let given : line_bytes_in r (line.Bytes bytes) k ≡ 0 = other_session k other in
        let new : count_of counts' k ≡ count_of counts k = added k ∙ ap (λ (b : Bool). if b then counted (count_of counts k + length bytes) else count_of counts k) other in
        omega (arith, new, is, given)
