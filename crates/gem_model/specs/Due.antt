-- What is due at a look at the clock, in order (this tool's profile, deadlines).
use Rattle.std.specs.Prelude.{ℕ, zero, suc, ◌+◌, Bool, true, false, ◌&&◌, ◌||◌, is_some, List, [], ◌∷◌, length, map, Option, Some, None}
use Rattle.gem_states.specs.declared.communication.Comm.{Comm}
use Rattle.gem_states.specs.declared.communication.Comm.TheVariants as comm
use Rattle.hsms_frame.specs.Spelling.{message_bytes}
use Rattle.hsms_link.specs.declared.state.Ping.TheVariants.{Asked}
use Rattle.hsms_link.specs.declared.deadlines.LinkTimes.{LinkTimes}
use Rattle.hsms_link.specs.declared.deadlines.LinkDue.{LinkDue}
use Rattle.hsms_link.specs.declared.deadlines.LinkDue.TheVariants as link
use Rattle.hsms_link.specs.Deadlines.{due_at, has_come}
use Rattle.tool_events.specs.declared.event.SessionCause.{SessionCause}
use Rattle.tool_events.specs.declared.event.SessionCause.TheVariants as cause
use Rattle.transactions.specs.declared.transaction.Open.{Open}
use Rattle.transactions.specs.Table.{without, taken_out}
use Rattle.transactions.specs.SystemBytes.{drawn}
use Rattle.transactions.specs.Endings.{first_expired}
use Rattle.gem_model.specs.State.{State, t6, t7, linktest_period, is_selected, with_frame}
use Rattle.gem_model.specs.Fire.{fires}
use Rattle.gem_model.specs.Direct.{timeout_rows}
use Rattle.gem_model.specs.Sending.{data_header, draws, sends_stream9}
use Rattle.gem_model.specs.Act.{session_ended}

-- what is due: the session's end, a linktest of the tool, or the end of a transaction whose T3 is over
pub data Due : Type 0 where
  EndOfSession : SessionCause → Due
  Linktest : Due
  Timeout : Open → Due

-- the times of the link
abbrev pub link_times : State → LinkTimes
link_times g = record { t6 = t6 g; t7 = t7 g; period = linktest_period g }

-- the expired ones of some transactions, of so many at most, by deadline and then by system bytes
abbrev pub expired_from : ℕ → ℕ → List Open → Option Open → List Open
expired_from zero at opened first = []
expired_from (suc n) at opened None = []
expired_from (suc n) at opened (Some one) =
    one ∷ expired_from n at (without one.system opened) (first_expired at (without one.system opened))

-- the transactions whose T3 is over, in order
abbrev pub expired : State → List Open
expired g = expired_from (length g.transactions.opened) g.moment g.transactions.opened (first_expired g.moment g.transactions.opened)

abbrev pub timeouts : State → List Due
timeouts g = map (λ one. Timeout one) (expired g)

-- T7 and T6 come first and end the session, and with it all else; then the linktest; then the transactions
abbrev pub dues_with : State → Option LinkDue → List Due
dues_with g (Some link.T7) = EndOfSession cause.T7 ∷ []
dues_with g (Some link.T6) = EndOfSession cause.T6 ∷ []
dues_with g (Some link.AskLinktest) = Linktest ∷ timeouts g
dues_with g None = timeouts g

-- what is due in a state whose moment was raised
abbrev pub dues : State → List Due
dues g = dues_with g (due_at (link_times g) g.link g.moment)

-- the communication delay has come to its end, while the link is selected
abbrev pub delay_has_come : ℕ → Comm → Bool
delay_has_come at (comm.WaitDelay until) = has_come until at
delay_has_come at _ = false

-- the heartbeat comes so many hundredths after the last moment
abbrev pub heartbeat : ℕ
heartbeat = 100

-- some deadline has come, where the moment was raised from this one
abbrev pub is_due : ℕ → State → Bool
is_due before g =
    is_some (due_at (link_times g) g.link g.moment)
    || (is_some (first_expired g.moment g.transactions.opened)
    || ((delay_has_come g.moment g.comm && is_selected g) || has_come (before + heartbeat) g.moment))

-- ---- what each does

-- a linktest request of the tool waits for the writer, and the linktest is open (SEMI E37, linktest)
abbrev pub asks_linktest : State → State
asks_linktest g =
    with_frame (message_bytes (record { session = 65535; byte2 = 0; byte3 = 0; ptype = 0; stype = 5; system = drawn g.transactions }) [])
    (record (draws g) { link = record g.link { ping = Asked (drawn g.transactions) (record { 0 = g.moment }) } })

-- T3 of a transaction is over: it is open no more, S9F9 tells its header, and its rows fire (SEMI E5, S9F9)
abbrev pub timed_out : Open → State → State
timed_out one g =
    fires (timeout_rows one.what)
    (sends_stream9 9 (data_header g.config.device true one.stream one.function one.system)
    (record g { transactions = taken_out (Some one) g.transactions }))

-- what is due is done
abbrev pub due_done : Due → State → State
due_done (EndOfSession cause) g = session_ended g
due_done Linktest g = asks_linktest g
due_done (Timeout one) g = timed_out one g

-- all that is due is done, in order
abbrev pub all_done : List Due → State → State
all_done [] g = g
all_done (due ∷ dues) g = all_done dues (due_done due g)
