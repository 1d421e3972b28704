-- What a data message of the host was answered.
use Rattle.std.specs.Prelude.{ℕ, ◌+◌, if◌then◌else◌}
use Rattle.hsms_frame.specs.declared.frame.Header.{Header}
use Rattle.hsms_frame.specs.declared.frame.Arrival.{Arrival}
use Rattle.gem_model.specs.State.{State}
use Rattle.gem_model.specs.Verdict.{Verdict, Discarded, Stream9, Aborted, Answers, Taken, verdict, header_of, wants_reply, stream_of, function_of}
use Rattle.core_host.specs.declared.data.HostAct.{HostAct}
use Rattle.core_host.specs.declared.data.HostAct.TheVariants as act

-- a reply of this function in the stream of the message, where the W-bit asks for one (SEMI E5, transaction protocol)
abbrev pub reply_act : Header → ℕ → HostAct
reply_act h function = if wants_reply h then act.Reply (stream_of h) function else act.Silent

-- by the verdict: a message of stream 9; function 0 for one that is aborted, and the function behind its own for one that is
-- taken; nothing for one that is discarded, and for one that answers the tool (SEMI E5, streams and functions; this tool's
-- profile, data messages)
abbrev pub act_of : Header → Verdict → HostAct
act_of h Discarded = act.Silent
act_of h (Stream9 function) = act.Stream9 function
act_of h Aborted = reply_act h 0
act_of h Answers = act.Silent
act_of h (Taken m) = reply_act h (function_of h + 1)

-- what a data message is answered, by the state before it
abbrev pub host_act : State → Arrival → HostAct
host_act g arrival = act_of (header_of arrival) (verdict g arrival)
