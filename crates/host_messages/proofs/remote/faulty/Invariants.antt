use Rattle.std.proofs.Common.{◌≡◌, ◌++◌, [], take, drop}
use Rattle.gem_model.specs.Remote.{faulty}
use Rattle.host_messages.specs.Remotes.{remote_view, was_taken}
use Rattle.host_messages.proofs.remote.faulty.Given as goal

-- the faults that were found stand before those that the other parameters give; one that the command takes stands before this place or not
abbrev pub invariant-loop-parameter : goal.invariant-loop-parameter
invariant-loop-parameter l =
    (faulty (remote_view l.initial.command) l.initial.alarms [] l.initial.parameters
    ≡ l.faults ++ faulty (remote_view l.initial.command) l.initial.alarms (take l.parameter-index l.initial.parameters) (drop l.parameter-index l.initial.parameters))
    × (l.is_given ≡ was_taken (remote_view l.initial.command) (take l.parameter-index l.initial.parameters))
