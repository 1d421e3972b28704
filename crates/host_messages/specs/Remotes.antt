-- What the code's remote commands, and what is decided of them, stand for.
use Rattle.std.specs.Prelude.{ℕ, ◌≤◌, Bool, List, [], length, Option, Some, None}
use Rattle.std.specs.List.{find, list_any}
use Rattle.std.specs.Str.{bytes_eq}
use Rattle.tool_tasks.specs.declared.words.JobWord.{JobWord}
use Rattle.request_model.specs.declared.error.JobError.{JobError}
use Rattle.request_model.specs.declared.error.JobError.TheVariants.{UnknownObject}
use Rattle.gem_model.specs.Remote as model
use Rattle.gem_model.specs.Remote.{Parameter, takes}
use Rattle.host_messages.specs.declared.remote.RemoteCommand.{RemoteCommand}
use Rattle.host_messages.specs.declared.remote.RemoteCommand.TheVariants as code
use Rattle.host_messages.specs.declared.remote.Hcack.{Hcack}
use Rattle.host_messages.specs.declared.remote.Hcack.TheVariants as hcack
use Rattle.host_messages.specs.declared.remote.Decision.{Decision}
use Rattle.host_messages.specs.declared.remote.Decision.TheVariants as decision

-- the command of the definitions that a command of the code stands for
abbrev pub remote_view : RemoteCommand → model.RemoteCommand
remote_view code.GoLocal = model.GoLocal
remote_view code.ClearAlarm = model.ClearAlarm
remote_view (code.ToJob word) = model.ToJob word

-- the code of the definitions that a code of the code stands for
abbrev pub hcack_view : Hcack → model.Hcack
hcack_view hcack.UnknownCommand = model.UnknownCommand
hcack_view hcack.NotNow = model.NotNow
hcack_view hcack.FaultyParameter = model.FaultyParameter
hcack_view hcack.AlreadySo = model.AlreadySo
hcack_view hcack.NoObject = model.NoObject

-- the decision of the definitions that a decision of the code stands for
abbrev pub decision_view : Decision → model.Decision
decision_view (decision.Refused code faults) = model.refused (hcack_view code) faults
decision_view decision.GoesLocal = model.goes_local
decision_view (decision.Clears alid) = model.clears alid
decision_view (decision.Commands job word) = model.commands job word

-- a parameter that the command takes is one of these
abbrev pub was_taken : model.RemoteCommand → List Parameter → Bool
was_taken command ps = list_any (λ p. takes command p.0) ps

-- the first parameter of a name
abbrev pub parameter_named : List ℕ → List Parameter → Option Parameter
parameter_named name ps = find (λ p. bytes_eq p.0 name) ps

-- HCACK of a command to a process job, by why it isn't done
abbrev pub hcack_of : JobError → model.Hcack
hcack_of UnknownObject = model.NoObject
hcack_of _ = model.NotNow

-- what is decided of a command to a process job, by why it isn't done
abbrev pub decided_so : List ℕ → JobWord → Option JobError → model.Decision
decided_so job word None = model.commands job word
decided_so job word (Some error) = model.refused (hcack_of error) []

-- at most so many faulty parameters are listed
abbrev pub ListsFew : ℕ → Decision → Type 0
ListsFew most (decision.Refused code faults) = length faults ≤ most
ListsFew most _ = Unit {0}
