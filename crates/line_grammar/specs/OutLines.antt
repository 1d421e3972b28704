-- The lines of the output (this tool's profile, output lines).
use Rattle.std.specs.Prelude.{ℕ, nat_lt, Bool, List, [], ◌∷◌, ◌++◌, codes, if◌then◌else◌}
use Rattle.std.specs.Fmt.{decimal}
use Rattle.hex.specs.Hex.{encode_upper}
use Rattle.gem_ids.specs.declared.numbers.LocId.{LocId}
use Rattle.gem_ids.specs.declared.numbers.LocId.TheVariants as loc
use Rattle.tool_tasks.specs.declared.task.Command.{Command}
use Rattle.tool_tasks.specs.declared.task.Task.{Task}
use Rattle.tool_tasks.specs.declared.task.Task.TheVariants as task
use Rattle.tool_events.specs.declared.event.SessionCause.{SessionCause}
use Rattle.tool_events.specs.declared.event.SessionCause.TheVariants as cause
use Rattle.line_grammar.specs.declared.out_line.OutLine.{OutLine}
use Rattle.line_grammar.specs.declared.out_line.OutLine.TheVariants as out_line

-- a line with its line feed
abbrev pub ended_line : List ℕ → List ℕ
ended_line words = words ++ 10 ∷ []

-- `+ k`: session k came up (this tool's profile, output lines)
abbrev pub up_line : ℕ → List ℕ
up_line k = ended_line (codes "+ " ++ decimal k)

-- `> HEX`: a frame that was taken, in upper case (this tool's profile, output lines)
abbrev pub frame_line : List ℕ → List ℕ
frame_line frame = ended_line (codes "> " ++ encode_upper frame)

-- `= ok` and `= no`: whether an operator's command was accepted (this tool's profile, output lines)
abbrev pub oper_line : Bool → List ℕ
oper_line accepted = ended_line (if accepted then codes "= ok" else codes "= no")

-- the word of a cause (this tool's profile, output lines)
abbrev pub cause_word : SessionCause → List ℕ
cause_word cause.ReadFault = codes "ReadFault"
cause_word cause.WriteFault = codes "WriteFault"
cause_word cause.PeerEnd = codes "PeerEnd"
cause_word cause.ShortLength = codes "ShortLength"
cause_word cause.Separated = codes "Separated"
cause_word cause.T6 = codes "T6"
cause_word cause.T7 = codes "T7"
cause_word cause.Quit = codes "Quit"
cause_word cause.Stopped = codes "Stopped"

-- `- k CAUSE`: session k ended (this tool's profile, output lines)
abbrev pub end_line : ℕ → SessionCause → List ℕ
end_line k cause = ended_line (codes "- " ++ decimal k ++ codes " " ++ cause_word cause)

-- a number in at least two digits
abbrev pub two_digits : ℕ → List ℕ
two_digits n = if nat_lt n 10 then codes "0" ++ decimal n else decimal n

-- the name of a location: `P1.01` is slot 1 at port 1, `C1` chamber 1 (this tool's profile, output lines)
abbrev pub location_name : LocId → List ℕ
location_name (loc.Slot port slot) = codes "P" ++ decimal port.0 ++ codes "." ++ two_digits slot.0
location_name loc.Aligner = codes "AL"
location_name loc.Arm = codes "ARM"
location_name (loc.Chamber n) = codes "C" ++ decimal n

-- the words of a task (this tool's profile, output lines)
abbrev pub task_words : Task → List ℕ
task_words (task.Pick sub from) = codes "pick " ++ sub ++ codes " " ++ location_name from
task_words (task.Place sub to) = codes "place " ++ sub ++ codes " " ++ location_name to
task_words (task.Align sub) = codes "align " ++ sub
task_words (task.Process sub recipe) = codes "process " ++ sub ++ codes " " ++ recipe

-- `! m n TASK`: command n of module m (this tool's profile, output lines)
abbrev pub command_line : ℕ → Command → List ℕ
command_line «module» command = ended_line (codes "! " ++ decimal «module» ++ codes " " ++ decimal command.number.0 ++ codes " " ++ task_words command.task)

-- an output line, with its line feed (this tool's profile, output lines)
abbrev pub out_line_bytes : OutLine → List ℕ
out_line_bytes (out_line.Up k) = up_line k
out_line_bytes (out_line.Ended k cause) = end_line k cause
out_line_bytes (out_line.Frame frame) = frame_line frame
out_line_bytes (out_line.Command «module» command) = command_line «module».0 command
out_line_bytes (out_line.Oper accepted) = oper_line accepted
