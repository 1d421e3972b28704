-- The lines of the input, as the profile prints them (this tool's profile, input lines and operator words).
use Rattle.std.specs.Prelude.{ℕ, ◌-◌, true, false, codes, if◌then◌else◌, Option, Some, None, List, map}
use Rattle.std.specs.Str.{bytes_eq}
use Rattle.gem_ids.specs.Moments.{last_moment}
use Rattle.tool_events.specs.declared.event.OperCmd.{OperCmd}
use Rattle.tool_events.specs.declared.event.OperCmd.TheVariants as oper
use Rattle.tool_events.specs.declared.event.Signal.{Signal}
use Rattle.tool_events.specs.declared.event.Signal.TheVariants as signal
use Rattle.tool_tasks.specs.declared.words.JobWord.{JobWord}
use Rattle.tool_tasks.specs.declared.words.JobWord.TheVariants as job
use Rattle.line_grammar.specs.Words.{number, run, hex}
use Rattle.line_grammar.specs.Grammar.{Grammar, gives, anything, last, literal, word, says, mapped, ◌or◌, ◌>>=◌, ◌>>◌}
use Rattle.line_grammar.specs.declared.kind.WordKind.TheVariants.{Name, Substrate, SlotMap}
use Rattle.line_grammar.specs.declared.line.Line.{Line}
use Rattle.line_grammar.specs.declared.line.Line.TheVariants as line

-- ---- what an operator says

-- `service p in` and `service p out`: a port goes in service, or out of it (this tool's profile, operator words)
unfoldable pub service_words : Grammar OperCmd
service_words = do
  literal (codes "service ")
  port ← word (number 255)
  says (codes "in") (oper.Service (record { 0 = port }) true) or says (codes "out") (oper.Service (record { 0 = port }) false)

-- `access p auto` and `access p manual`: the access mode of a port (this tool's profile, operator words)
unfoldable pub access_words : Grammar OperCmd
access_words = do
  literal (codes "access ")
  port ← word (number 255)
  says (codes "auto") (oper.Access (record { 0 = port }) true) or says (codes "manual") (oper.Access (record { 0 = port }) false)

-- a word to a process job, and the job's name behind it
unfoldable pub job_word : List ℕ → JobWord → Grammar OperCmd
job_word verb w = literal verb >> last (run Name) (λ id. oper.Job id w)

-- `pj WORD JOB`: a process job is told one of six words (this tool's profile, operator words)
unfoldable pub job_words : Grammar OperCmd
job_words = do
  literal (codes "pj ")
  job_word (codes "start ") job.Start or job_word (codes "pause ") job.Pause or job_word (codes "resume ") job.Resume or job_word (codes "stop ") job.Stop or job_word (codes "abort ") job.Abort or job_word (codes "cancel ") job.Cancel

-- `cj n JOB`: command n to a control job (this tool's profile, operator words)
unfoldable pub control_job_words : Grammar OperCmd
control_job_words = do
  literal (codes "cj ")
  n ← word (number 255)
  last (run Name) (λ id. oper.CtlJob id n)

-- `up m`: a module is up again (this tool's profile, operator words)
unfoldable pub up_words : Grammar OperCmd
up_words = literal (codes "up ") >> last (number 255) (λ m. oper.Up (record { 0 = m }))

-- `clear n`: the alarm of this number is cleared (this tool's profile, operator words)
unfoldable pub clear_words : Grammar OperCmd
clear_words = literal (codes "clear ") >> last (number 4294967295) (λ alarm. oper.Clear alarm)

-- `lost SUBSTRATE`: a substrate is lost (this tool's profile, operator words)
unfoldable pub lost_words : Grammar OperCmd
lost_words = literal (codes "lost ") >> last (run Substrate) (λ id. oper.Lost id)

-- all that an operator may say (this tool's profile, operator words)
unfoldable pub operator_words : Grammar OperCmd
operator_words = says (codes "enable") oper.Enable
    or says (codes "disable") oper.Disable
    or says (codes "online") oper.Online
    or says (codes "offline") oper.Offline
    or says (codes "local") oper.Local
    or says (codes "remote") oper.Remote
    or says (codes "quit") oper.Quit
    or service_words
    or access_words
    or job_words
    or control_job_words
    or up_words
    or clear_words
    or lost_words

-- ---- what the equipment tells

-- the id of a carrier, which is unread where it is a dash (this tool's profile, input lines)
abbrev pub read_id : List ℕ → Option (List ℕ)
read_id id = if bytes_eq id (codes "-") then None else Some id

-- the codes of the slots, of their digits (SEMI E87, slot map)
abbrev pub slot_codes : List ℕ → List ℕ
slot_codes digits = map (λ digit. digit - 48) digits

-- `S placed p id digits`: a carrier was placed at a port (this tool's profile, input lines)
unfoldable pub placed_line : Grammar Signal
placed_line = do
  literal (codes "S placed ")
  port ← word (number 255)
  id ← word (run Name)
  last (run SlotMap) (λ digits. signal.Placed (record { 0 = port }) (read_id id) (slot_codes digits))

-- `S removed p`: the carrier at a port was taken away (this tool's profile, input lines)
unfoldable pub removed_line : Grammar Signal
removed_line = literal (codes "S removed ") >> last (number 255) (λ p. signal.Removed (record { 0 = p }))

-- `S done m n`: module m did command n (this tool's profile, input lines)
unfoldable pub done_line : Grammar Signal
done_line = do
  literal (codes "S done ")
  m ← word (number 255)
  last (number 18446744073709551615) (λ n. signal.Done (record { 0 = m }) (record { 0 = n }))

-- `S failed m n`: module m failed at command n (this tool's profile, input lines)
unfoldable pub failed_line : Grammar Signal
failed_line = do
  literal (codes "S failed ")
  m ← word (number 255)
  last (number 18446744073709551615) (λ n. signal.Failed (record { 0 = m }) (record { 0 = n }))

-- `S down m`: module m went down (this tool's profile, input lines)
unfoldable pub down_line : Grammar Signal
down_line = literal (codes "S down ") >> last (number 255) (λ m. signal.Down (record { 0 = m }))

-- ---- the lines

-- `#` and anything behind it (this tool's profile, input lines)
unfoldable pub comment_line : Grammar Line
comment_line = literal (codes "#") >> anything line.Skip

-- the empty line, and a comment, which say nothing (this tool's profile, input lines)
unfoldable pub skipped_line : Grammar Line
skipped_line = gives line.Skip or comment_line

-- `T n`: a look at the clock, at a moment up to the last (this tool's profile, input lines)
unfoldable pub moment_line : Grammar Line
moment_line = literal (codes "T ") >> last (number last_moment) (λ at. line.Moment (record { 0 = at }))

-- `H hex`: bytes of the host (this tool's profile, input lines)
unfoldable pub hex_line : Grammar Line
hex_line = literal (codes "H ") >> last hex (λ bytes. line.Bytes bytes)

-- `O words`: an operator says something (this tool's profile, input lines)
unfoldable pub operator_line : Grammar Line
operator_line = literal (codes "O ") >> mapped (λ c. line.Oper c) operator_words

-- the `S` lines: the equipment tells something (this tool's profile, input lines)
unfoldable pub signal_line : Grammar Line
signal_line = mapped (λ s. line.Signal s) (placed_line or removed_line or done_line or failed_line or down_line)

-- `W p`: a script waits for a port (this tool's profile, scripts)
unfoldable pub watch_line : Grammar Line
watch_line = literal (codes "W ") >> last (number 255) (λ p. line.Watch (record { 0 = p }))

-- the lines that both `feed` and a script take (this tool's profile, input lines)
unfoldable pub common_lines : Grammar Line
common_lines = skipped_line or signal_line or operator_line

-- the lines that only `feed` takes (this tool's profile, input lines)
unfoldable pub link_lines : Grammar Line
link_lines = says (codes "L+") line.Up or says (codes "L-") line.Down or moment_line or hex_line

-- the lines that `feed` takes (this tool's profile, input lines)
unfoldable pub feed_lines : Grammar Line
feed_lines = common_lines or link_lines

-- the lines that a script has (this tool's profile, scripts)
unfoldable pub script_lines : Grammar Line
script_lines = common_lines or watch_line

-- all lines
unfoldable pub all_lines : Grammar Line
all_lines = feed_lines or watch_line
