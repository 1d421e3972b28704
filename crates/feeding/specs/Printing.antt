-- The lines of an answer, and where they go.
use Rattle.std.specs.Prelude.{◌≡◌, ◌≤◌, List, ◌++◌, ℕ, Option, Result, Ok, Err}
use Rattle.gem_ids.specs.declared.numbers.ModuleId.{ModuleId}
use Rattle.outside.specs.Counts.{Failed}
use Rattle.outside.specs.Told.{Written, WrittenFront}
use Rattle.tool_events.specs.declared.answer.Answer.{Answer}
use Rattle.tool_events.specs.declared.event.SessionEnd.{SessionEnd}
use Rattle.gem_model.specs.Printed.{answer_line, end_line, line_bytes}
use Rattle.driving.specs.declared.handler.Stop.{Stop}
use Rattle.driving.specs.declared.handler.Stop.TheVariants as stop
use Rattle.driving.specs.declared.handler.Unhandled.{Unhandled}
use Rattle.driving.specs.declared.handler.Unhandled.TheVariants as unhandled
use Rattle.driving.specs.Handling.{Handling}
use Rattle.line_feeding.specs.declared.halt.Halt.{Halt}
use Rattle.line_feeding.specs.declared.halt.Halt.TheVariants as halt
use Rattle.line_feeding.specs.Going.{SinkView}

-- these bytes are out, and no write failed
pub record WritesAll (bytes : List ℕ) (out out' : SinkView) : Type 0 where
  pub written : Written out.held out'.held bytes
  pub faults : out'.faults ≡ out.faults
  pub refusals : out'.refusals ≡ out.refusals

-- a front of these bytes is out, and a write failed, or took nothing of a piece
pub record WritesFront (bytes : List ℕ) (out out' : SinkView) : Type 0 where
  pub front : WrittenFront out.held out'.held bytes
  pub cause : Failed out.faults out'.faults out.refusals out'.refusals
  pub faults_stay : out.faults ≤ out'.faults
  pub refusals_stay : out.refusals ≤ out'.refusals

-- what a printer does with bytes, by how it ended; without memory it writes nothing
abbrev pub WritesAs : List ℕ → SinkView → SinkView → Result (Unit {0}) Unhandled → Type 0
WritesAs bytes out out' (Ok done) = WritesAll bytes out out'
WritesAs bytes out out' (Err unhandled.NoMemory) = out' ≡ out
WritesAs bytes out out' (Err unhandled.Refused) = WritesFront bytes out out'

-- an answer is handled by writing its line, and then that of the session that ended (this tool's profile, output lines)
abbrev pub prints : {K : Type 0} → (K → SinkView) → Handling K
prints see m answer ended out out' result = WritesAs (line_bytes (answer_line m answer) ++ line_bytes (end_line ended)) (see out) (see out') result

-- why the lines halt where the engine stops: what refuses an answer is the output
abbrev pub halted : Result (Unit {0}) Stop → Result (Unit {0}) Halt
halted (Ok done) = Ok tt
halted (Err stop.Full) = Err halt.Full
halted (Err stop.NoMemory) = Err halt.NoMemory
halted (Err stop.Refused) = Err halt.Write
