-- What a part of feed does to the core and to the output.
use Rattle.std.specs.Prelude.{◌≡◌, ◌≢◌, ℕ, ◌<◌, ◌≤◌, List, ◌++◌, length, Option, Result, Ok, Err, IsErrOf}
use Rattle.outside.specs.Counts.{Failed}
use Rattle.outside.specs.Told.{Written, WrittenFront}
use Rattle.line_grammar.specs.Texts.{IsFront}
use Rattle.gem_model.specs.State.{opening}
use Rattle.gem_model.specs.Feed.{Given}
use Rattle.gem_model.specs.Printed.{printed}
use Rattle.history_parts.specs.CoreView.{CoreView}
use Rattle.line_feeding.specs.declared.halt.Halt.{Halt}
use Rattle.line_feeding.specs.declared.halt.Halt.TheVariants as halt
use Rattle.driving.specs.Limits.{IsFullAt}

-- what a sink tells: the bytes that it holds, where it tells them, how often it failed, and how often it took nothing
pub record SinkView : Type 0 where
  pub held : Option (List ℕ)
  pub faults : ℕ
  pub refusals : ℕ

-- what a sink tells, by the functions of its type that tell it
abbrev pub seen : {K : Type 0} → (K → Option (List ℕ)) → (K → ℕ) → (K → ℕ) → K → SinkView
seen held faults refusals out = record { held = held out; faults = faults out; refusals = refusals out }

-- The history went on by all that is given; up to an entry that doesn't fit the limits; or, after want of memory or a
-- write fault, by a front of it.
abbrev pub WentOn : CoreView → CoreView → Given → Result (Unit {0}) Halt → Type 0
WentOn core core' given (Ok done) = (core'.history ≡ core.history ++ given.entries) × (core'.state ≡ given.state)
WentOn core core' given (Err halt.Full) = IsFullAt core.config core'.history (core.history ++ given.entries)
WentOn core core' given (Err halt.Write) = IsFront core'.history (core.history ++ given.entries)
WentOn core core' given (Err halt.NoMemory) = IsFront core'.history (core.history ++ given.entries)
WentOn core core' given (Err halt.Quit) = ⊥
WentOn core core' given (Err (halt.Line place)) = ⊥

-- behind what was held at the start, all lines of the history are out
abbrev pub Shows : Option (List ℕ) → SinkView → CoreView → Type 0
Shows start out core = Written start out.held (printed (opening core.config) core.history)

-- all lines are out, or, after want of memory or a write fault, a front of them
abbrev pub ShowsAtEnd : Option (List ℕ) → SinkView → CoreView → Result (Unit {0}) Halt → Type 0
ShowsAtEnd start out core (Ok done) = Shows start out core
ShowsAtEnd start out core (Err halt.Full) = Shows start out core
ShowsAtEnd start out core (Err (halt.Line place)) = Shows start out core
ShowsAtEnd start out core (Err halt.Quit) = Shows start out core
ShowsAtEnd start out core (Err halt.Write) = WrittenFront start out.held (printed (opening core.config) core.history)
ShowsAtEnd start out core (Err halt.NoMemory) = WrittenFront start out.held (printed (opening core.config) core.history)

-- It goes on by what is given and writes the lines of it, or halts.
pub record Goes (core core' : CoreView) (out out' : SinkView) (given : Given) (result : Result (Unit {0}) Halt) : Type 0 where
  pub config : core'.config ≡ core.config
  pub went : WentOn core core' given result
  -- what was in the history stays; a write fault comes with an entry that was added
  pub grows : IsFront core.history core'.history
  pub wrote : IsErrOf result halt.Write → length core.history < length core'.history
  pub shows : (start : Option (List ℕ)) → Shows start out core → ShowsAtEnd start out' core' result
  pub cause : IsErrOf result halt.Write → Failed out.faults out'.faults out.refusals out'.refusals
  pub unfailed : result ≢ Err halt.Write → (out'.faults ≡ out.faults) × (out'.refusals ≡ out.refusals)
  pub faults_stay : out.faults ≤ out'.faults
  pub refusals_stay : out.refusals ≤ out'.refusals
