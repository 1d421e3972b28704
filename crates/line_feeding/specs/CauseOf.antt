-- Which cause the end of an input is, and what a refused configuration is.
use Rattle.std.specs.Prelude.{ℕ, ⊤, List, length}
use Rattle.outside.specs.Counts.{Rose}
use Rattle.tool_events.specs.declared.entry.Entry.{Entry}
use Rattle.gem_model.specs.Sizes.{bytes_of}
use Rattle.configuration.specs.declared.fault.ConfigFault.{ConfigFault}
use Rattle.configuration.specs.declared.fault.ConfigFault.TheVariants as fault
use Rattle.configuration.specs.Reading.{Breaks}
use Rattle.run_causes.specs.declared.cause.Cause.{Cause}
use Rattle.run_causes.specs.declared.cause.Cause.TheVariants as cause
use Rattle.line_feeding.specs.declared.halt.Halt.TheVariants as halt
use Rattle.line_feeding.specs.declared.halt.InputEnd.{InputEnd}
use Rattle.line_feeding.specs.declared.halt.InputEnd.TheVariants as input
use Rattle.line_feeding.specs.Fed.{SourceView, IsRefused}

-- why a run ended, by how the reading of its input ended (this tool's profile, statuses)
abbrev pub cause_after : InputEnd → ℕ → List Entry → ℕ → Cause
cause_after input.Whole count history number = cause.Done
cause_after input.Fault count history number = cause.ReadFault
cause_after input.Bound count history number = cause.Full (length history) (bytes_of history) count
cause_after (input.Halted (halt.Line place)) count history number = cause.Line number place
cause_after (input.Halted halt.Quit) count history number = cause.Done
cause_after (input.Halted halt.Full) count history number = cause.Full (length history) (bytes_of history) count
cause_after (input.Halted halt.Write) count history number = cause.WriteFault
cause_after (input.Halted halt.NoMemory) count history number = cause.NoMemory

-- why a run ended, by why the text of its configuration says none (this tool's profile, statuses)
abbrev pub cause_for : ConfigFault → Cause
cause_for (fault.Rule rule key) = cause.Config rule key
cause_for fault.NoMemory = cause.NoMemory

-- why a text that was read says no configuration
abbrev pub Unsaid : List ℕ → Cause → Type 0
Unsaid text (cause.Config rule key) = Breaks text (fault.Rule rule key)
Unsaid text cause.NoMemory = ⊤
Unsaid text _ = ⊥

-- why no configuration was taken
abbrev pub Refuses : Cause → SourceView → SourceView → Type 0
Refuses (cause.Config rule key) config config' = IsRefused config config' rule key
Refuses cause.ReadFault config config' = Rose config.faults config'.faults
Refuses cause.NoMemory config config' = ⊤
Refuses _ config config' = ⊥
