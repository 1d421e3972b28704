-- What was read of a configuration, from its text.
use Rattle.std.proofs.Common.{◌≡◌, ℕ, ◌+◌, ◌<◌, ◌≤◌, List, length, Err, arith}
use Rattle.outside.specs.Counts.{Rose}
use Rattle.outside.specs.Told.{Taken, Whole}
use Rattle.tool_events.specs.declared.config.Config.{Config}
use Rattle.configuration.specs.declared.fault.ConfigFault.{ConfigFault}
use Rattle.configuration.specs.declared.fault.ConfigFault.TheVariants as fault
use Rattle.configuration.specs.Reading.{configuration_bytes, Says, Reads}
use Rattle.run_causes.specs.declared.cause.Cause.{Cause}
use Rattle.run_causes.specs.declared.cause.Cause.TheVariants as cause
use Rattle.line_feeding.specs.CauseOf.{cause_for, Unsaid, Refuses}
use Rattle.line_feeding.specs.Fed.{SourceView, IsRead, IsRefused}

-- the text says no configuration, for the cause that is told
pub unsaid : (text : List ℕ) (broken : ConfigFault) → Reads text (Err broken) → Unsaid text (cause_for broken)
unsaid text (fault.Rule rule key) reads = reads
unsaid text fault.NoMemory reads = tt

-- a text that was read and says a configuration was read to its end, since no longer one says any
pub is_read : (config config' : SourceView) (text : List ℕ) (c : Config) → Taken config.left config'.left text → (length text < configuration_bytes + 1 → Whole config.left text) → (length text < configuration_bytes + 1 → Rose config.ends config'.ends) → Says text c → IsRead config config' c
is_read config config' text c taken whole end says =
    let fits = says.1.0 in
    record {
      text = text;
      taken = taken;
      says = says;
      whole = whole (omega (arith, fits));
      end = end (omega (arith, fits));
    }

-- a text that was read and says none
pub refuses : (config config' : SourceView) (text : List ℕ) (why : Cause) → Taken config.left config'.left text → (length text < configuration_bytes + 1 → Whole config.left text) → length text ≤ configuration_bytes + 1 → Unsaid text why → Refuses why config config'
refuses config config' text (cause.Config rule key) taken whole most breaks = record {
  text = text;
  taken = taken;
  breaks = breaks;
  whole = λ fits. whole (omega (arith, fits));
  most = most;
}
refuses config config' text cause.NoMemory taken whole most unsaid = tt
refuses config config' text _ taken whole most unsaid = absurd unsaid
