-- The counts of the bytes that came in each session.
use Rattle.std.specs.Prelude.{◌≡◌, ℕ, ◌+◌, ◌⊎◌, List, Result, Err}
use Rattle.tool_events.specs.declared.config.Config.{Config}
use Rattle.line_grammar.specs.declared.line.Line.{Line}
use Rattle.gem_model.specs.Feed.{Reading}
use Rattle.gem_model.specs.Sizes.{counted}
use Rattle.gem_model.specs.SessionBytes.{line_bytes_in, session_in}
use Rattle.history_parts.specs.Counts.{count_of}
use Rattle.history_parts.specs.CoreView.{CoreView}
use Rattle.line_feeding.specs.declared.halt.Halt.{Halt}
use Rattle.line_feeding.specs.declared.halt.Halt.TheVariants as halt

-- these are the counts of so many bytes of each session
abbrev pub AreCounts : List ℕ → (ℕ → ℕ) → Type 0
AreCounts counts bytes = (session : ℕ) → count_of counts session ≡ counted (bytes session)

-- these are the counts of the bytes that the lines of a text give to each session
abbrev pub HaveRead : Config → List ℕ → List ℕ → Type 0
HaveRead c text counts = AreCounts counts (session_in c text)

-- the line's bytes are counted, whatever was counted before them
abbrev pub AddsLine : Reading → Line → List ℕ → List ℕ → Type 0
AddsLine r line counts counts' =
    (before : ℕ → ℕ) → AreCounts counts before → AreCounts counts' (λ session. before session + line_bytes_in r line session)

-- the line's bytes are counted, or there was no memory for it, and nothing was done
abbrev pub CountsLine : Reading → Line → List ℕ → List ℕ → CoreView → CoreView → Result (Unit {0}) Halt → Type 0
CountsLine r line counts counts' core core' (Err halt.NoMemory) =
    AddsLine r line counts counts' ⊎ ((counts' ≡ counts) × (core' ≡ core))
CountsLine r line counts counts' core core' _ = AddsLine r line counts counts'
