-- What a clause says of the tool and of its chairs.
use Rattle.std.specs.Prelude.{ℕ, List}
use Rattle.tool_events.specs.declared.config.Config.{Config}
use Rattle.history_parts.specs.CoreView.{CoreView}
use Rattle.history_laws.specs.declared.recorder.Recorder as recorder
use Rattle.tool_lock.specs.declared.kept.Kept.{Ghosts}
use Rattle.tool_lock.specs.declared.pass.Pass.{Pass}
use Rattle.tool_lock.specs.Passes.{pass_count, start, IsPassOf}
use Rattle.tool_lock.specs.Ends.{AreNew, AreOf}
use Rattle.shared_tool.specs.declared.held.Held.{Held}
use Rattle.shared_tool.specs.declared.posted.Posted.{Posted}
use Rattle.shared_tool.specs.declared.shared.Shared.{Shared}

-- how many chairs there are
abbrev pub seats_of : {V : Type 0} → Shared V Posted CoreView → ℕ
seats_of t = pass_count t.lock

-- the configuration under which its history began
abbrev pub config_of : {C : Type 0} {R : recorder.Ghosts C} → Shared (Held C R) Posted CoreView → Config
config_of {R = R} t = (R.view (start t.lock).core).config

module _ {V : Type 0} {K : Ghosts V Posted CoreView} where
  -- a chair of this tool
  abbrev pub IsChairOf : Shared V Posted CoreView → Pass V Posted CoreView K → Type 0
  IsChairOf t chair = IsPassOf t.lock chair

  -- each is one
  abbrev pub AreChairsOf : Shared V Posted CoreView → List (Pass V Posted CoreView K) → Type 0
  AreChairsOf t chairs = AreOf t.lock chairs

  -- they are numbered from 0 on, in order, and know no entry
  abbrev pub AreSeated : Shared V Posted CoreView → List (Pass V Posted CoreView K) → Type 0
  AreSeated t chairs = AreNew t.lock chairs
