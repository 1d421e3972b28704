-- Where a run stops at its limits.
use Rattle.std.specs.Prelude.{◌≡◌, true, List, ◌∷◌, ◌++◌}
use Rattle.tool_events.specs.declared.config.Config.{Config}
use Rattle.tool_events.specs.declared.entry.Entry.{Entry}
use Rattle.gem_model.specs.Sizes.{is_full}

-- the history is a front of all entries, and the next of them doesn't fit the limits (this tool's profile, limits)
pub record IsFullAt (c : Config) (history all : List Entry) : Type 0 where
  pub next : Entry
  pub behind : List Entry
  pub joined : all ≡ history ++ next ∷ behind
  pub full : is_full c history next.event ≡ true
