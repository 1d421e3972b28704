-- What the core is to its callers.
use Rattle.std.specs.Prelude.{Bool, List}
use Rattle.tool_events.specs.declared.config.Config.{Config}
use Rattle.tool_events.specs.declared.entry.Entry.{Entry}
use Rattle.gem_model.specs.State.{State}

-- the configuration, the state that the history leads to, the history, and whether the core can go on: after want of
-- memory it can't
pub record CoreView : Type 0 where
  pub config : Config
  pub state : State
  pub history : List Entry
  pub is_whole : Bool
