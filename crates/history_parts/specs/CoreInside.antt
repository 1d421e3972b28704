-- What is true of the core at every moment.
use Rattle.std.specs.Prelude.{◌≡◌, ℕ, ◌≤◌, Bool, true, List, length}
use Rattle.tool_events.specs.declared.config.Config.{Config}
use Rattle.tool_events.specs.declared.entry.Entry.{Entry}
use Rattle.tool_events.specs.declared.event.SessionEnd.{SessionEnd}
use Rattle.tool_events.specs.Configs.{IsConfig}
use Rattle.gem_model.specs.State.{State, opening, is_up}
use Rattle.gem_model.specs.Run.{Run, after_all}
use Rattle.gem_model.specs.Sessions.{ends_of, session_out}
use Rattle.gem_model.specs.Sizes.{bytes_of, counted}
use Rattle.history_parts.specs.Counts.{count_of}
use Rattle.history_parts.specs.declared.totals.Totals.{Totals}
use Rattle.history_parts.specs.Totals.{totals_of}

-- the state that a history leads to
abbrev pub state_of : Config → List Entry → State
state_of c history = after_all (opening c) history

-- The history is a run, and within the limits of the configuration. The ends are those of its sessions, the counts are of
-- what went out in each, and there were no more sessions than entries. The totals are those of the history. While the core is whole its
-- plant is in the state that the history leads to.
pub record Replays (c : Config) (plant : State) (history : List Entry) (ends : List SessionEnd) (counts : List ℕ) (bytes count : ℕ) (totals : Totals) (up whole : Bool) : Type 0 where
  pub config : IsConfig c
  pub run : Run (opening c) history (state_of c history)
  pub plant_is : whole ≡ true → plant ≡ state_of c history
  pub sessions_are : count ≡ (state_of c history).link.session
  pub up_is : up ≡ is_up (state_of c history)
  pub sessions : count ≤ length history
  pub ended : ends ≡ ends_of (opening c) history
  pub written : (session : ℕ) → count_of counts session ≡ counted (length (session_out (opening c) history session))
  pub bytes_are : bytes ≡ bytes_of history
  pub totals_are : totals ≡ totals_of c history
  pub entries_fit : length history ≤ c.max_entries
  pub bytes_fit : bytes ≤ c.max_bytes
