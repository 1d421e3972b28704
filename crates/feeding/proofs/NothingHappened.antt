-- What is recorded where nothing happened.
use Rattle.std.proofs.Common.{◌≡◌, List, []}
use Rattle.tool_events.specs.declared.config.Config.{Config}
use Rattle.tool_events.specs.declared.entry.Entry.{Entry}
use Rattle.tool_events.specs.Configs.{IsConfig}
use Rattle.gem_model.specs.State.{opening}
use Rattle.gem_model.specs.Run.{after_all}
use Rattle.history_laws.specs.Recorded.{Recorded}
use Rattle.history_laws.proofs.Recording.{recorded-none}

pub recorded_none : (c : Config) (history : List Entry) → IsConfig c → history ≡ [] → Recorded c history (after_all (opening c) history)
recorded_none c history bounds none = recorded-none c history bounds none
