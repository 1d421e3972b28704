-- What a simulated module answers (this tool's profile, simulated modules).
use Rattle.std.specs.Prelude.{ℕ, ◌+◌, ◌-◌, ◌^◌, ◌==◌, ◌&&◌, min, nat_lt, Bool, List, if◌then◌else◌}
use Rattle.std.specs.List.{list_any}
use Rattle.gem_ids.specs.declared.numbers.ModuleId.{ModuleId}
use Rattle.tool_tasks.specs.declared.task.Command.{Command}
use Rattle.tool_events.specs.declared.event.Signal.{Signal}
use Rattle.tool_events.specs.declared.event.Signal.TheVariants.{Done, Failed}

-- A module: its number, its plan, which has the counts of the acts that fail, and how many acts it did. Acts are counted up to
-- the greatest count that a plan can have.
pub record Acting : Type 0 where
  pub number : ModuleId
  pub fails : List ℕ
  pub acts : ℕ

-- the greatest count that a plan can have
abbrev pub last_count : ℕ
last_count = 2 ^ 64 - 1

-- a module that did nothing yet
abbrev pub begun : ModuleId → List ℕ → Acting
begun m plan = record { number = m; fails = plan; acts = 0 }

-- its plan has the count of its next act, the first being 1 (this tool's profile, simulated modules)
abbrev pub fails_next : Acting → Bool
fails_next m = nat_lt m.acts last_count && list_any (λ count. count == m.acts + 1) m.fails

-- what it answers a command: that it failed, or that it did it (this tool's profile, simulated modules)
abbrev pub answered : Acting → Command → Signal
answered m c = if fails_next m then Failed m.number c.number else Done m.number c.number

-- it did one act more
abbrev pub one_more : Acting → Acting
one_more m = record m { acts = min (m.acts + 1) last_count }
