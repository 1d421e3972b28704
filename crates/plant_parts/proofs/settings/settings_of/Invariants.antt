use Rattle.std.proofs.Common.{◌≡◌, ◌++◌, drop}
use Rattle.gem_model.specs.Messages.{settings_of}
use Rattle.plant_parts.proofs.settings.settings_of.Given as goal

-- what was found stands before what the others give
abbrev pub invariant-loop-setting : goal.invariant-loop-setting
invariant-loop-setting l = settings_of l.initial.settings ≡ l.sets.items ++ settings_of (drop l.setting-index l.initial.settings)
