use Rattle.std.proofs.Common.{◌≡◌, drop}
use Rattle.data_variables.specs.Setting.{eac}
use Rattle.data_variables.proofs.constants.first_code.Given as goal

abbrev pub invariant-loop-ecid : goal.invariant-loop-ecid
invariant-loop-ecid l = eac (drop l.ecid-index l.sets) ≡ eac l.sets
