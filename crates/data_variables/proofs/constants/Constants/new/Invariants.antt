use Rattle.std.proofs.Common.{◌≡◌, ◌++◌, drop}
use Rattle.data_variables.proofs.constants.Constants.new.Given as goal

abbrev pub invariant-loop-ecid : goal.invariant-loop-ecid
invariant-loop-ecid l = l.values.entries ++ drop l.ecid-index l.c ≡ l.c
