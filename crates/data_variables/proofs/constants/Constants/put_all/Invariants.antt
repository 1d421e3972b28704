use Rattle.std.proofs.Common.{◌≡◌, drop}
use Rattle.data_variables.specs.Setting.{eac, with_said}
use Rattle.data_variables.proofs.constants.Constants.put_all.Given as goal

abbrev pub invariant-loop-ecid : goal.invariant-loop-ecid
invariant-loop-ecid l = record {
  good : eac (drop l.ecid-index l.sets) ≡ 0;
  said : with_said (drop l.ecid-index l.sets) l.self ≡ with_said l.sets l.initial.self;
}
