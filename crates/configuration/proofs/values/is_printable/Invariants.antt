use Rattle.std.proofs.Common.{◌≡◌, true, take}
use Rattle.std.specs.List.{list_all}
use Rattle.configuration.specs.Values.{is_between}
use Rattle.configuration.proofs.values.is_printable.Given as goal

abbrev pub invariant-loop-byte : goal.invariant-loop-byte
invariant-loop-byte l = list_all (is_between 32 126) (take l.byte-index l.text) ≡ true
