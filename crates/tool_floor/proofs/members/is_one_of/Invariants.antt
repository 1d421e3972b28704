use Rattle.std.proofs.Common.{◌≡◌, drop}
use Rattle.gem_tables.specs.Table.{is_one_of}
use Rattle.tool_floor.proofs.members.is_one_of.Given as goal

abbrev pub invariant-loop-one : goal.invariant-loop-one
invariant-loop-one l = is_one_of (drop l.one-index l.numbers) l.number ≡ is_one_of l.numbers l.number
