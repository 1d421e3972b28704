use Rattle.feeding.proofs.LineParts.{TreatsLine-no_memory}
use Rattle.feeding.proofs.feeder.Feeder.take_host_line.Goals as goal

pub returns-clause-takes : goal.returns-clause-takes
returns-clause-takes g c = λ r reading. TreatsLine-no_memory r _ _ _
