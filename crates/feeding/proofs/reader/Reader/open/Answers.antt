use Rattle.std.proofs.Common.{refl, ap}
use Rattle.history_parts.specs.CoreView.{CoreView}
use Rattle.feeding.proofs.Standing.{Stands-open}
use Rattle.feeding.proofs.reader.Reader.open.Goals as goal

pub returns-clause-stands : goal.returns-clause-stands
returns-clause-stands g c = Stands-open c.args.config.now _ c.new.ensures.items refl (ap (λ (v : CoreView). v.history) c.in_ok-feeder.ensures.core) (ap (λ (v : CoreView). v.config) c.in_ok-feeder.ensures.core) c.in_ok-feeder.ensures.reading c.in_ok-feeder.ensures.reads
