-- How the carriers are kept.
use Rattle.std.specs.Prelude.{◌≤◌}
use Rattle.records.specs.Stock.{Stock}
use Rattle.carrier.specs.Carriers.{AreCarriers, most_carriers}
use Rattle.carrier.specs.declared.carrier.Carrier.{Carrier}

-- what is always true of the carriers and the room for them: there is room for all
pub record AreKept (book : Stock Carrier) : Type 0 where
  pub carriers : AreCarriers book.kept
  pub room : most_carriers ≤ book.room
