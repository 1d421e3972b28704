-- What is done to a carrier.
use Rattle.carrier.specs.Carriers.{fires_row, read_map, came_to, directed_to, binds, told_map, marks}
use Rattle.carrier.specs.declared.carrier.Carrier.{Carrier}
use Rattle.carrier.specs.declared.change.CarrierChange.{CarrierChange}
use Rattle.carrier.specs.declared.change.CarrierChange.TheVariants as change

-- what each change makes of a carrier
abbrev pub changed_by : CarrierChange → Carrier → Carrier
changed_by (change.Row table row) c = fires_row table row c
changed_by (change.ReadMap map) c = read_map map c
changed_by (change.Came port is_read map) c = came_to port.0 is_read map c
changed_by (change.Directed port) c = directed_to port.0 c
changed_by change.Bound c = binds c
changed_by (change.ToldMap map) c = told_map map c
changed_by change.Stopped c = marks c
