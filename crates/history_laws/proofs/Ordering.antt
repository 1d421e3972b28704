-- The floor stays in order, whatever comes.
use Rattle.std.proofs.Common.{◌≤◌}
use Rattle.load_port.specs.Ports.{most_ports}
use Rattle.control_job.specs.Jobs.{JobStore}
use Rattle.tool_events.specs.declared.config.Config.{Config}
use Rattle.tool_events.specs.declared.event.Event.{Event}
use Rattle.floor_model.specs.Floor.{ToolFloor, with_jobs}
use Rattle.floor_laws.proofs.FloorPlaces.{shop_rests}
use Rattle.lot_laws.specs.Lot.{InOrder}
use Rattle.lot_laws.proofs.Orderly.{done-in_order, failed-in_order, down-in_order, lost-in_order, removal-in_order, removal_left-in_order, opening-in_order, least-in_order, row-in_order, created-in_order, added-in_order, headed-in_order, fetched-in_order, cancelled-in_order, written-in_order, unbinding-in_order, placing-in_order}
use Rattle.gem_model.specs.State.{State, opening}
use Rattle.history_laws.proofs.CommonRows.{input_common}
use Rattle.gem_model.proofs.Creating.{BecomesControl, one_added, one_headed}
use Rattle.history_laws.proofs.FloorFacts.{FloorChanges, FloorFact}
use Rattle.gem_model.proofs.Resting.{AtRest}

becomes_order : (f : ToolFloor) (s : JobStore) → BecomesControl f.jobs s → InOrder f → InOrder (with_jobs (record f.jobs { control = s }) f)
becomes_order f _ (one_added name named auto none) o = added-in_order name named auto f none o
becomes_order f _ (one_headed name) o = headed-in_order name f o

-- the floor of a state is at rest, whatever the event
abbrev pub Rested : Event → State → Type 0
Rested e g = AtRest g

pub order_changes : FloorChanges Rested InOrder
order_changes = record {
  sound = λ f o. o.sound;
  row = λ x f starts input o. row-in_order x f starts (input_common x input) o;
  process = created-in_order;
  control = λ s f becomes o. becomes_order f s becomes o;
  cancelled = cancelled-in_order;
  written = written-in_order;
  unbinding = unbinding-in_order;
  placing = λ g port name slots rest starts o. placing-in_order port.0 name slots g.floor starts (shop_rests g.floor rest) o;
  removal = λ g port rest starts next o. removal-in_order port.0 g.floor starts next (shop_rests g.floor rest) o;
  removal_left = λ g port starts left o. removal_left-in_order port.0 g.floor starts left o;
  fetched = fetched-in_order;
  did = λ g number command rest is o. done-in_order number.0 command.0 g.floor is rest o;
  failed_at = λ g number command rest is o. failed-in_order number.0 command.0 g.floor is o;
  went_down = λ g number rest up o. down-in_order number.0 g.floor up o;
  lost = λ g sub rest o. lost-in_order sub g.floor o;
}

pub order_fact : FloorFact Rested InOrder
order_fact = record { changes = order_changes; ready = least-in_order }

pub order_first : (c : Config) → c.ports ≤ most_ports → InOrder (opening c).floor
order_first c few = opening-in_order c.ports c.chambers c.recipes few
