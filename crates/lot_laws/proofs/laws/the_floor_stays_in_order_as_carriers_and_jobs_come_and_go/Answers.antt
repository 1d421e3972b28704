use Rattle.lot_laws.proofs.Orderly.{placing-in_order, removal-in_order, removal_left-in_order, written-in_order, unbinding-in_order, cancelled-in_order, created-in_order, added-in_order, headed-in_order}
use Rattle.lot_laws.proofs.laws.the_floor_stays_in_order_as_carriers_and_jobs_come_and_go.Goals as goal

pub returns-clause-placed : goal.returns-clause-placed
returns-clause-placed c = placing-in_order

pub returns-clause-removed : goal.returns-clause-removed
returns-clause-removed c = removal-in_order

pub returns-clause-left : goal.returns-clause-left
returns-clause-left c = removal_left-in_order

pub returns-clause-written : goal.returns-clause-written
returns-clause-written c = written-in_order

pub returns-clause-unbound : goal.returns-clause-unbound
returns-clause-unbound c = unbinding-in_order

pub returns-clause-cancelled : goal.returns-clause-cancelled
returns-clause-cancelled c = cancelled-in_order

pub returns-clause-process : goal.returns-clause-process
returns-clause-process c = created-in_order

pub returns-clause-control : goal.returns-clause-control
returns-clause-control c = added-in_order

pub returns-clause-head : goal.returns-clause-head
returns-clause-head c = headed-in_order
