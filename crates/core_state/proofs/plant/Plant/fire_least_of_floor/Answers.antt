use Rattle.std.proofs.Common.{sym}
use Rattle.core_state.proofs.Floors.{floor_listed, floor_ready}
use Rattle.core_state.proofs.plant.Plant.fire_least_of_floor.Goals as goal

pub advance-requires-clause-listed : goal.advance-requires-clause-listed
advance-requires-clause-listed c = floor_listed c.args.self.now c.in-Some.f (sym c.in-Some.ensures.least)

pub advance-requires-clause-starts : goal.advance-requires-clause-starts
advance-requires-clause-starts c = rw c.least_of_floor.ensures.unchanged (floor_ready c.args.self.now c.in-Some.f (sym c.in-Some.ensures.least))
