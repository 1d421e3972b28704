use Rattle.shop_floor.proofs.Room.{few-carriers}
use Rattle.shop_floor.proofs.Comes.{room-comes, room-replaces}
use Rattle.shop_floor.proofs.Asked.{room-bind, room-notify}
use Rattle.shop_floor.proofs.laws.there_is_room_for_each_carrier.Goals as goal

pub returns-clause-few : goal.returns-clause-few
returns-clause-few c = few-carriers

pub returns-clause-comes : goal.returns-clause-comes
returns-clause-comes c = room-comes

pub returns-clause-replaces : goal.returns-clause-replaces
returns-clause-replaces c = room-replaces

pub returns-clause-bind : goal.returns-clause-bind
returns-clause-bind c = room-bind

pub returns-clause-notify : goal.returns-clause-notify
returns-clause-notify c = room-notify
