use Rattle.floor_moves.proofs.Registering.{slot_free}
use Rattle.floor_moves.proofs.Room.{room_for_all}
use Rattle.floor_moves.proofs.laws.there_is_room_for_each_substrate.Goals as goal

pub returns-clause-slot : goal.returns-clause-slot
returns-clause-slot c = λ g x p k v may. slot_free g v x p k may

pub returns-clause-few : goal.returns-clause-few
returns-clause-few c = room_for_all
