use Rattle.floor_laws.proofs.ShopHost.{placing_sound}
use Rattle.floor_laws.proofs.RemSound.{removal_left_sound}
use Rattle.floor_laws.proofs.FloorRemoved.{removed_sound}
use Rattle.floor_laws.proofs.laws.it_is_kept_as_carriers_come_and_go.Goals as goal

pub returns-clause-placed : goal.returns-clause-placed
returns-clause-placed c = placing_sound

pub returns-clause-removed : goal.returns-clause-removed
returns-clause-removed c = removed_sound

pub returns-clause-left : goal.returns-clause-left
returns-clause-left c = removal_left_sound
