use Rattle.floor_laws.proofs.FloorPlaces.{one_place_sound, one_place_behind, one_place_vacated, few_sound}
use Rattle.floor_laws.proofs.laws.each_substrate_has_one_place.Goals as goal

pub returns-clause-at_every_moment : goal.returns-clause-at_every_moment
returns-clause-at_every_moment c = one_place_sound

pub returns-clause-few : goal.returns-clause-few
returns-clause-few c = few_sound

pub returns-clause-behind : goal.returns-clause-behind
returns-clause-behind c = one_place_behind

pub returns-clause-vacated : goal.returns-clause-vacated
returns-clause-vacated c = one_place_vacated
