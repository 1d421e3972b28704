-- The carrier that is removed from a port has ended, also where it was not present, so that a removal leaves what holds.
use Rattle.std.proofs.Common.{◌≡◌, ℕ, Bool, true, false, not, ◌||◌, None, refl, sym, ◌∙◌, ap}
use Rattle.gem_tables.specs.Table.{firing}
use Rattle.carrier.specs.Record.{is_done, is_map_verified}
use Rattle.carrier.specs.Carriers.{has_name}
use Rattle.shop_floor.specs.Machines as shop
use Rattle.shop_floor.specs.Valid.{ReadWherePresent}
use Rattle.floor_model.specs.Floor.{ToolFloor}
use Rattle.floor_model.specs.Machines.{floor_starts, floor_fired}
use Rattle.floor_moves.specs.Carriers.{HasEnded}
use Rattle.place_laws.specs.Picture.{picture}
use Rattle.place_laws.specs.Sound.{Sound}
use Rattle.place_laws.proofs.Stays.{at_found}
use Rattle.place_laws.proofs.Leaving.{unverified}
use Rattle.floor_laws.proofs.GrowTaken.{by_its_number}
use Rattle.floor_laws.proofs.GrowEnds.{over_ended, ends_at}
use Rattle.floor_laws.proofs.RemSound.{OwnerEnded, removal_sound}

pub owner_ended : (port : ℕ) (f : ToolFloor) → floor_starts (firing 4 port 5) f ≡ true → shop.floor_least f.shop ≡ None → Sound f → OwnerEnded port f
owner_ended port f starts rests sound name c its found = of c.present refl where
  of : (b : Bool) → c.present ≡ b → HasEnded c.number (picture f)
  of true present = ends_at port f starts rests sound.base.shop sound.unloading name c its found present
  of false absent =
      let reads : ReadWherePresent c = at_found ReadWherePresent (has_name name) f.shop.carriers c sound.base.shop.read found in
      let unread = unverified f.substrates c reads (λ present. let clash : true ≡ false = sym present ∙ absent in cc) in
      over_ended c f (by_its_number f.shop sound.base.shop name c found) (either (is_done c.states.access) (is_map_verified c.states.map) unread) where
        either : (a b : Bool) → b ≡ false → (a || not b) ≡ true
        either true b e = refl
        either false b e = ap not e

-- rows 5 of table 4 and 6 of table 7
pub removed_sound : (port : ℕ) (f : ToolFloor) → floor_starts (firing 4 port 5) f ≡ true → floor_starts (firing 7 port 6) (floor_fired (firing 4 port 5) f) ≡ true → shop.floor_least f.shop ≡ None → Sound f
    → Sound (floor_fired (firing 7 port 6) (floor_fired (firing 4 port 5) f))
removed_sound port f starts then_starts rests sound = removal_sound port f starts then_starts (owner_ended port f starts rests sound) sound
