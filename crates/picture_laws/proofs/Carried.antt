-- What is done by a Pick or a Place moves in the floor by numbers, and its module is Idle.
use Rattle.std.proofs.Common.{◌≡◌, ℕ, List, Some, refl, ◌∙◌, ap}
use Rattle.gem_ids.specs.declared.numbers.LocId.{LocId}
use Rattle.robot_moves.specs.declared.module.Module.{Module}
use Rattle.robot_moves.specs.declared.module.Module.TheVariants.{Idle}
use Rattle.robot_moves.specs.Modules.{module_at, change_module}
use Rattle.substrate.specs.Places.{ArePlaces, substrate_named, moved}
use Rattle.substrate.specs.declared.registered.Registered.{Registered}
use Rattle.floor_model.specs.Floor.{ToolFloor, with_module}
use Rattle.floor_moves.specs.Floor.{idle}
use Rattle.floor_moves.specs.Effects.{moved as moved_by_numbers}
use Rattle.floor_moves.specs.Agree.{Agree}
use Rattle.place_laws.specs.Picture.{picture, loc_of, module_of}
use Rattle.floor_moves.proofs.Agreeing.{alike_same}
use Rattle.picture_laws.proofs.Closing.{modules_behind}
use Rattle.picture_laws.proofs.Moving.{moved_among, same_module}

pub moving_agrees : (m : ℕ) (change : Module → Module) (x : Module) (sub : List ℕ) (to : LocId) (found : Registered) (f : ToolFloor) → ArePlaces f.places → substrate_named sub f.places.held ≡ Some found → module_at m f.modules ≡ Some x → change x ≡ Idle → Agree (moved_by_numbers found.number (loc_of to) m (picture f)) (picture (with_module m change (record f { places = record f.places { held = moved sub to f.places.held } })))
moving_agrees m change x sub to found f places known here is = record {
  substrates = refl;
  next_substrate = refl;
  carrier_of = λ k _. refl;
  port_of = λ k _. refl;
  slot_of = λ k _. refl;
  place_of = λ k. moved_among sub to 0 f.places.given f.places.held found places.named_apart places.numbered known k;
  processing = λ k _. refl;
  is_aligned = λ k _. refl;
  steps_of = λ k _ _. refl;
  carriers = refl;
  present_at = λ c. refl;
  is_verified = λ c _. refl;
  access = λ c _. refl;
  jobs = alike_same _ _;
  chambers = refl;
  equipment = λ k. same_module sub to f.places (module_at k (change_module m change f.modules)) ∙ modules_behind m change x idle f here (ap (λ (y : Module). module_of (Some y) f.places) is) k;
  next_command = refl;
}
