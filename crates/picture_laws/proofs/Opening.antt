-- What holds at every moment holds of the floor of the tool as it begins.
use Rattle.std.proofs.Common.{◌≡◌, ℕ, zero, suc, ◌+◌, List, replicate, min, slice_get, refl}
use Rattle.robot_moves.specs.declared.module.Module.TheVariants.{Idle}
use Rattle.robot_moves.specs.Modules.{module_at, first_modules}
use Rattle.substrate.specs.Places.{no_places}
use Rattle.tool_tasks.specs.declared.recipes.Recipe.{Recipe}
use Rattle.floor_model.specs.Floor.{opening}
use Rattle.floor_moves.specs.Floor.{idle, opening as opening_by_numbers}
use Rattle.floor_moves.specs.Agree.{Agree}
use Rattle.floor_moves.specs.Valid.{Valid}
use Rattle.floor_moves.proofs.Agreeing.{agree-keeps}
use Rattle.floor_moves.proofs.Carrying.{opening-valid}
use Rattle.place_laws.specs.Picture.{picture, module_of, numbers_from}

module _ (ports chambers : ℕ) (recipes : List Recipe) where
  one_idle : (count n : ℕ) → module_of (slice_get (replicate count Idle) n) (no_places ports chambers) ≡ idle
  one_idle zero n = refl
  one_idle (suc count) zero = refl
  one_idle (suc count) (suc n) = one_idle count n

  all_idle : (m : ℕ) → module_of (module_at m (first_modules chambers)) (no_places ports chambers) ≡ idle
  all_idle zero = refl
  all_idle (suc n) = one_idle (2 + min chambers 253) n

  begins : Agree (opening_by_numbers (numbers_from 1 chambers)) (picture (opening ports chambers recipes))
  begins = record {
    substrates = refl;
    next_substrate = refl;
    carrier_of = λ n e. refl;
    port_of = λ n e. refl;
    slot_of = λ n e. refl;
    place_of = λ n. refl;
    processing = λ n e. refl;
    is_aligned = λ n e. refl;
    steps_of = λ k _ _. refl;
    carriers = refl;
    present_at = λ c. refl;
    is_verified = λ c e. refl;
    access = λ c e. refl;
    jobs = record {
      is_member = λ n. refl;
      may_start = λ n. refl;
      is_stopping = λ n. refl;
      is_aborting = λ n. refl;
      is_complete = λ n. refl;
      route_of = λ n. refl;
      names_carrier = λ c p here. refl;
      is_marked = λ c p here. refl;
    };
    chambers = refl;
    equipment = all_idle;
    next_command = refl;
  }

  pub opening-keeps : Valid (picture (opening ports chambers recipes))
  opening-keeps = agree-keeps _ _ begins (opening-valid (numbers_from 1 chambers))
