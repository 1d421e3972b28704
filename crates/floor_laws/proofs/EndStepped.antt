-- Behind Done of a Process each substrate has one place, whatever the state of the substrate: nothing of places looks at steps.
use Rattle.std.proofs.Common.{◌≡◌, ℕ, Bool, true, false, if◌then◌else◌, Option, Some, None, refl}
use Rattle.gem_tables.specs.Table.{firing}
use Rattle.tool_tasks.specs.declared.task.Task.{Task as ToolTask}
use Rattle.tool_tasks.specs.declared.task.Task.TheVariants as task
use Rattle.robot_moves.specs.declared.module.Module.{Module as ToolModule}
use Rattle.robot_moves.specs.declared.module.Module.TheVariants.{Idle, Busy, Down}
use Rattle.robot_moves.specs.Modules.{module_at}
use Rattle.floor_model.specs.Floor.{ToolFloor, with_module, substrate_numbered, change_numbered}
use Rattle.floor_model.specs.Machines.{floor_starts, floor_fired}
use Rattle.floor_model.specs.Modules.{number_named, module_behind, move_starts, open_task, stepped, stepped_numbered, stepped_by}
use Rattle.floor_model.specs.Views.{planned, goes_on}
use Rattle.floor_moves.specs.Floor.{Floor, idle}
use Rattle.floor_moves.specs.Agree.{Agree}
use Rattle.floor_moves.specs.OnePlace.{OnePlace}
use Rattle.floor_moves.specs.Valid.{Valid}
use Rattle.floor_moves.proofs.Agreeing.{agree-keeps}
use Rattle.floor_moves.proofs.Moving.{idle_not_busy}
use Rattle.floor_moves.proofs.Promised.{one_place}
use Rattle.place_laws.specs.Picture.{picture}
use Rattle.place_laws.specs.Sound.{Sound}
use Rattle.picture_laws.proofs.Columns.{numbers_same, says_same}
use Rattle.picture_laws.proofs.JobViews.{substrates_alike}
use Rattle.floor_laws.proofs.EndAnswers.{turned_sound}

module _ (f : ToolFloor) (m : ℕ) where
  -- the floor whose command is closed
  abbrev closed : ToolFloor
  closed = with_module m (module_behind 7) f

  -- so is that of which a step of the substrate of a number is done, but for the steps
  module _ (n : ℕ) where
    abbrev but_steps : Floor
    but_steps = record (picture (with_module m (module_behind 7) (record f { substrates = change_numbered n stepped f.substrates }))) { steps_of = (picture f).steps_of }

    same_but_steps : Agree (picture closed) but_steps
    same_but_steps = record {
      substrates = numbers_same n stepped (λ s. refl) f.substrates;
      next_substrate = refl;
      carrier_of = λ k _. says_same n stepped (λ s. refl) 0 _ (λ s. refl) k f.substrates;
      port_of = λ k _. says_same n stepped (λ s. refl) 0 _ (λ s. refl) k f.substrates;
      slot_of = λ k _. says_same n stepped (λ s. refl) 0 _ (λ s. refl) k f.substrates;
      place_of = λ k. refl;
      processing = λ k _. says_same n stepped (λ s. refl) 0 _ (λ s. refl) k f.substrates;
      is_aligned = λ k _. says_same n stepped (λ s. refl) false _ (λ s. refl) k f.substrates;
      steps_of = λ k _ _. refl;
      carriers = refl;
      present_at = λ c. refl;
      is_verified = λ c _. refl;
      access = λ c _. refl;
      jobs = substrates_alike _ f.jobs f.shop.carriers f.substrates _ (λ B else_ says k. says_same n stepped (λ s. refl) else_ (λ s. says s.job) (λ s. refl) k f.substrates);
      chambers = refl;
      equipment = λ k. refl;
      next_command = refl;
    }

    one_stepped : Valid (picture closed) → OnePlace (picture (with_module m (module_behind 7) (record f { substrates = change_numbered n stepped f.substrates })))
    one_stepped v = let p = one_place but_steps (agree-keeps _ _ same_but_steps v) in record {
      apart = p.apart;
      occupies = p.occupies;
      is_there = p.is_there;
      numbers = p.numbers;
      below = p.below;
      picks = p.picks;
      places = p.places;
      aligns = p.aligns;
      processes = p.processes;
      in_slot = p.in_slot;
      one_carrier = p.one_carrier;
      slot_waits = p.slot_waits;
      ended_inside = p.ended_inside;
      ended_unnamed = p.ended_unnamed;
    }

  -- by what was open
  one_behind : Valid (picture closed) → (o : Option ToolTask) → OnePlace (picture (with_module m (module_behind 7) (stepped_by o f)))
  one_behind v None = one_place _ v
  one_behind v (Some (task.Pick sub from)) = one_place _ v
  one_behind v (Some (task.Place sub to)) = one_place _ v
  one_behind v (Some (task.Align sub)) = one_place _ v
  one_behind v (Some (task.Process sub recipe)) = of (number_named sub f.places) where
    by : (n : ℕ) (b : Bool) → OnePlace (picture (with_module m (module_behind 7) (record f { substrates = if b then change_numbered n stepped f.substrates else f.substrates })))
    by n true = one_stepped n v
    by n false = one_place _ v

    of : (o : Option ℕ) → OnePlace (picture (with_module m (module_behind 7) (record f { substrates = stepped_numbered o f })))
    of None = one_place _ v
    of (Some n) = by n (goes_on (substrate_numbered n f.substrates) f)

-- row 7 of table 16, where it starts
pub one_place_done : (f : ToolFloor) (m : ℕ) → floor_starts (firing 16 m 7) f ≡ true → Sound f → OnePlace (picture (floor_fired (firing 16 m 7) f))
one_place_done f m starts sound = of (module_at m f.modules) refl starts where
  of : (o : Option ToolModule) → module_at m f.modules ≡ o → move_starts 7 (planned m f) o ≡ true → OnePlace (picture (floor_fired (firing 16 m 7) f))
  of None here e = absurd (cc)
  of (Some Idle) here e = absurd (cc)
  of (Some Down) here e = absurd (cc)
  of (Some (Busy c fetched)) here e = one_behind f m (turned_sound f sound m 7 (Busy c fetched) here idle idle_not_busy refl).valid (open_task (module_at m f.modules))
