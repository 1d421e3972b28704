-- A substrate and modules for worked moves.
use Rattle.std.specs.Prelude.{ℕ, true, false, List, [], ◌∷◌, codes}
use Rattle.gem_ids.specs.declared.numbers.LocId.{LocId}
use Rattle.gem_ids.specs.declared.numbers.LocId.TheVariants as loc
use Rattle.tool_tasks.specs.declared.task.Task.TheVariants as task
use Rattle.robot_moves.specs.declared.module.Module.{Module}
use Rattle.robot_moves.specs.declared.module.Module.TheVariants.{Idle, Busy, Down}
use Rattle.robot_moves.specs.declared.view.PlaceView.{PlaceView}

-- slot k at port 1
abbrev pub slot : ℕ → LocId
slot k = loc.Slot (record { 0 = 1 }) (record { 0 = k })

-- the first substrate of CAR01, in its slot, unfinished and not aligned, with its job PROCESSING; both chambers are in its next step
abbrev pub first_wafer : PlaceView
first_wafer = record {
  sub = codes "CAR01.01";
  number = 1;
  at = slot 1;
  slot = slot 1;
  aligned = false;
  finished = false;
  in_process = false;
  may_start = true;
  chambers = 3;
  recipe = codes "R1";
}

-- it is aligned, on the arm
abbrev pub on_arm : PlaceView
on_arm = record first_wafer { at = loc.Arm; aligned = true }

-- the second, aligned, at the aligner
abbrev pub at_aligner : PlaceView
at_aligner = record first_wafer { sub = codes "CAR01.02"; number = 2; at = loc.Aligner; slot = slot 2; aligned = true }

-- the third, in a chamber
abbrev pub in_chamber : ℕ → PlaceView
in_chamber c = record first_wafer { sub = codes "CAR01.03"; number = 3; at = loc.Chamber c; slot = slot 3; aligned = true }

-- the third, in a chamber, finished
abbrev pub finished_in : ℕ → PlaceView
finished_in c = record (in_chamber c) { finished = true }

-- the first, in a chamber, finished
abbrev pub first_finished_in : ℕ → PlaceView
first_finished_in c = record first_wafer { at = loc.Chamber c; aligned = true; finished = true }

-- the third, in a chamber, unfinished: the step that this chamber is in is done, and chamber 3 is its next step
abbrev pub between_steps_in : ℕ → PlaceView
between_steps_in c = record (in_chamber c) { in_process = true; chambers = 4 }

-- it is on the arm
abbrev pub between_steps_on_arm : PlaceView
between_steps_on_arm = record (between_steps_in 1) { at = loc.Arm }

-- the second, in its slot as it was registered
abbrev pub second_wafer : PlaceView
second_wafer = record at_aligner { at = slot 2; aligned = false }

-- a module that is Busy with some command
abbrev pub busy : Module
busy = Busy (record { number = record { 0 = 9 }; task = task.Align (codes "CAR01.09") }) true

-- robot, aligner and two chambers, each Idle
abbrev pub all_idle : List Module
all_idle = Idle ∷ Idle ∷ Idle ∷ Idle ∷ []

-- with a third chamber, each Idle
abbrev pub three_idle : List Module
three_idle = Idle ∷ Idle ∷ Idle ∷ Idle ∷ Idle ∷ []

-- of the three the last is Busy
abbrev pub third_chamber_busy : List Module
third_chamber_busy = Idle ∷ Idle ∷ Idle ∷ Idle ∷ busy ∷ []

-- the aligner is Down
abbrev pub aligner_down : List Module
aligner_down = Idle ∷ Down ∷ Idle ∷ Idle ∷ []

-- chamber 1 is Busy
abbrev pub first_chamber_busy : List Module
first_chamber_busy = Idle ∷ Idle ∷ busy ∷ Idle ∷ []
