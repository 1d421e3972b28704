-- The Dones that are still to come for substrates (after SEMI E90; this tool's profile, moves). The route of a substrate is planned as its
-- control job starts, when it isn't in a process job yet.
use Rattle.std.specs.Prelude.{ℕ, ◌+◌, ◌-◌, ◌*◌, Bool, not, ◌&&◌, if◌then◌else◌, List, filter, length, Option, Some, None}
use Rattle.gem_tables.specs.Table.{is_one_of}
use Rattle.floor_moves.specs.Floor.{Loc, slot, aligner, arm, chamber, Floor, is_finished, step_at}
use Rattle.floor_moves.specs.Sums.{sum_of}

-- the processing steps that are left for a substrate, of so many of which so many are done: none once it is finished
abbrev pub steps_left : Bool → ℕ → ℕ → ℕ
steps_left finished all done = if finished then 0 else all - done

-- a chamber has something left to do for it: it is unfinished, and the chamber is in its next step
abbrev pub is_due : Bool → List ℕ → ℕ → Bool
is_due finished next c = not finished && is_one_of next c

-- The Dones that are still to come for a substrate at a place, by whether it is finished, its next step, the steps that are left, and
-- whether it is aligned. A step takes three: the Place in the chamber, the Process, and the Pick from there. One without a place has none
-- to come.
abbrev pub owed_at : Option Loc → Bool → List ℕ → ℕ → Bool → ℕ
owed_at None finished next left aligned = 0
owed_at (Some (slot p k)) finished next left aligned = if finished then 0 else 3 * left + 5
owed_at (Some arm) finished next left aligned = if aligned then 3 * left + 1 else 3 * left + 4
owed_at (Some aligner) finished next left aligned = if aligned then 3 * left + 2 else 3 * left + 3
owed_at (Some (chamber c)) finished next left aligned = if is_due finished next c then 3 * left else 3 * left + 2

-- the same, by the route, of which so many steps are done
abbrev pub owed_by : List (List ℕ) → ℕ → Option Loc → Bool → Bool → ℕ
owed_by route done place finished aligned = owed_at place finished (step_at done route) (steps_left finished (length route) done) aligned

-- the Dones that are still to come for the substrate of a number, where such a route is planned for each
abbrev pub owed : (ℕ → List (List ℕ)) → Floor → ℕ → ℕ
owed planned g n = owed_by (planned n) (g.steps_of n) (g.place_of n) (is_finished (g.processing n)) (g.is_aligned n)

-- the Dones that are still to come for all those that are kept and counted
abbrev pub owed_to : (ℕ → List (List ℕ)) → (ℕ → Bool) → Floor → ℕ
owed_to planned counted g = sum_of (owed planned g) (filter counted g.substrates)

-- The commands that take a substrate of so many processing steps from its slot and back: it goes to the aligner, is aligned, and goes
-- back from where it is processed, which are five with their Picks and Places; and a step takes three. That is eight, of one step.
abbrev pub commands_for : ℕ → ℕ
commands_for steps = 5 + 3 * steps

-- the commands for all those that are kept and counted, of which each takes so many steps
abbrev pub commands_of : (ℕ → ℕ) → (ℕ → Bool) → Floor → ℕ
commands_of steps counted g = sum_of (λ n. commands_for (steps n)) (filter counted g.substrates)
