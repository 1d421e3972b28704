-- The simulated modules of a batch, and which is done next (this tool's profile, batch).
use Rattle.std.specs.Prelude.{ℕ, ◌+◌, ◌/◌, ◌%◌, ◌^◌, List, [], ◌∷◌, ◌++◌, length, slice_get, Option, Some, None}
use Rattle.gem_ids.specs.declared.numbers.CmdNo.{CmdNo}
use Rattle.robot_moves.specs.declared.module.Module.{Module}
use Rattle.robot_moves.specs.Modules.{fetched_number}
use Rattle.batch_model.specs.declared.fetched.Fetched.{Fetched}

-- the module of this number, where it has such a command
abbrev pub fetched_as : ℕ → Option CmdNo → List Fetched
fetched_as n None = []
fetched_as n (Some command) = record { number = record { 0 = n }; command = command } ∷ []

-- the modules that have one, in the order of their numbers, the first of which is given
abbrev pub fetched_from : ℕ → List Module → List Fetched
fetched_from n [] = []
fetched_from n (m ∷ ms) = fetched_as n (fetched_number (Some m)) ++ fetched_from (n + 1) ms

-- The one that a drawn number chooses: its first 31 bits, modulo their count, are the place in their order, counted from 0 (this
-- tool's profile, batch). None where there are none.
abbrev pub chosen : ℕ → List Fetched → Option Fetched
chosen x [] = None
chosen x (m ∷ ms) = slice_get (m ∷ ms) ((x / 2 ^ 33) % length (m ∷ ms))
