-- Whether a module is to process a substrate that waits for it.
use Rattle.std.specs.Prelude.{Bool, false, ◌&&◌, List, Option, Some, None}
use Rattle.std.specs.List.{list_any}
use Rattle.robot_moves.specs.declared.module.Module.{Module}
use Rattle.substrate.specs.Record.{is_needing}
use Rattle.floor_model.specs.declared.tracked.Substrate.{Substrate}
use Rattle.floor_model.specs.Naming.{processes}

-- the module, where there is one, has an open command that processes a substrate that NEEDS PROCESSING
abbrev pub is_due_at : Option Module → List Substrate → Bool
is_due_at None ss = false
is_due_at (Some m) ss = list_any (λ s. is_needing s.states.processing && processes s.sub m) ss
