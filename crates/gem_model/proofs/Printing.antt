-- Laws of what is printed.
use Rattle.std.proofs.Common.{◌≡◌, List, [], ◌∷◌, ◌++◌, Some}
use Rattle.tool_events.specs.declared.entry.Entry.{Entry}
use Rattle.gem_model.specs.State.{State}
use Rattle.gem_model.specs.Step.{Outcome}
use Rattle.gem_model.specs.Run.{Run, entry_step}
use Rattle.gem_model.specs.Printed.{printed, entry_lines, outcome_lines}
use Rattle.gem_model.proofs.Runs.{told-snoc}

-- a run that goes on by an entry prints that entry's lines
pub printed-snoc : (g : State) (entries : List Entry) (h : State) (entry : Entry) (o : Outcome) → Run g entries h → entry_step h entry ≡ Some o → printed g (entries ++ entry ∷ []) ≡ printed g entries ++ outcome_lines entry.event o
printed-snoc g entries h entry o run here = told-snoc entry_lines g entries h entry o run here
