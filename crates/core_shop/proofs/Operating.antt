-- What an operator's command does that does not end the run.
use Rattle.std.proofs.Common.{◌≡◌, refl}
use Rattle.tool_events.specs.declared.event.OperCmd.{OperCmd}
use Rattle.tool_events.specs.declared.event.OperCmd.TheVariants as oper
use Rattle.tool_events.specs.declared.answer.Answer.TheVariants as answer
use Rattle.gem_model.specs.State.{State}
use Rattle.gem_model.specs.Fire.{fires}
use Rattle.gem_model.specs.Direct.{operator_rows}
use Rattle.gem_model.specs.Step.{answered, is_accepted, switched, operated}

pub not_quit : (command : OperCmd) (g : State) → (command ≡ oper.Quit → ⊥) → operated command g ≡ answered (answer.Oper (is_accepted command g)) (fires (operator_rows command) (switched command g))
not_quit oper.Quit g other = absurd (other refl)
not_quit oper.Enable g other = refl
not_quit oper.Disable g other = refl
not_quit oper.Online g other = refl
not_quit oper.Offline g other = refl
not_quit oper.Local g other = refl
not_quit oper.Remote g other = refl
not_quit (oper.Service p on) g other = refl
not_quit (oper.Access p on) g other = refl
not_quit (oper.Job j w) g other = refl
not_quit (oper.CtlJob j n) g other = refl
not_quit (oper.Up m) g other = refl
not_quit (oper.Clear n) g other = refl
not_quit (oper.Lost s) g other = refl
