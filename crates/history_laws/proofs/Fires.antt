-- The listed rows of an input are those that it fires.
use Rattle.std.proofs.Common.{Bool, if◌then◌else◌, List, [], ◌∷◌, Some, ◌≡◌, sym, subst}
use Rattle.tool_events.specs.declared.entry.Entry.{Entry}
use Rattle.gem_model.specs.State.{State, raised}
use Rattle.gem_model.specs.Inputs.{Fires}
use Rattle.gem_model.specs.Occurrences.{rows_among, occurrences}
use Rattle.gem_model.specs.Step.{Outcome}
use Rattle.gem_model.specs.Run.{entry_after}
use Rattle.gem_model.proofs.Occurring.{event_occurs}
use Rattle.history_laws.specs.Completes.{input_of}
use Rattle.history_laws.specs.Calm.{rows_of_input}
use Rattle.history_laws.specs.Fires.{EachFires}
use Rattle.history_laws.proofs.Completing.{acted_so}

pub input_fires : (g : State) (entry : Entry) (o : Outcome) → input_of g entry ≡ Some o → Fires (rows_of_input g entry) (raised g entry.at.0) o.after
input_fires g entry o here =
    let h : State = raised g entry.at.0 in
    let acted = acted_so g entry o here in
    subst (λ (b : Bool). Fires (if b then [] else rows_among (occurrences g.moment h entry.event)) h o.after) (sym acted.0) (event_occurs g.moment h o entry.event acted.1).fires

pub each_fires : (g : State) (entries : List Entry) → EachFires g entries
each_fires g [] = tt
each_fires g (entry ∷ entries) = (input_fires g entry, each_fires (entry_after g entry) entries)
