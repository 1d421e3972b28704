-- What a reader gives.
use Rattle.std.specs.Prelude.{◌≡◌, Option, Some, None, Result, Ok, Err}
use Rattle.message_model.specs.declared.fault.BodyFault.{BodyFault}
use Rattle.message_model.specs.declared.fault.BodyFault.TheVariants as fault

-- the value of the form, seen by view, or illegal data where it has none; memory may run out
abbrev pub Gives : {X A : Type 0} → (X → A) → Result X BodyFault → Option A → Type 0
Gives view (Ok x) said = said ≡ Some (view x)
Gives view (Err fault.IllegalData) said = said ≡ None
Gives view (Err fault.NoMemory) said = Unit {0}
Gives view (Err fault.UnknownStream) said = ⊥
Gives view (Err fault.UnknownFunction) said = ⊥

-- the answer is what the message is read as, or memory ran out
abbrev pub Answers : {A : Type 0} → Result A BodyFault → Result A BodyFault → Type 0
Answers (Err fault.NoMemory) said = Unit {0}
Answers answer said = answer ≡ said

-- the same of an answer that is seen by view
abbrev pub AnswersAs : {X A : Type 0} → (X → A) → Result X BodyFault → Result A BodyFault → Type 0
AnswersAs view (Ok x) said = said ≡ Ok (view x)
AnswersAs view (Err fault.NoMemory) said = Unit {0}
AnswersAs view (Err e) said = said ≡ Err e
