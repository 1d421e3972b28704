-- What a function gave, unless memory ran out.
use Rattle.std.specs.Prelude.{◌≡◌, Result, Ok, Err}
use Rattle.item_model.specs.declared.fault.ItemFault.{ItemFault}
use Rattle.item_model.specs.declared.fault.ItemFault.TheVariants as fault

-- the answer is this fault, or memory ran out
abbrev pub Fails : {A : Type 0} → ItemFault → Result A ItemFault → Type 0
Fails fault.NoMemory answer = Unit {0}
Fails e answer = answer ≡ Err e

-- what was given, seen by view, is this answer, or memory ran out
abbrev pub Gives : {X A : Type 0} → (X → A) → Result X ItemFault → Result A ItemFault → Type 0
Gives view (Ok x) answer = answer ≡ Ok (view x)
Gives view (Err e) answer = Fails e answer
