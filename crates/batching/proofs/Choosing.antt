-- The modules that have a command that was fetched, one after another.
use Rattle.std.proofs.Common.{◌≡◌, ℕ, suc, ◌+◌, ◌<◌, List, [], ◌∷◌, ◌++◌, drop, length, slice_get, Option, Some, None, refl, sym, ◌∙◌, ap, arith}
use Rattle.std.proofs.lemmas.List.{append-nil}
use Rattle.gem_ids.specs.declared.numbers.CmdNo.{CmdNo}
use Rattle.robot_moves.specs.declared.module.Module.{Module}
use Rattle.robot_moves.specs.Modules.{module_at, fetched_number}
use Rattle.batch_model.specs.declared.fetched.Fetched.{Fetched}
use Rattle.batch_model.specs.Modules.{fetched_as, fetched_from}
use Rattle.batching.proofs.Busy.{busy-joined}

-- modules are numbered from 1
command-at : (ms : List Module) (i : ℕ) (o : Option CmdNo) → o ≡ fetched_number (module_at (i + 1) ms) → o ≡ fetched_number (slice_get ms i)
command-at ms i o is =
    let behind : i + 1 ≡ suc i = omega arith in
    is ∙ ap (λ (n : ℕ). fetched_number (module_at n ms)) behind

-- the module at this place has one
pub busy-some : (all : List Fetched) (ms : List Module) (i : ℕ) (found now : List Fetched) (command : CmdNo) → i < length ms → Some command ≡ fetched_number (module_at (i + 1) ms) → found ++ fetched_from (i + 1) (drop i ms) ≡ all → now ≡ found ++ record { number = record { 0 = i + 1 }; command = command } ∷ [] → now ++ fetched_from (i + 1 + 1) (drop (i + 1) ms) ≡ all
busy-some all ms i found now command within is before added =
    busy-joined all ms i found now within before
    (added ∙ ap (λ (o : Option CmdNo). found ++ fetched_as (i + 1) o) (command-at ms i (Some command) is))

-- it has none
pub busy-none : (all : List Fetched) (ms : List Module) (i : ℕ) (found : List Fetched) → i < length ms → None ≡ fetched_number (module_at (i + 1) ms) → found ++ fetched_from (i + 1) (drop i ms) ≡ all → found ++ fetched_from (i + 1 + 1) (drop (i + 1) ms) ≡ all
busy-none all ms i found within is before =
    busy-joined all ms i found found within before
    (sym (append-nil found) ∙ ap (λ (o : Option CmdNo). found ++ fetched_as (i + 1) o) (command-at ms i None is))
