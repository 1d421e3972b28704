use Rattle.std.proofs.Common.{◌≡◌, ◌++◌, drop, filter, not}
use Rattle.gem_model.specs.Spooling.{faulty_functions, is_spoolable}
use Rattle.host_messages.proofs.spooling.faulty_functions.Given as goal

-- what was found stands before what the others give
abbrev pub invariant-loop-function : goal.invariant-loop-function
invariant-loop-function l =
    faulty_functions l.initial.entry ≡ l.faulty ++ filter (λ function. not (is_spoolable l.initial.entry.stream function)) (drop l.function-index l.initial.entry.functions)
