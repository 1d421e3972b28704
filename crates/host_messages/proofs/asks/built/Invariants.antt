use Rattle.std.proofs.Common.{ℕ, ◌≡◌, ◌++◌, drop, filter, is_some}
use Rattle.gem_model.specs.Values.{status_value}
use Rattle.host_messages.proofs.asks.built.Given as goal

-- what was found stands before what the other numbers give
abbrev pub invariant-loop-vid : goal.invariant-loop-vid
invariant-loop-vid l = filter (λ (n : ℕ). is_some (status_value l.initial.seen n)) l.initial.all ≡ l.vids.items ++ filter (λ (n : ℕ). is_some (status_value l.initial.seen n)) (drop l.vid-index l.initial.all)
