use Rattle.std.proofs.Common.{◌≡◌, map}
use Rattle.configuration.specs.Values.{has_other}
use Rattle.toml.specs.View.{members_view}
use Rattle.configuration.proofs.keys.has_other_key.Given as goal

abbrev pub invariant-loop-key : goal.invariant-loop-key
invariant-loop-key l = has_other (map (λ k. k.now) l.known) (members_view l.fn.table.entries) ≡ has_other (map (λ k. k.now) l.known) (members_view l.key-iterator)
