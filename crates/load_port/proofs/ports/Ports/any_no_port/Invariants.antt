use Rattle.std.proofs.Common.{◌≡◌, drop}
use Rattle.std.specs.List.{list_any}
use Rattle.load_port.specs.Ports.{is_no_port}
use Rattle.load_port.proofs.ports.Ports.any_no_port.Given as goal

abbrev pub invariant-loop-number : goal.invariant-loop-number
invariant-loop-number l =
    list_any (λ n. is_no_port n l.self) (drop l.number-index l.numbers) ≡ list_any (λ n. is_no_port n l.self) l.numbers
