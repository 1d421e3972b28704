use Rattle.std.proofs.Common.{◌≤◌, ◌∙◌, sym, ap, option_copied, arith}
use Rattle.std.proofs.lemmas.Option.{slice_get_within}
use Rattle.load_port.specs.Ports.{most_ports}
use Rattle.load_port.proofs.Places.{if_found}
use Rattle.load_port.proofs.ports.Ports.numbered.Goals as goal

pub returns-else-number-eq0-clause-few : goal.returns-else-number-eq0-clause-few
returns-else-number-eq0-clause-few c =
    let few = c.len.ensures.few in
    if_found c.get.result (c.args.number ≤ most_ports)
    (λ p found. let within = slice_get_within c.args.self.now _ p.now (sym c.get.ensures ∙ ap option_copied found) in omega (arith, within, few, c.if-number-eq0.false))
