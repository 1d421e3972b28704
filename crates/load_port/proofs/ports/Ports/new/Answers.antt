use Rattle.std.proofs.Common.{◌∙◌, ap, take, [], ◌∷◌, List}
use Rattle.load_port.specs.declared.port.Port.{Port}
use Rattle.load_port.proofs.First.{first_taken}
use Rattle.load_port.proofs.ports.Ports.new.Goals as goal

pub returns : goal.returns
returns c =
    c.truncate.ensures.items
    ∙ ap (λ (ps : List Port). take c.args.count ps) (c.from-ports.ensures.0 ∙ ap (λ (p : Port). p ∷ p ∷ p ∷ p ∷ []) c.new.ensures)
    ∙ first_taken c.args.count 4 c.requires
