use Rattle.std.proofs.Common.{◌≡◌, ◌∙◌, ◌∷◌, [], List, ℕ, ap, take, subst, ◌≤◌}
use Rattle.host_messages.proofs.PortNumbers.{all_numbers}
use Rattle.host_messages.proofs.ports.port_numbers.Goals as goal

pub returns : goal.returns
returns c =
    c.truncate.ensures.items
    ∙ ap (λ (ns : List ℕ). take c.port_count.result ns) c.from-numbers.ensures.0
    ∙ ap (λ (n : ℕ). take n (1 ∷ 2 ∷ 3 ∷ 4 ∷ [])) c.port_count.ensures.count
    ∙ all_numbers c.args.shop.now.ports (subst (λ (n : ℕ). n ≤ 4) c.port_count.ensures.count c.port_count.ensures.few)
