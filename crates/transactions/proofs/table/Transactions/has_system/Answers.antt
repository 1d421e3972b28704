use Rattle.std.proofs.Common.{◌==◌, ◌∙◌}
use Rattle.transactions.specs.declared.transaction.Open.{Open}
use Rattle.transactions.proofs.Finding.{found-any}
use Rattle.transactions.proofs.table.Transactions.has_system.Goals as goal

pub returns-clause-answer : goal.returns-clause-answer
returns-clause-answer c =
    c.is_some.ensures ∙ found-any (λ (one : Open). one.system == c.args.system) c.args.self.now.opened c.place_of.result c.place_of.ensures.within c.place_of.ensures.first c.place_of.ensures.none
