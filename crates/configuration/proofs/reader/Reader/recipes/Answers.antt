use Rattle.std.proofs.Common.{◌≡◌, rules, arith}
use Rattle.std.proofs.lemmas.Grind.{common_steps}
use Rattle.toml.specs.View.{table_view}
use Rattle.configuration.specs.Rules.{recipes, said_at, taken}
use Rattle.configuration.proofs.Usable.{taken_usable}
use Rattle.configuration.proofs.reader.Reader.recipes.Goals as goal

pub returns-clause-usable : goal.returns-clause-usable
returns-clause-usable c =
    let value : c.take.result ≡ taken c.args.default (said_at (recipes c.args.version c.args.chambers) c.args.key.now (table_view c.args.self.now.table.now)) = first_of (search rules, grind (arith, common_steps)) in
    taken_usable c.args.version c.args.chambers c.args.default c.take.result c.args.key.now (table_view c.args.self.now.table.now) c.requires.chambers c.requires.usable value
