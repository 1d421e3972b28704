use Rattle.configuration.proofs.One.{says_or_breaks, one_rule}
use Rattle.configuration.proofs.laws.a_text_breaks_one_rule_or_none.Goals as goal

pub returns-clause-says : goal.returns-clause-says
returns-clause-says c = says_or_breaks

pub returns-clause-one : goal.returns-clause-one
returns-clause-one c = one_rule
