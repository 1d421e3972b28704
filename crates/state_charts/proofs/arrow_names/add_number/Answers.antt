use Rattle.std.proofs.Common.{◌∙◌, arith}
use Rattle.state_charts.proofs.Digits.{number_named}
use Rattle.state_charts.proofs.arrow_names.add_number.Goals as goal

pub returns-clause-is_name : goal.returns-clause-is_name
returns-clause-is_name c =
    number_named c.extend_from_slice.result c.args.name.now.items c.extend_from_slice.new.self.items c.as_slice.result.now c.args.number (omega arith)
    (c.as_slice.ensures.value ∙ c.in_ok-digits.ensures) c.extend_from_slice.ensures.items
