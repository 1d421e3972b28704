use Rattle.std.proofs.Common.{◌∙◌, ap, sym}
use Rattle.data_variables.specs.Values.{value_of}
use Rattle.data_variables.proofs.Rising.{lookup_is}
use Rattle.data_variables.proofs.constants.Constants.get.Goals as goal

pub returns-in-Some-clause-value : goal.returns-in-Some-clause-value
returns-in-Some-clause-value c =
    sym (rw c.if-key-ecid.true at c.in-Some.ensures.value) ∙ lookup_is c.args.ecid c.self.inside.values.entries ∙ ap (value_of c.args.ecid) c.self.view_is
