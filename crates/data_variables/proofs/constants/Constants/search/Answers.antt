use Rattle.std.proofs.Common.{◌∙◌, ap}
use Rattle.data_variables.specs.Values.{value_of}
use Rattle.data_variables.proofs.Rising.{lookup_is}
use Rattle.data_variables.proofs.constants.Constants.search.Goals as goal

pub returns : goal.returns
returns c =
    c.copied.ensures ∙ c.get.ensures.value ∙ lookup_is c.args.ecid c.self.inside.values.entries ∙ ap (value_of c.args.ecid) c.self.view_is
