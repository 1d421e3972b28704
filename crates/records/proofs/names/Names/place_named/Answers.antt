use Rattle.std.proofs.Common.{◌∙◌, ap, position}
use Rattle.records.specs.Names.{has_name}
use Rattle.records.proofs.Entries.{position_is}
use Rattle.records.proofs.names.Names.place_named.Goals as goal

pub returns-clause-value : goal.returns-clause-value
returns-clause-value g c =
    c.get_index_of.ensures.index
    ∙ position_is g.R.Named.name c.args.name c.self.inside.by_name.entries c.self.invariant.keyed
    ∙ ap (position (has_name g.R.Named.name c.args.name)) c.self.view_is
