use Rattle.std.proofs.Common.{◌∙◌, ap}
use Rattle.records.specs.Names.{record_named}
use Rattle.records.proofs.Entries.{lookup_is}
use Rattle.records.proofs.names.Names.named.Goals as goal

pub returns-clause-value : goal.returns-clause-value
returns-clause-value g c =
    c.get.ensures.value
    ∙ lookup_is g.R.Named.name c.args.name c.self.inside.by_name.entries c.self.invariant.keyed
    ∙ ap (record_named g.R.Named.name c.args.name) c.self.view_is
