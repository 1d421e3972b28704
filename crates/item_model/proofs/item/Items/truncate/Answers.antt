use Rattle.std.proofs.Common.{ap, ◌∙◌}
use Rattle.item_model.specs.Data.{first_items}
use Rattle.item_model.proofs.Lists.{items_of-first}
use Rattle.item_model.proofs.item.Items.truncate.Goals as goal

pub returns : goal.returns
returns c =
    rw c.truncate.ensures.items (items_of-first c.self.inside.items.items c.args.count ∙ ap (λ ds. first_items c.args.count ds) c.self.view_is)
