use Rattle.std.proofs.Common.{ap, ◌∙◌}
use Rattle.item_model.specs.Data.{added}
use Rattle.item_model.specs.View.{view}
use Rattle.item_model.proofs.Lists.{items_of-push}
use Rattle.item_model.proofs.item.Items.push.Goals as goal

pub returns-clause-ok : goal.returns-clause-ok
returns-clause-ok c =
    rw c.in_ok-push.ensures.items (items_of-push c.self.inside.items.items c.args.item ∙ ap (λ ds. added ds (view c.args.item)) c.self.view_is)
