use Rattle.std.proofs.Common.{◌≡◌, length, arith, sym, ap, ◌∙◌}
use Rattle.item_model.specs.Plain.{count_of}
use Rattle.item_model.proofs.Lists.{count_of-items_of}
use Rattle.item_model.proofs.item.Items.len.Goals as goal

pub returns : goal.returns
returns c =
    let count : length c.self.inside.items.items ≡ count_of c.args.self.now =
    sym (count_of-items_of c.self.inside.items.items) ∙ ap (λ ds. count_of ds) c.self.view_is in
    omega (arith, c.len.ensures, count)
