use Rattle.std.proofs.Common.{◌≡◌, ◌≤◌, List, [], ◌∷◌, length, Some, option_and_then, refl, sym, ap, ◌∙◌, arith}
use Rattle.toml.specs.Data.{as_array}
use Rattle.toml.specs.View.{view, items_view}
use Rattle.toml.specs.declared.value.Value.{Value}
use Rattle.configuration.specs.Values.{some_items}
use Rattle.configuration.proofs.values.filled_list.Goals as goal

-- a list that has a value
filled : (values : List Value) → 1 ≤ length values → some_items (items_view values) ≡ Some (items_view values)
filled [] some = absurd (omega arith)
filled (v ∷ vs) some = refl

pub returns-in_default : goal.returns-in_default
returns-in_default c =
    let some = filled c.as_slice.result.now c.in_default.len_at_least in
    let values : Some (items_view c.as_slice.result.now) ≡ as_array (view c.args.value.now) =
    ap (λ vs. Some (items_view vs)) c.as_slice.ensures.value ∙ c.in_ok-as_array.ensures in
    sym some ∙ ap (option_and_then some_items) values
