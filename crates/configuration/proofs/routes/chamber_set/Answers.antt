use Rattle.std.proofs.Common.{◌≡◌, ◌≤◌, ◌+◌, ◌<◌, ℕ, false, List, [], ◌∷◌, ◌++◌, length, drop, get_or, Some, refl, sym, ap, subst, ◌∙◌}
use Rattle.std.proofs.lemmas.List.{drop_more}
use Rattle.toml.specs.Data.{Data, Items, item}
use Rattle.toml.specs.View.{view, items_view}
use Rattle.toml.specs.declared.value.Value.{Value}
use Rattle.tool_tasks.specs.Chambers.{has_chamber}
use Rattle.configuration.specs.Values.{has, number_in, numbers_behind}
use Rattle.configuration.proofs.ChamberSets.{IsSetOf, set_of_more}
use Rattle.configuration.proofs.routes.chamber_set.Goals as goal

-- one number more is read
one_more : (most n : ℕ) (seen : List ℕ) (d : Data) (ds : Items) → number_in 1 most d ≡ Some n → has n seen ≡ false → numbers_behind 1 most seen (item d ds) ≡ numbers_behind 1 most (seen ++ n ∷ []) ds
one_more most n seen d ds e none = rw (e, none) refl

-- the values from one on
values_from : (values : List Value) (i : ℕ) (v : Value) → i < length values → v ≡ get_or values i v → items_view (drop i values) ≡ item (view v) (items_view (drop (i + 1) values))
values_from values i v less is = ap items_view (drop_more values i v less ∙ ap (λ (x : Value). x ∷ drop (i + 1) values) (sym is))

pub loop-value-preserved : goal.loop-value-preserved
loop-value-preserved c =
    let seen = c.loop-value.invariant.0 in
    let set = c.loop-value.invariant.2 in
    let n = c.in_ok-chamber.field-0 in
    let first : 1 ≤ n = c.in_ok-chamber.ensures.least in
    let lacks : has_chamber c.loop-value.found n ≡ false = ap (λ (m : ℕ). has_chamber m n) (sym c.bits.ensures) ∙ sym c.has_chamber.ensures ∙ c.if-has_chamber.false in (
      seen ++ n ∷ [],
      c.loop-value.invariant.1
          ∙ ap (numbers_behind 1 c.args.chambers seen) (values_from c.args.values.now c.loop-value.value-index c.value-item.result c.loop-value-test.true c.value-item.is)
          ∙ one_more c.args.chambers n seen (view c.value-item.result) (items_view (drop (c.loop-value.value-index + 1) c.args.values.now)) (ap (λ (m : ℕ). number_in 1 m (view c.value-item.result)) (sym c.from.ensures) ∙ sym c.in_ok-chamber.ensures.value) (sym (set.same n first) ∙ lacks),
      subst (IsSetOf (seen ++ n ∷ [])) (sym c.with-found.ensures) (set_of_more seen c.loop-value.found n first set),
    )
