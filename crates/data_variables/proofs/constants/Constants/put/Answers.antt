use Rattle.std.proofs.Common.{◌≡◌, ◌∙◌, ◌==◌, ap, sym, subst, ℕ, List, None}
use Rattle.std.specs.Option.{option_copied_mut}
use Rattle.std.specs.Map.{lookup}
use Rattle.data_variables.specs.declared.constants.Constants.TheInside.{Inside}
use Rattle.data_variables.specs.declared.val.Val.{Val}
use Rattle.data_variables.specs.Setting.{with_value}
use Rattle.data_variables.specs.Values.{AreConstants}
use Rattle.data_variables.proofs.Rising.{absent_stays, set_value_is, constants_rise, constants_with_value}
use Rattle.data_variables.proofs.constants.Constants.put.Goals.{in-Some, in_default, Joined-get_mut}
use Rattle.data_variables.proofs.constants.Constants.put.Goals as goal

-- the constant has the value
put : (c : Joined-get_mut) → c.match-get_mut.self-inside.values.entries ≡ with_value c.args.ecid c.args.value c.self.inside.values.entries
put c = elim c.match-get_mut.branch [
  | in-Some w ↦
      ap (λ (i : Inside). i.values.entries) w.self-inside-is
      ∙ (c.get_mut.follows.holds c.args.value).0
      ∙ set_value_is c.args.ecid c.args.value c.self.inside.values.entries (constants_rise _ c.self.invariant)
  | in_default w ↦
      let none : lookup (λ k. c.args.ecid == k) c.self.inside.values.entries ≡ None = sym c.get_mut.ensures.value ∙ ap option_copied_mut w.in_default.is in
      ap (λ (i : Inside). i.values.entries) w.self-inside-is
      ∙ ap (λ m. m.entries) c.get_mut.follows.holds-at-none
      ∙ sym (absent_stays c.args.ecid c.args.value c.self.inside.values.entries none)
]

pub invariant_of-self : goal.invariant_of-self
invariant_of-self c =
    subst AreConstants (sym (put c)) (constants_with_value c.args.ecid c.args.value c.self.inside.values.entries c.requires c.self.invariant)

pub returns : goal.returns
returns c = put c ∙ ap (λ (vs : List (ℕ × Val)). with_value c.args.ecid c.args.value vs) c.self.view_is
