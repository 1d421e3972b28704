-- The values of the equipment constants.
use Rattle.std.specs.Prelude.{◌≡◌, ℕ, Bool, true, false, ◌==◌, List, Option, Some, option_map, find, map}
use Rattle.std.specs.List.{list_all}
use Rattle.data_variables.specs.declared.val.Val.{Val}
use Rattle.data_variables.specs.declared.val.Val.TheVariants.{Number, Truth}
use Rattle.data_variables.specs.Table.{constant_ids, is_allowed}

-- the constants in the printed order, each with a value of its kind and in its range (this tool's profile, equipment
-- constants)
pub record AreConstants (values : List (ℕ × Val)) : Type 0 where
  pub in_order : map (λ (p : ℕ × Val). p.0) values ≡ constant_ids
  pub in_range : list_all (λ (p : ℕ × Val). is_allowed p.0 p.1) values ≡ true

-- the value of an ECID
abbrev pub value_of : ℕ → List (ℕ × Val) → Option Val
value_of ecid values = option_map (λ p. p.1) (find (λ p. ecid == p.0) values)

-- the number that a value is, else 0
abbrev pub number_of : Option Val → ℕ
number_of (Some (Number n)) = n
number_of other = 0

-- the truth value that a value is, else false
abbrev pub truth_of : Option Val → Bool
truth_of (Some (Truth t)) = t
truth_of other = false

-- the number of a constant that is one, else 0
abbrev pub number_in : ℕ → List (ℕ × Val) → ℕ
number_in ecid values = number_of (value_of ecid values)

-- the truth value of a constant that is one, else false
abbrev pub truth_in : ℕ → List (ℕ × Val) → Bool
truth_in ecid values = truth_of (value_of ecid values)
