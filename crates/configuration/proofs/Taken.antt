-- What stands behind a value that was taken.
use Rattle.std.proofs.Common.{◌≡◌, ◌≤◌, ℕ, nat_le, Bool, true, false, if◌then◌else◌, Option, Some, None, option_map, refl, sym, ap, ◌∙◌, arith}
use Rattle.std.proofs.lemmas.Bool.{and_parts}
use Rattle.std.proofs.lemmas.Bool.Decides.{nat_tests}
use Rattle.std.proofs.lemmas.Option.{option_and_then_some}
use Rattle.toml.specs.Data.{Data, Items, no_items, item, as_array}
use Rattle.configuration.specs.Values.{passing, as_natural, is_between, number_in, some_items, filled_list}

-- what was made of a value was made of one that was there
pub option_map_some : {A B P : Type 0} (f : A → B) (o : Option A) (y : B) → option_map f o ≡ Some y → ((x : A) → o ≡ Some x → f x ≡ y → P) → P
option_map_some f None y e goes = absurd (cc)
option_map_some f (Some x) y e goes = goes x refl (cc)

-- what is taken where a test fails passes nothing
pub unless_some : {A : Type 0} (b : Bool) (o : Option A) (x : A) → (if b then None else o) ≡ Some x → o ≡ Some x
unless_some true o x e = absurd (cc)
unless_some false o x e = e

-- what passes a test is the value, which meets it
pub passing_same : {A : Type 0} (test : A → Bool) (x y : A) → passing test x ≡ Some y → x ≡ y
passing_same test x y e = of (test x) e where
  of : (b : Bool) → (if b then Some x else None) ≡ Some y → x ≡ y
  of true e = cc
  of false e = absurd (cc)

pub passing_some : {A : Type 0} (test : A → Bool) (x y : A) → passing test x ≡ Some y → test y ≡ true
passing_some test x y e = of (test x) refl e where
  of : (b : Bool) → test x ≡ b → (if b then Some x else None) ≡ Some y → test y ≡ true
  of true is e = let same : x ≡ y = cc in ap test (sym same) ∙ is
  of false is e = absurd (cc)

-- a number that is taken lies between its bounds
pub record Lies (least most n : ℕ) : Type 0 where
  pub first : least ≤ n
  pub last : n ≤ most

pub number_lies : (least most n : ℕ) (d : Data) → number_in least most d ≡ Some n → Lies least most n
number_lies least most n d e =
    option_and_then_some (passing (is_between least most)) (as_natural d) n e
    (λ k there passes.
    let lies = and_parts (nat_le least n) (nat_le n most) (passing_some (is_between least most) k n passes) in
    let a = lies.0 in
    let b = lies.1 in
    record { first = grind (arith, nat_tests, a); last = grind (arith, nat_tests, b) })

-- a list that isn't empty has a first value
pub record HasFirst (ds : Items) : Type 0 where
  pub first : Data
  pub rest : Items
  pub is : item first rest ≡ ds

pub filled_list_some : (d : Data) (ds : Items) → filled_list d ≡ Some ds → HasFirst ds
filled_list_some d ds e = option_and_then_some some_items (as_array d) ds e of where
  of : (items : Items) → as_array d ≡ Some items → some_items items ≡ Some ds → HasFirst ds
  of no_items there e = absurd (cc)
  of (item first rest) there e = record { first = first; rest = rest; is = cc }
