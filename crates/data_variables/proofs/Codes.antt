-- Laws of the codes of pairs.
use Rattle.std.proofs.Common.{◌≡◌, ℕ, ◌==◌, Bool, true, false, not, cond, if◌then◌else◌, List, ◌∷◌, map, Option, Some, None, unwrap_or, option_map, find, refl, sym, ap, ◌∙◌, arith, subst, ◌+◌, ◌<◌, length, drop, get_or, add-one, drop-cons}
use Rattle.std.proofs.lemmas.Bool.Decides.{nat_tests}
use Rattle.data_variables.specs.declared.constant.Constant.{Constant}
use Rattle.data_variables.specs.declared.val.Val.{Val}
use Rattle.data_variables.specs.Table.{constant_of, takes, is_allowed}
use Rattle.data_variables.specs.Setting.{said_code, pair_code, eac}

-- the code of the first pair, where it is faulty, else that of the others
first_is : (code : ℕ) (rest : Option ℕ) → unwrap_or (cond (not (code == 0)) (Some code) rest) 0 ≡ (if code == 0 then unwrap_or rest 0 else code)
first_is code rest = by_test (code == 0) where
  by_test : (b : Bool) → unwrap_or (cond (not b) (Some code) rest) 0 ≡ (if b then unwrap_or rest 0 else code)
  by_test true = refl
  by_test false = refl

eac_is : (set : ℕ × Option Val) (sets : List (ℕ × Option Val)) → eac (set ∷ sets) ≡ (if pair_code set == 0 then eac sets else pair_code set)
eac_is set sets = first_is (pair_code set) (find (λ code. not (code == 0)) (map pair_code sets))

-- where no pair is faulty the first isn't, and none of the others
good_parts : (code rest : ℕ) → (if code == 0 then rest else code) ≡ 0 → (code ≡ 0) × (rest ≡ 0)
good_parts code rest e = (grind (arith, nat_tests), grind (arith, nat_tests))

pub good_first : (set : ℕ × Option Val) (sets : List (ℕ × Option Val)) → eac (set ∷ sets) ≡ 0 → (pair_code set ≡ 0) × (eac sets ≡ 0)
good_first set sets e = good_parts (pair_code set) (eac sets) (sym (eac_is set sets) ∙ e)

-- where no pair from a place on is faulty, the one at the place isn't, and none behind it
pub good_at : (sets : List (ℕ × Option Val)) (i : ℕ) (d : ℕ × Option Val) → i < length sets → eac (drop i sets) ≡ 0 → (pair_code (get_or sets i d) ≡ 0) × (eac (drop (i + 1) sets) ≡ 0)
good_at sets i d l e =
    let cut : drop i sets ≡ get_or sets i d ∷ drop (i + 1) sets = rw add-one (drop-cons sets i d l) in
    good_first (get_or sets i d) (drop (i + 1) sets) (sym (ap eac cut) ∙ e)

-- a value that is said is good where it is allowed
said_allowed : (c : Option Constant) (value : Val) → said_code c (Some value) ≡ 0 → unwrap_or (option_map (λ (one : Constant). takes one value) c) false ≡ true
said_allowed None value e = absurd (omega arith)
said_allowed (Some c) value e = by_test (takes c value) e where
  by_test : (b : Bool) → cond {A = ℕ} b 0 3 ≡ 0 → b ≡ true
  by_test true f = refl
  by_test false f = absurd (omega arith)

-- where no value is said the pair is faulty
none_faulty : (c : Option Constant) → said_code c None ≡ 0 → ⊥
none_faulty None e = omega arith
none_faulty (Some c) e = omega arith

-- a good pair says a value that is allowed
pub allowed : (ecid : ℕ) (value : Val) → pair_code (ecid, Some value) ≡ 0 → is_allowed ecid value ≡ true
allowed ecid value e = said_allowed (constant_of ecid) value e

-- a pair that says no value is not good
pub says_none : (set : ℕ × Option Val) → pair_code set ≡ 0 → set.1 ≡ None → ⊥
says_none set e n = none_faulty (constant_of set.0) (subst (λ (said : Option Val). said_code (constant_of set.0) said ≡ 0) n e)
